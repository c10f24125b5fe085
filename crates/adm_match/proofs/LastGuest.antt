-- The guest that ranks last among those before an index.
use Rattle.std.proofs.Common.{◌≡◌, ◌≢◌, ◌&&◌, not, ℕ, ◌+◌, ◌<◌, ◌≤◌, List, Some, true, false, inl, inr, refl, sym, ap, ◌∙◌, subst, arith}
use Rattle.std.specs.List.{slice_get}
use Rattle.std.proofs.lemmas.Bool.{cases_lt, cases_eq, and_parts, and_from, not-true, not_from_false, false≢true}
use Rattle.std.proofs.lemmas.Option.{same_Some}
use Rattle.adm_types.specs.Code.{has}
use Rattle.adm_match.specs.declared.progress.Progress.{Progress}
use Rattle.adm_match.specs.Market.{Code, Candidate, is_tenant, ranks_before}
use Rattle.adm_match.specs.Turns.{IsGuestAt, AreRanked}
use Rattle.adm_match.proofs.RanksAndBlocks.{has_tells, has_true, ranks_before_trans}

-- the school has no guest before the index i
abbrev pub NoGuestBelow : List Candidate → List Progress → Code → ℕ → Type 0
NoGuestBelow entrants rows s i = (k : ℕ) (e : Candidate) → k < i → IsGuestAt entrants rows s k e → ⊥

-- of the guests before the index i, the one at k ranks last
abbrev pub IsLastBelow : List Candidate → List Progress → Code → ℕ → ℕ → Type 0
IsLastBelow entrants rows s i k =
    (d : Candidate) × (k < i) × IsGuestAt entrants rows s k d × ((l : ℕ) (c : Candidate) → l < i → l ≢ k → IsGuestAt entrants rows s l c → ranks_before s c d ≡ true)

-- two guests at one index are one
same_guest : (entrants : List Candidate) (rows : List Progress) (s : Code) (k l : ℕ) (d e : Candidate) → IsGuestAt entrants rows s k d → slice_get entrants l ≡ Some e → k ≡ l → d ≡ e
same_guest entrants rows s k l d e g at h = same_Some d e (sym g.0 ∙ (ap (slice_get entrants) h ∙ at))

-- the index i has no guest
pub none_more : (entrants : List Candidate) (rows : List Progress) (s : Code) (i : ℕ) → NoGuestBelow entrants rows s i
    → ((e : Candidate) → IsGuestAt entrants rows s i e → ⊥) → NoGuestBelow entrants rows s (i + 1)
none_more entrants rows s i before here k e l g = elim (cases_lt k i) [
  | inl less ↦ before k e less g
  | inr most ↦ here e (subst (λ (n : ℕ). IsGuestAt entrants rows s n e) (omega arith) g)
]

pub last_more : (entrants : List Candidate) (rows : List Progress) (s : Code) (i k : ℕ) → IsLastBelow entrants rows s i k
    → ((e : Candidate) → IsGuestAt entrants rows s i e → ⊥) → IsLastBelow entrants rows s (i + 1) k
last_more entrants rows s i k before here = (
  before.0,
  omega (arith, before.1),
  before.2,
  λ l c below apart g. elim (cases_lt l i) [
    | inl less ↦ before.3 l c less apart g
    | inr most ↦ absurd (here c (subst (λ (n : ℕ). IsGuestAt entrants rows s n c) (omega arith) g))
  ],
)

-- the first guest
pub last_first : (entrants : List Candidate) (rows : List Progress) (s : Code) (i : ℕ) (e : Candidate) → NoGuestBelow entrants rows s i → IsGuestAt entrants rows s i e
    → IsLastBelow entrants rows s (i + 1) i
last_first entrants rows s i e before here = (e, omega arith, here, λ l c below apart g. absurd (before l c (omega (arith, below, apart)) g))

-- a guest that ranks after the last so far
pub last_takes : (entrants : List Candidate) (rows : List Progress) (s : Code) (i k : ℕ) (d e : Candidate) → IsLastBelow entrants rows s i k
    → IsGuestAt entrants rows s i e → slice_get entrants k ≡ Some d → ranks_before s d e ≡ true → IsLastBelow entrants rows s (i + 1) i
last_takes entrants rows s i k d e before here at after = (
  e,
  omega arith,
  here,
  λ l c below apart g.
      let d_is : before.0 ≡ d = same_guest entrants rows s k k before.0 d before.2 at refl in
      elim (cases_eq l k) [
        | inl same ↦ subst (λ (x : Candidate). ranks_before s x e ≡ true) (sym (same_guest entrants rows s l k c d g at same)) after
        | inr other ↦ ranks_before_trans s c d e (subst (λ (x : Candidate). ranks_before s c x ≡ true) d_is (before.3 l c (omega (arith, below, apart)) other g)) after
      ],
)

-- a guest that ranks before the last so far
pub last_stays : (entrants : List Candidate) (rows : List Progress) (s : Code) (i k : ℕ) (d e : Candidate) → AreRanked entrants rows s → IsLastBelow entrants rows s i k
    → IsGuestAt entrants rows s i e → slice_get entrants k ≡ Some d → ranks_before s d e ≡ false → IsLastBelow entrants rows s (i + 1) k
last_stays entrants rows s i k d e ranked before here at after =
    let d_is : before.0 ≡ d = same_guest entrants rows s k k before.0 d before.2 at refl in (
      before.0,
      omega (arith, before.1),
      before.2,
      λ l c below apart g. elim (cases_lt l i) [
        | inl less ↦ before.3 l c less apart g
        | inr most ↦
            let l_is : l ≡ i = omega (arith, below, most) in
            let c_is : c ≡ e = same_guest entrants rows s l i c e g here.0 l_is in
            subst (λ (x : Candidate). ranks_before s x before.0 ≡ true) (sym c_is)
            (ranked k i before.0 e (λ h. apart (l_is ∙ sym h)) before.2 here (subst (λ (x : Candidate). ranks_before s x e ≡ false) (sym d_is) after))
      ],
    )

-- what the test of an index says
pub guest_at : (entrants : List Candidate) (rows : List Progress) (s : Code) (i : ℕ) (e : Candidate) (r : Progress) → slice_get entrants i ≡ Some e
    → slice_get rows i ≡ Some r → (has r.school s && not (is_tenant e s)) ≡ true → IsGuestAt entrants rows s i e
guest_at entrants rows s i e r ei ri h =
    let parts = and_parts (has r.school s) (not (is_tenant e s)) h in
    (ei, (r, ri, (has_tells r.school s).0 parts.0), not-true (is_tenant e s) parts.1)

pub no_guest_at : (entrants : List Candidate) (rows : List Progress) (s : Code) (i : ℕ) (e : Candidate) (r : Progress) → slice_get entrants i ≡ Some e
    → slice_get rows i ≡ Some r → (has r.school s && not (is_tenant e s)) ≡ false → (d : Candidate) → IsGuestAt entrants rows s i d → ⊥
no_guest_at entrants rows s i e r ei ri h d g =
    let d_is : d ≡ e = same_Some d e (sym g.0 ∙ ei) in
    let r_is : g.1.0 ≡ r = same_Some g.1.0 r (sym g.1.1 ∙ ri) in
    let here : r.school ≡ Some s = subst (λ (x : Progress). x.school ≡ Some s) r_is g.1.2 in
    let free : is_tenant e s ≡ false = subst (λ (x : Candidate). is_tenant x s ≡ false) d_is g.2 in
    false≢true (sym h ∙ and_from (has r.school s) (not (is_tenant e s)) (has_true r.school s here) (not_from_false (is_tenant e s) free))
