-- Deferred acceptance: what holds from turn to turn, and that it ends at the best allocation.
use Rattle.std.proofs.Common.{◌≡◌, ◌≢◌, ◌⊎◌, ℕ, ◌+◌, ◌<◌, ◌≤◌, List, length, set, Option, None, Some, true, false, inl, inr, refl, sym, ap, ◌∙◌, subst, arith, length-set}
use Rattle.std.specs.List.{slice_get}
use Rattle.std.proofs.lemmas.Option.{none-some, same_Some}
use Rattle.adm_types.specs.Code.{has}
use Rattle.adm_lists.proofs.Counts.{one_if}
use Rattle.adm_match.specs.declared.problem.Wish.{Wish}
use Rattle.adm_match.specs.declared.progress.Progress.{Progress}
use Rattle.adm_match.specs.Market.{Code, Candidate, Market, assigned_rank, is_tenant, ranks_before, quota_of}
use Rattle.adm_match.specs.Turns.{held_at, IsHeldByNext, Shaped, NoneLost, IsGuestAt, IsRejected, Sound}
use Rattle.adm_match.proofs.SideBySide.{after_set, count_set}
use Rattle.adm_match.proofs.RanksAndBlocks.{has_true, has_false, not_has, same_or_not}

-- what holds once the entrant at i has proposed to the school s, and s may hold one too many
pub record Arrived (m : Market) (rows : List Progress) (i : ℕ) (s : Code) : Type 0 where
  pub shaped : Shaped m rows
  pub within_quota_there : (t : Code) (k : ℕ) (e : Candidate) → t ≢ s → IsGuestAt m.entrants rows t k e → held_at rows t ≤ quota_of m.seats t
  pub within_quota_here : (k : ℕ) (e : Candidate) → k ≢ i → IsGuestAt m.entrants rows s k e → held_at rows s ≤ quota_of m.seats s + 1
  pub rejected_there : (k : ℕ) (e : Candidate) (r : Progress) (j : ℕ) (w : Wish) → slice_get m.entrants k ≡ Some e → slice_get rows k ≡ Some r → j < r.rejections
      → slice_get e.list j ≡ Some w → w.school ≢ s → IsRejected m rows e w.school
  pub guest_here : (k : ℕ) (e : Candidate) (r : Progress) (j : ℕ) (w : Wish) → slice_get m.entrants k ≡ Some e → slice_get rows k ≡ Some r → j < r.rejections
      → slice_get e.list j ≡ Some w → w.school ≡ s → is_tenant e s ≡ false
  pub full_here : (k : ℕ) (e : Candidate) (r : Progress) (j : ℕ) (w : Wish) → slice_get m.entrants k ≡ Some e → slice_get rows k ≡ Some r → j < r.rejections
      → slice_get e.list j ≡ Some w → w.school ≡ s → quota_of m.seats s + 1 ≤ held_at rows s
  pub outranked_here : (k : ℕ) (e : Candidate) (r : Progress) (j : ℕ) (w : Wish) → slice_get m.entrants k ≡ Some e → slice_get rows k ≡ Some r → j < r.rejections
      → slice_get e.list j ≡ Some w → w.school ≡ s → (l : ℕ) (d : Candidate) → l ≢ i → IsGuestAt m.entrants rows s l d → ranks_before s d e ≡ true
  pub none_lost : NoneLost m rows

-- a school that holds nobody new holds as many
pub held_set_other : (rows : List Progress) (i : ℕ) (r v : Progress) (t : Code) → slice_get rows i ≡ Some r → has r.school t ≡ false → has v.school t ≡ false
    → held_at (set rows i v) t ≡ held_at rows t
held_set_other rows i r v t at was is =
    let e = count_set (λ row. has row.school t) rows i r v at in
    let w : one_if (has r.school t) ≡ 0 = ap one_if was in
    let n : one_if (has v.school t) ≡ 0 = ap one_if is in
    omega (arith, e, w, n)

pub held_set_more : (rows : List Progress) (i : ℕ) (r v : Progress) (t : Code) → slice_get rows i ≡ Some r → has r.school t ≡ false → has v.school t ≡ true
    → held_at (set rows i v) t ≡ held_at rows t + 1
held_set_more rows i r v t at was is =
    let e = count_set (λ row. has row.school t) rows i r v at in
    let w : one_if (has r.school t) ≡ 0 = ap one_if was in
    let n : one_if (has v.school t) ≡ 1 = ap one_if is in
    omega (arith, e, w, n)

pub held_set_less : (rows : List Progress) (i : ℕ) (r v : Progress) (t : Code) → slice_get rows i ≡ Some r → has r.school t ≡ true → has v.school t ≡ false
    → held_at (set rows i v) t + 1 ≡ held_at rows t
held_set_less rows i r v t at was is =
    let e = count_set (λ row. has row.school t) rows i r v at in
    let w : one_if (has r.school t) ≡ 1 = ap one_if was in
    let n : one_if (has v.school t) ≡ 0 = ap one_if is in
    omega (arith, e, w, n)

pub none_has : (o : Option Code) (s : Code) → o ≡ None → has o s ≡ false
none_has o s e = has_false o s (λ h. none-some s (sym e ∙ h))

pub other_has : (o : Option Code) (s t : Code) → o ≡ Some s → t ≢ s → has o t ≡ false
other_has o s t e n = has_false o t (λ h. n (same_Some t s (sym h ∙ e)))

-- a row after a write: the old one, or the written one
abbrev Written : List Progress → ℕ → Progress → ℕ → Progress → Type 0
Written rows i v k x = ((k ≡ i) × (v ≡ x)) ⊎ ((k ≢ i) × (slice_get rows k ≡ Some x))

-- the entrants at one index are one
pub same_entrant : (m : Market) (i k : ℕ) (d e : Candidate) → slice_get m.entrants i ≡ Some d → slice_get m.entrants k ≡ Some e → k ≡ i → d ≡ e
same_entrant m i k d e a b h = same_Some d e (sym a ∙ (ap (slice_get m.entrants) (sym h) ∙ b))

-- a fact about each entrant and its row is kept by a write that keeps it
pub held_fact : (P : Candidate → Progress → Type 0) (m : Market) (rows : List Progress) (i : ℕ) (d : Candidate) (v : Progress) → slice_get m.entrants i ≡ Some d → P d v
    → ((k : ℕ) (e : Candidate) (r : Progress) → slice_get m.entrants k ≡ Some e → slice_get rows k ≡ Some r → P e r) → (k : ℕ) (e : Candidate) (r : Progress)
    → slice_get m.entrants k ≡ Some e → slice_get (set rows i v) k ≡ Some r → P e r
held_fact P m rows i d v at here all k e r ek rk =
    elim (after_set rows i k v r rk) [
      | inl h ↦ subst (λ (x : Progress). P e x) h.1 (subst (λ (x : Candidate). P x v) (same_entrant m i k d e at ek h.0) here)
      | inr h ↦ all k e r ek h.1
    ]

-- a write keeps the shape
pub shaped_set : (m : Market) (rows : List Progress) (i : ℕ) (d : Candidate) (v : Progress) → Shaped m rows → slice_get m.entrants i ≡ Some d → v.child ≡ d.child
    → IsHeldByNext d v → v.rejections ≤ length d.list → Shaped m (set rows i v)
shaped_set m rows i d v h at child holds within = record {
  same = length-set rows i v ∙ h.same;
  children = held_fact (λ e r. r.child ≡ e.child) m rows i d v at child h.children;
  holds = held_fact IsHeldByNext m rows i d v at holds h.holds;
  within = held_fact (λ e r. r.rejections ≤ length e.list) m rows i d v at within h.within;
}

-- a guest after a write, of a school that the written row does not name, was one before
pub guest_before : (m : Market) (rows : List Progress) (i : ℕ) (v : Progress) (s : Code) (k : ℕ) (e : Candidate) → has v.school s ≡ false
    → IsGuestAt m.entrants (set rows i v) s k e → (k ≢ i) × IsGuestAt m.entrants rows s k e
guest_before m rows i v s k e out g =
    elim (after_set rows i k v g.1.0 g.1.1) [
      | inl h ↦ absurd (not_has v.school s out (ap (λ x. x.school) h.1 ∙ g.1.2))
      | inr h ↦ (h.0, (g.0, (g.1.0, h.1, g.1.2), g.2))
    ]

-- the same, at another index
guest_elsewhere : (m : Market) (rows : List Progress) (i : ℕ) (v : Progress) (s : Code) (k : ℕ) (e : Candidate) → k ≢ i → IsGuestAt m.entrants (set rows i v) s k e → IsGuestAt m.entrants rows s k e
guest_elsewhere m rows i v s k e apart g =
    elim (after_set rows i k v g.1.0 g.1.1) [
      | inl h ↦ absurd (apart h.0)
      | inr h ↦ (g.0, (g.1.0, h.1, g.1.2), g.2)
    ]

-- An entrant that no school holds proposes to the next school of its list.
pub arrive : (m : Market) (rows : List Progress) (i : ℕ) (d : Candidate) (r : Progress) (w : Wish) → Sound m rows → slice_get m.entrants i ≡ Some d
    → slice_get rows i ≡ Some r → r.school ≡ None → slice_get d.list r.rejections ≡ Some w → Arrived m (set rows i (record r { school = Some w.school })) i w.school
arrive m rows i d r w h at row free next =
    let v : Progress = record r { school = Some w.school } in
    let s = w.school in
    let more : held_at (set rows i v) s ≡ held_at rows s + 1 = held_set_more rows i r v s row (none_has r.school s free) (has_true v.school s refl) in
    let others : (t : Code) → t ≢ s → held_at (set rows i v) t ≡ held_at rows t = λ t n. held_set_other rows i r v t row (none_has r.school t free) (other_has v.school s t refl n) in
    let out : (t : Code) → t ≢ s → has v.school t ≡ false = λ t n. other_has v.school s t refl n in
    -- what rejected an entrant is in the old rows, too
    let back : (k : ℕ) (e : Candidate) (x : Progress) (j : ℕ) (z : Wish) → slice_get m.entrants k ≡ Some e → slice_get (set rows i v) k ≡ Some x → j < x.rejections
    → slice_get e.list j ≡ Some z → IsRejected m rows e z.school
    = λ k e x j z ek xk l jz. elim (after_set rows i k v x xk) [
      | inl g ↦ h.rejected k e r j z ek (ap (slice_get rows) g.0 ∙ row) (omega (arith, ap (λ y. y.rejections) g.1)) jz
      | inr g ↦ h.rejected k e x j z ek g.1 l jz
    ] in
    record {
      shaped = shaped_set m rows i d v h.shaped at (h.shaped.children i d r at row) (inr (w, next, refl)) (h.shaped.within i d r at row);
      within_quota_there = λ t k e n g. rw (others t n) (h.within_quota t k e (guest_before m rows i v t k e (out t n) g).1);
      within_quota_here = λ k e apart g. omega (arith, more, h.within_quota s k e (guest_elsewhere m rows i v s k e apart g));
      rejected_there = λ k e x j z ek xk l jz n. let was = back k e x j z ek xk l jz in record {
        guest = was.guest;
        full = rw (others z.school n) was.full;
        outranked = λ q c g. was.outranked q c (guest_before m rows i v z.school q c (out z.school n) g).1;
      };
      guest_here = λ k e x j z ek xk l jz here. subst (λ (t : Code). is_tenant e t ≡ false) here (back k e x j z ek xk l jz).guest;
      full_here = λ k e x j z ek xk l jz here. let f = subst (λ (t : Code). quota_of m.seats t ≤ held_at rows t) here (back k e x j z ek xk l jz).full in omega (arith, more, f);
      outranked_here = λ k e x j z ek xk l jz here q c apart g. (subst (λ (t : Code). IsRejected m rows e t) here (back k e x j z ek xk l jz)).outranked q c (guest_elsewhere m rows i v s q c apart g);
      none_lost = λ o wide a stable. held_fact (λ e x. x.rejections ≤ assigned_rank e.list (a e.child)) m rows i d v at (h.none_lost o wide a stable i d r at row) (h.none_lost o wide a stable);
    }

-- Nobody is rejected: the school has room, or holds tenants alone.
pub stay : (m : Market) (rows : List Progress) (i : ℕ) (s : Code) → Arrived m rows i s
    → (held_at rows s ≤ quota_of m.seats s) ⊎ ((k : ℕ) (e : Candidate) → IsGuestAt m.entrants rows s k e → ⊥) → Sound m rows
stay m rows i s h may_stay = record {
  shaped = h.shaped;
  within_quota = λ t k e g. elim (same_or_not t s) [
    | inl here ↦ elim may_stay [
      | inl room ↦ subst (λ (u : Code). held_at rows u ≤ quota_of m.seats u) (sym here) room
      | inr alone ↦ absurd (alone k e (subst (λ (u : Code). IsGuestAt m.entrants rows u k e) here g))
    ]
    | inr there ↦ h.within_quota_there t k e there g
  ];
  rejected = λ k e r j w ek rk l jw. elim (same_or_not w.school s) [
    | inl here ↦ subst (λ (t : Code). IsRejected m rows e t) (sym here) (record {
      guest = h.guest_here k e r j w ek rk l jw here;
      full = omega (arith, h.full_here k e r j w ek rk l jw here);
      outranked = λ q c g. elim may_stay [
        | inl room ↦ absurd (omega (arith, room, h.full_here k e r j w ek rk l jw here))
        | inr alone ↦ absurd (alone q c g)
      ];
    })
    | inr there ↦ h.rejected_there k e r j w ek rk l jw there
  ];
  none_lost = h.none_lost;
}
