-- What ranks and blocks say of a problem: `has`, `preference_rank`, `ranks_before`, `blocks`.
use Rattle.std.proofs.Common.{◌≡◌, ◌≢◌, ◌⊎◌, ℕ, ◌<◌, List, [], ◌∷◌, length, Option, None, Some, Bool, true, false, not, Decides, inl, inr, sym, ap, ◌∙◌, subst, arith}
use Rattle.std.specs.Prelude.{All, bytes_eq, unwrap_or}
use Rattle.std.specs.List.{slice_get, list_any, position, position_or_len}
use Rattle.std.proofs.lemmas.Bool.{cases_Bool, false≢true, and_from, and_parts, not_from_false, not-true}
use Rattle.std.proofs.lemmas.Bool.Decides.{nat_tests}
use Rattle.std.proofs.lemmas.Slice.Eq.{bytes_eq-Decides}
use Rattle.std.proofs.lemmas.Option.{none-some, same_Some, slice_get_within, slice_get-get_or, get_or_from_slice_get}
use Rattle.std.proofs.lemmas.List.Sums.{passes_at_first, prefix_len-le-length}
use Rattle.std.proofs.lemmas.List.Folds.{list_any_at, Any-from_list_any}
use Rattle.adm_types.specs.Code.{has}
use Rattle.adm_rank.specs.declared.keys.RankKey.{RankKey}
use Rattle.adm_match.specs.declared.problem.Wish.{Wish}
use Rattle.adm_rank.specs.Ranking.{precedes}
use Rattle.adm_match.specs.Market.{Code, Candidate, preference_rank, assigned_rank, is_tenant, key_at, both_precede, ranks_before}
use Rattle.adm_match.specs.Stability.{Allocation, is_guest}

pub has_tells : (o : Option Code) (s : Code) → Decides (has o s) (o ≡ Some s)
has_tells None s = (λ e. absurd (false≢true e), λ e. absurd (none-some s e))
has_tells (Some t) s = (λ e. ap Some ((bytes_eq-Decides t s).0 e), λ e. (bytes_eq-Decides t s).1 (same_Some t s e))

pub has_true : (o : Option Code) (s : Code) → o ≡ Some s → has o s ≡ true
has_true o s e = (has_tells o s).1 e

pub has_false : (o : Option Code) (s : Code) → (o ≡ Some s → ⊥) → has o s ≡ false
has_false o s n = elim (cases_Bool (has o s)) [ inl h ↦ absurd (n ((has_tells o s).0 h)) | inr h ↦ h ]

pub not_has : (o : Option Code) (s : Code) → has o s ≡ false → o ≡ Some s → ⊥
not_has o s f e = false≢true (sym f ∙ has_true o s e)

-- two codes are the same or not
pub same_or_not : (s t : Code) → (s ≡ t) ⊎ (s ≢ t)
same_or_not s t = elim (cases_Bool (bytes_eq s t)) [
  | inl e ↦ inl ((bytes_eq-Decides s t).0 e)
  | inr e ↦ inr (λ h. false≢true (sym e ∙ (bytes_eq-Decides s t).1 h))
]

-- between `All`, `Any` and an element at its index
pub at_All : {X : Type 0} (P : X → Type 0) (xs : List X) (k : ℕ) (x : X) → All P xs → slice_get xs k ≡ Some x → P x
at_All P xs k x h e = subst P (get_or_from_slice_get xs k x x e) (h k x (slice_get_within xs k x e))

pub All_at : {X : Type 0} (P : X → Type 0) (xs : List X) → ((k : ℕ) (x : X) → slice_get xs k ≡ Some x → P x) → All P xs
All_at P xs h k d l = h k _ (slice_get-get_or xs k d l)

pub list_any_of : {X : Type 0} (p : X → Bool) (xs : List X) (k : ℕ) (x : X) → slice_get xs k ≡ Some x → p x ≡ true → list_any p xs ≡ true
list_any_of p xs k x e h = list_any_at p xs k x (slice_get_within xs k x e) (ap p (get_or_from_slice_get xs k x x e) ∙ h)

pub list_any_gives : {X : Type 0} (p : X → Bool) (xs : List X) → list_any p xs ≡ true → (k : ℕ) × (x : X) × (slice_get xs k ≡ Some x) × (p x ≡ true)
list_any_gives p xs h =
    let w = Any-from_list_any p xs h in
    (w.0, w.1, slice_get-get_or xs w.0 w.1 w.2 ∙ ap Some w.3, w.4)

-- a school before the end of a list is at its rank
pub wish_at_rank : (ws : List Wish) (s : Code) → preference_rank ws s < length ws → (w : Wish) × (slice_get ws (preference_rank ws s) ≡ Some w) × (w.school ≡ s)
wish_at_rank [] s l = absurd (omega arith)
wish_at_rank (w ∷ ws) s l =
    let test : Wish → Bool = λ x. bytes_eq x.school s in
    let got = slice_get-get_or (w ∷ ws) (preference_rank (w ∷ ws) s) w l in
    (_, got, (bytes_eq-Decides _ s).0 (passes_at_first test (w ∷ ws) w l))

-- what a child has, where that is at the same rank as a school of its list
pub same_rank : (ws : List Wish) (o : Option Code) (k : ℕ) (w : Wish) → slice_get ws k ≡ Some w → assigned_rank ws o ≡ k → o ≡ Some w.school
same_rank ws None k w at e = absurd (omega (arith, slice_get_within ws k w at))
same_rank ws (Some t) k w at e =
    let inside : preference_rank ws t < length ws = omega (arith, slice_get_within ws k w at) in
    let there = wish_at_rank ws t inside in
    let same : there.0 ≡ w = same_Some there.0 w (sym there.1 ∙ (ap (slice_get ws) e ∙ at)) in
    ap Some (sym there.2 ∙ ap (λ x. x.school) same)

-- the order of keys
pub precedes_trans : (a b c : RankKey) → precedes a b ≡ true → precedes b c ≡ true → precedes a c ≡ true
precedes_trans a b c p q = grind (arith, nat_tests)

pub precedes_asym : (a b : RankKey) → precedes a b ≡ true → precedes b a ≡ true → ⊥
precedes_asym a b p q = grind (arith, nat_tests)

both_trans : (a b c : Option RankKey) → both_precede a b ≡ true → both_precede b c ≡ true → both_precede a c ≡ true
both_trans None b c p q = absurd (false≢true p)
both_trans (Some a) None c p q = absurd (false≢true p)
both_trans (Some a) (Some b) None p q = absurd (false≢true q)
both_trans (Some a) (Some b) (Some c) p q = precedes_trans a b c p q

both_asym : (a b : Option RankKey) → both_precede a b ≡ true → both_precede b a ≡ true → ⊥
both_asym None b p q = false≢true p
both_asym (Some a) None p q = false≢true p
both_asym (Some a) (Some b) p q = precedes_asym a b p q

pub ranks_before_trans : (s : Code) (c d e : Candidate) → ranks_before s c d ≡ true → ranks_before s d e ≡ true → ranks_before s c e ≡ true
ranks_before_trans s c d e p q = both_trans (key_at c.list s) (key_at d.list s) (key_at e.list s) p q

pub ranks_before_asym : (s : Code) (c d : Candidate) → ranks_before s c d ≡ true → ranks_before s d c ≡ true → ⊥
ranks_before_asym s c d p q = both_asym (key_at c.list s) (key_at d.list s) p q

-- a guest is at the school, and is no tenant of it
pub guest_from : (a : Allocation) (s : Code) (e : Candidate) → a e.child ≡ Some s → is_tenant e s ≡ false → is_guest a s e ≡ true
guest_from a s e at free = and_from (has (a e.child) s) (not (is_tenant e s)) (has_true (a e.child) s at) (not_from_false (is_tenant e s) free)

pub guest_gives : (a : Allocation) (s : Code) (e : Candidate) → is_guest a s e ≡ true → (a e.child ≡ Some s) × (is_tenant e s ≡ false)
guest_gives a s e g =
    let parts = and_parts (has (a e.child) s) (not (is_tenant e s)) g in
    ((has_tells (a e.child) s).0 parts.0, not-true (is_tenant e s) parts.1)

pub unwrap_or-position : {X : Type 0} (p : X → Bool) (xs : List X) → unwrap_or (position p xs) (length xs) ≡ position_or_len p xs
unwrap_or-position p xs = grind (arith, nat_tests, prefix_len-le-length (λ x. not (p x)) xs)
