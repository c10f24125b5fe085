-- The first block: of one list, and among the entrants before an index.
use Rattle.std.proofs.Common.{◌≡◌, ℕ, zero, suc, ◌+◌, ◌<◌, ◌≤◌, List, [], ◌∷◌, length, Option, None, Some, Bool, true, false, cond, leb, MatchOption, IfSome, IfNone, inl, inr, refl, sym, ap, ◌∙◌, subst, arith}
use Rattle.std.specs.Prelude.{All, option_map, find}
use Rattle.std.specs.List.{slice_get}
use Rattle.std.proofs.lemmas.Bool.{cases_Bool, cases_lt, and_parts, ltb-true, leb-true, leb-false}
use Rattle.std.proofs.lemmas.Option.{none-some, same_Some, slice_get_within, get_or_from_slice_get}
use Rattle.adm_match.specs.declared.problem.Wish.{Wish}
use Rattle.adm_match.specs.Market.{Code, Candidate, Market, preference_rank}
use Rattle.adm_match.specs.Stability.{Allocation, prefers, blocks, IsContent, IsFirstOfList, IsFirstBlock}
use Rattle.adm_match_laws.specs.Blocks.{earlier}
use Rattle.adm_match.proofs.RanksAndBlocks.{wish_at_rank, All_at}
use Rattle.adm_match.proofs.FoundWishes.{found_at, rank_upto, rank_within}

not_found : {X : Type 0} (p : X → Bool) (xs : List X) → find p xs ≡ None → (j : ℕ) (y : X) → slice_get xs j ≡ Some y → p y ≡ false
not_found p [] e j y a = absurd (none-some y a)
not_found p (x ∷ xs) e j y a = elim (cases_Bool (p x)) [
  | inl hit ↦ absurd (none-some x (sym (ap (λ b. cond b (Some x) (find p xs)) (sym hit) ∙ e)))
  | inr miss ↦ at p x xs miss (not_found p xs (ap (λ b. cond b (Some x) (find p xs)) (sym miss) ∙ e)) j y a
]
  where
    at : {X : Type 0} (p : X → Bool) (x : X) (xs : List X) → p x ≡ false → ((j : ℕ) (y : X) → slice_get xs j ≡ Some y → p y ≡ false) → (j : ℕ) (y : X) → slice_get (x ∷ xs) j ≡ Some y → p y ≡ false
    at p x xs miss h zero y a = ap p (sym (same_Some x y a)) ∙ miss
    at p x xs miss h (suc j) y a = h j y a

-- a school that blocks is on the list
blocks_listed : (m : Market) (a : Allocation) (e : Candidate) (s : Code) → blocks m a e s ≡ true → preference_rank e.list s < length e.list
blocks_listed m a e s h =
    let parts = and_parts (prefers a e s) _ h in
    omega (arith, ltb-true _ _ parts.0, rank_within e.list (a e.child))

-- a test that fails at each wish before an index fails at each school before it
fails_before : (m : Market) (a : Allocation) (e : Candidate) (k : ℕ) → ((j : ℕ) (w : Wish) → j < k → slice_get e.list j ≡ Some w → blocks m a e w.school ≡ false)
    → (s : Code) → preference_rank e.list s < k → preference_rank e.list s < length e.list → blocks m a e s ≡ false
fails_before m a e k h s early inside =
    let w = wish_at_rank e.list s inside in
    subst (λ (t : Code). blocks m a e t ≡ false) w.2 (h (preference_rank e.list s) w.0 early w.1)

pub first_of : (m : Market) (a : Allocation) (e : Candidate) (o : Option Wish) → find (λ w. blocks m a e w.school) e.list ≡ o
    → MatchOption (option_map (λ (w : Wish). w.school) o) (IsContent m a e) (IsFirstOfList m a e)
first_of m a e None none = λ s. elim (cases_Bool (blocks m a e s)) [
  | inr unblocked ↦ unblocked
  | inl blocking ↦
      let inside = blocks_listed m a e s blocking in
      fails_before m a e (length e.list) (λ j w l jw. not_found (λ (z : Wish). blocks m a e z.school) e.list none j w jw) s inside inside
]
first_of m a e (Some w) found =
    let at = found_at (λ (z : Wish). blocks m a e z.school) e.list w found in
    record {
      blocking = at.2;
      first = λ s early.
          let upto = rank_upto e.list at.0 w at.1 in
          fails_before m a e at.0 at.3 s (omega (arith, early, upto)) (omega (arith, early, upto, slice_get_within e.list at.0 w at.1));
    }

-- the first block among the entrants before the index i
abbrev pub FirstBelow : Market → Allocation → ℕ → ℕ × Code → Type 0
FirstBelow m a i pair =
    ((k : ℕ) × (e : Candidate) × (k < i) × (slice_get m.entrants k ≡ Some e) × (e.child ≡ pair.0) × IsFirstOfList m a e pair.1)
    × ((k : ℕ) (e : Candidate) → k < i → slice_get m.entrants k ≡ Some e → e.child < pair.0 → IsContent m a e)

abbrev pub ContentBelow : Market → Allocation → ℕ → Type 0
ContentBelow m a i = (k : ℕ) (e : Candidate) → k < i → slice_get m.entrants k ≡ Some e → IsContent m a e

same_at : (m : Market) (i k : ℕ) (d e : Candidate) → slice_get m.entrants i ≡ Some d → slice_get m.entrants k ≡ Some e → k < i + 1 → i ≤ k → d ≡ e
same_at m i k d e a b below most =
    let same : k ≡ i = omega arith in
    same_Some d e (sym a ∙ (ap (slice_get m.entrants) (sym same) ∙ b))

pub block_more : (m : Market) (a : Allocation) (i : ℕ) (o : Option (ℕ × Code)) (e : Candidate) (found : Option Code)
    → MatchOption o (ContentBelow m a i) (FirstBelow m a i) → slice_get m.entrants i ≡ Some e → MatchOption found (IsContent m a e) (IsFirstOfList m a e)
    → MatchOption (earlier o e.child found) (ContentBelow m a (i + 1)) (FirstBelow m a (i + 1))
block_more m a i None e None h ei f = λ k d below dk. elim (cases_lt k i) [
  | inl less ↦ h k d less dk
  | inr most ↦ subst (λ (x : Candidate). IsContent m a x) (same_at m i k e d ei dk below most) f
]
block_more m a i (Some p) e None h ei f = (
  (h.0.0, h.0.1, omega (arith, h.0.2), h.0.3, h.0.4, h.0.5),
  λ k d below dk small. elim (cases_lt k i) [
    | inl less ↦ h.1 k d less dk small
    | inr most ↦ subst (λ (x : Candidate). IsContent m a x) (same_at m i k e d ei dk below most) f
  ],
)
block_more m a i None e (Some s) h ei f = (
  (i, e, omega arith, ei, refl, f),
  λ k d below dk small. elim (cases_lt k i) [
    | inl less ↦ h k d less dk
    | inr most ↦ absurd (omega (arith, small, ap (λ (x : Candidate). x.child) (same_at m i k e d ei dk below most)))
  ],
)
block_more m a i (Some p) e (Some s) h ei f = elim (cases_Bool (leb p.0 e.child)) [
  | inl holds ↦ subst (λ b. MatchOption (cond b (Some p) (Some (e.child, s))) (ContentBelow m a (i + 1)) (FirstBelow m a (i + 1))) (sym holds) (
    (h.0.0, h.0.1, omega (arith, h.0.2), h.0.3, h.0.4, h.0.5),
    λ k d below dk small. elim (cases_lt k i) [
      | inl less ↦ h.1 k d less dk small
      | inr most ↦ absurd (omega (arith, small, leb-true _ _ holds, ap (λ (x : Candidate). x.child) (same_at m i k e d ei dk below most)))
    ],
  )
  | inr takes ↦ subst (λ b. MatchOption (cond b (Some p) (Some (e.child, s))) (ContentBelow m a (i + 1)) (FirstBelow m a (i + 1))) (sym takes) (
    (i, e, omega arith, ei, refl, f),
    λ k d below dk small. elim (cases_lt k i) [
      | inl less ↦ h.1 k d less dk (omega (arith, small, leb-false _ _ takes))
      | inr most ↦ absurd (omega (arith, small, ap (λ (x : Candidate). x.child) (same_at m i k e d ei dk below most)))
    ],
  )
]

pub block_found : (m : Market) (a : Allocation) (i : ℕ) (o : Option (ℕ × Code)) → length m.entrants ≤ i → MatchOption o (ContentBelow m a i) (FirstBelow m a i) → IfSome o (IsFirstBlock m a)
block_found m a i None far h = tt
block_found m a i (Some p) far h = record {
  blocking =
      let w = h.0 in
      (w.0, w.1, slice_get_within m.entrants w.0 w.1 w.3, get_or_from_slice_get m.entrants w.0 w.1 w.1 w.3, (w.4, w.5));
  smallest = All_at (λ e. e.child < p.0 → IsContent m a e) m.entrants (λ k e ek. h.1 k e (omega (arith, far, slice_get_within m.entrants k e ek)) ek);
}

pub block_none : (m : Market) (a : Allocation) (i : ℕ) (o : Option (ℕ × Code)) → length m.entrants ≤ i → MatchOption o (ContentBelow m a i) (FirstBelow m a i)
    → IfNone o (All (IsContent m a) m.entrants)
block_none m a i None far h = All_at (IsContent m a) m.entrants (λ k e ek. h k e (omega (arith, far, slice_get_within m.entrants k e ek)) ek)
block_none m a i (Some p) far h = tt

-- what the code finds on the list
pub listed_some : (m : Market) (a : Allocation) (e : Candidate) (list : List Wish) (r : Option Code) → list ≡ e.list
    → r ≡ option_map (λ (w : Wish). w.school) (find (λ w. blocks m a e w.school) list) → IfSome r (IsFirstOfList m a e)
listed_some m a e list r same is =
    subst (λ o. IfSome o (IsFirstOfList m a e)) (sym (is ∙ ap (λ l. option_map (λ (w : Wish). w.school) (find (λ w. blocks m a e w.school) l)) same))
    (some_of _ (first_of m a e _ refl))
  where
    some_of : (o : Option Code) → MatchOption o (IsContent m a e) (IsFirstOfList m a e) → IfSome o (IsFirstOfList m a e)
    some_of None h = tt
    some_of (Some s) h = h

pub listed_none : (m : Market) (a : Allocation) (e : Candidate) (list : List Wish) (r : Option Code) → list ≡ e.list
    → r ≡ option_map (λ (w : Wish). w.school) (find (λ w. blocks m a e w.school) list) → IfNone r (IsContent m a e)
listed_none m a e list r same is =
    subst (λ o. IfNone o (IsContent m a e)) (sym (is ∙ ap (λ l. option_map (λ (w : Wish). w.school) (find (λ w. blocks m a e w.school) l)) same))
    (none_of _ (first_of m a e _ refl))
  where
    none_of : (o : Option Code) → MatchOption o (IsContent m a e) (IsFirstOfList m a e) → IfNone o (IsContent m a e)
    none_of None h = h
    none_of (Some s) h = tt

-- one more entrant
pub match_found : (m : Market) (a : Allocation) (e : Candidate) (r : Option Code) → IfSome r (IsFirstOfList m a e) → IfNone r (IsContent m a e) → MatchOption r (IsContent m a e) (IsFirstOfList m a e)
match_found m a e None s n = n
match_found m a e (Some x) s n = s
