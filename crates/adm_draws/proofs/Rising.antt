-- Lists that rise: one step of the test, what a sort gives, and that only one order rises.
use Rattle.std.proofs.Common.{◌≡◌, ◌∙◌, ap, sym, subst, refl, ℕ, zero, suc, ◌+◌, ◌<◌, length, get_or, Bool, true, false, List, [], ◌∷◌, arith}
use Rattle.std.specs.Prelude.{◌⊎◌, ◌&&◌, IsPermutation, Contains}
use mathlib.Core.Logic.{inl, inr}
use Rattle.std.specs.declared.cmp.Ordering.{Ordering}
use Rattle.std.specs.declared.cmp.Ordering.TheVariants.{Less, Equal, Greater}
use Rattle.std.specs.Ordering.{is_lt, is_eq, eq_by_cmp, ordering_reverse}
use Rattle.std.specs.Cmp.{IsTotalOrder, eq_by_cmp_equiv, first_so, second_so}
use Rattle.std.specs.List.{IsDistinct, AllByRecursion, list_all}
use Rattle.std.specs.List.Sorted.{IsStrictlySortedBy, IsSortedBy}
use Rattle.std.proofs.lemmas.Cmp.{tied_itself}
use Rattle.std.proofs.lemmas.Map.Keys.{IsDistinct-from_sorted, IsDistinct-IsPermutation, sorted_from_all_adjacent, apart_from_distinct}
use Rattle.std.proofs.lemmas.List.Sorted.{IsPermutation-sym, IsPermutation-trans, Contains-permutation}
use Rattle.std.proofs.lemmas.Bool.{and_from, true≢false}
use Rattle.std.proofs.Math.Bool.{and-false}
use Rattle.adm_lists.proofs.Orders.{less_of}
use Rattle.adm_draws.specs.Draws.{rises}
use Rattle.adm_draws.specs.Grouped.{comes_first}

all_less : {X : Type 0} (f : X → Ordering) (xs : List X) → list_all (λ x. is_lt (f x)) xs ≡ true → AllByRecursion (λ x. f x ≡ Less) xs
all_less f [] h = tt
all_less f (x ∷ xs) h = (less_of (f x) (first_so _ _ h), all_less f xs (second_so _ _ h))

tested_less : {X : Type 0} (f : X → Ordering) (xs : List X) → AllByRecursion (λ x. f x ≡ Less) xs → list_all (λ x. is_lt (f x)) xs ≡ true
tested_less f [] all = refl
tested_less f (x ∷ xs) all = and_from _ _ (ap is_lt all.0) (tested_less f xs all.1)

pub sorted_rises : {X : Type 0} (R : X → X → Ordering) (xs : List X) → IsStrictlySortedBy R xs → rises R xs ≡ true
unfolding IsStrictlySortedBy
sorted_rises R [] s = refl
sorted_rises R (x ∷ xs) s = and_from _ _ (tested_less (R x) xs s.0) (sorted_rises R xs s.1)

pub rises_sorted : {X : Type 0} (R : X → X → Ordering) (xs : List X) → rises R xs ≡ true → IsStrictlySortedBy R xs
unfolding IsStrictlySortedBy
rises_sorted R [] h = tt
rises_sorted R (x ∷ xs) h = (all_less (R x) xs (first_so _ _ h), rises_sorted R xs (second_so _ _ h))

-- ---- one step of the test

module _ {X : Type 0} {R : X → X → Ordering} (total : IsTotalOrder R) where
  below_more : (x y : X) (ys : List X) → R x y ≡ Less → list_all (λ z. is_lt (R y z)) ys ≡ true → list_all (λ z. is_lt (R x z)) ys ≡ true
  below_more x y [] less all = refl
  below_more x y (z ∷ ys) less all =
      and_from _ _ (ap is_lt (total.trans x y z less (less_of (R y z) (first_so _ _ all)))) (below_more x y ys less (second_so _ _ all))

  pub rises_on : (x : X) (xs : List X) → comes_first R x xs ≡ true → rises R (x ∷ xs) ≡ rises R xs
  rises_on x [] h = refl
  rises_on x (y ∷ ys) h = go (list_all (λ z. is_lt (R y z)) ys) refl
    where
      go : (b : Bool) → list_all (λ z. is_lt (R y z)) ys ≡ b
          → ((is_lt (R x y) && list_all (λ z. is_lt (R x z)) ys) && (list_all (λ z. is_lt (R y z)) ys && rises R ys)) ≡ (list_all (λ z. is_lt (R y z)) ys && rises R ys)
      go true all = λ i. (h i && below_more x y ys (less_of (R x y) h) all i) && (list_all (λ z. is_lt (R y z)) ys && rises R ys)
      go false all = (λ i. (is_lt (R x y) && list_all (λ z. is_lt (R x z)) ys) && (all i && rises R ys)) ∙ (and-false _ ∙ (λ i. sym all i && rises R ys))

pub rises_not : {X : Type 0} (R : X → X → Ordering) (x : X) (xs : List X) → comes_first R x xs ≡ false → rises R (x ∷ xs) ≡ false
rises_not R x [] h = cc
rises_not R x (y ∷ ys) h = λ i. (h i && list_all (λ z. is_lt (R x z)) ys) && rises R (y ∷ ys)

-- ---- what a sort gives

module _ {X : Type 0} {R : X → X → Ordering} (total : IsTotalOrder R) where
  less_between : (x y : X) → is_lt (R y x) ≡ false → eq_by_cmp R x y ≡ false → R x y ≡ Less
  less_between x y not_above apart = go (R x y) (R y x) (total.antisymm y x) not_above apart
    where
      go : (o p : Ordering) → p ≡ ordering_reverse o → is_lt p ≡ false → is_eq o ≡ false → o ≡ Less
      go Less p e h k = refl
      go Equal p e h k = cc
      go Greater p e h k = absurd (true≢false (sym (ap is_lt e) ∙ h))

  pub sort_rises : (xs : List X) → IsSortedBy (λ x y. is_lt (R x y)) xs → IsDistinct (eq_by_cmp R) xs → rises R xs ≡ true
  sort_rises [] sorted apart = refl
  sort_rises (x ∷ xs) sorted apart =
      sorted_rises R (x ∷ xs) (sorted_from_all_adjacent total (x ∷ xs) x (λ k l.
      less_between _ _ (sorted k x (omega arith) l) (apart_from_distinct (eq_by_cmp R) (x ∷ xs) k (k + 1) x apart (omega arith) l)))

  moved : (xs ys : List X) → IsPermutation xs ys → IsDistinct (eq_by_cmp R) xs → IsDistinct (eq_by_cmp R) ys
  moved xs ys same = IsDistinct-IsPermutation (eq_by_cmp R) (eq_by_cmp_equiv total).symm xs ys same

  -- where some order of the rows rises, they are distinct
  pub distinct_rows : (rows list : List X) → IsPermutation rows list → rises R list ≡ true → IsDistinct (eq_by_cmp R) rows
  distinct_rows rows list same up = moved list rows (IsPermutation-sym rows list same) (IsDistinct-from_sorted R list (rises_sorted R list up))

  -- where the sorted rows do not rise, they are not distinct
  pub not_distinct : (rows sorted : List X) → IsPermutation rows sorted → IsSortedBy (λ x y. is_lt (R x y)) sorted → rises R sorted ≡ false → IsDistinct (eq_by_cmp R) rows → ⊥
  not_distinct rows sorted same by falls apart = true≢false (sym (sort_rises sorted by (moved rows sorted same apart)) ∙ falls)

  -- ---- only one order rises

  first_or : (x z : X) (xs : List X) → Contains (x ∷ xs) z → (z ≡ x) ⊎ Contains xs z
  first_or x z xs (zero, below, at) = inl (sym at)
  first_or x z xs (suc k, below, at) = inr (k, omega arith, at)

  above : (x z : X) (xs : List X) → rises R (x ∷ xs) ≡ true → Contains xs z → R x z ≡ Less
  above x z xs up there = go xs (first_so _ _ up) there.0 there.1 there.2
    where
      go : (ys : List X) → list_all (λ y. is_lt (R x y)) ys ≡ true → (k : ℕ) → k < length ys → get_or ys k z ≡ z → R x z ≡ Less
      go [] all k l at = absurd (omega arith)
      go (y ∷ ys) all zero l at = ap (R x) (sym at) ∙ less_of (R x y) (first_so _ _ all)
      go (y ∷ ys) all (suc k) l at = go ys (second_so _ _ all) k (omega arith) at

  not_below_itself : (x : X) → R x x ≡ Less → ⊥
  not_below_itself x less = differ (sym less ∙ tied_itself total x)
    where
      differ : Less ≡ Equal → ⊥
      differ e = cc

  same_first : (x y : X) (xs ys : List X) → rises R (x ∷ xs) ≡ true → rises R (y ∷ ys) ≡ true → Contains (y ∷ ys) x → Contains (x ∷ xs) y → x ≡ y
  same_first x y xs ys up vp one other =
      elim (first_or y x ys one) [
        | inl same ↦ same
        | inr later ↦ elim (first_or x y xs other) [
          | inl same ↦ sym same
          | inr after ↦ absurd (not_below_itself x (total.trans x y x (above x y xs up after) (above y x ys vp later)))
        ]
      ]

  -- what the rest has
  later_too : (x : X) (xs ys : List X) → rises R (x ∷ xs) ≡ true → ((z : X) → Contains (x ∷ xs) z → Contains (x ∷ ys) z) → (z : X) → Contains xs z → Contains ys z
  later_too x xs ys up all z there =
      elim (first_or x z ys (all z (suc there.0, omega arith, there.2))) [
        | inl same ↦ absurd (not_below_itself x (subst (λ (w : X). R x w ≡ Less) same (above x z xs up there)))
        | inr later ↦ later
      ]

  same_elements : (xs ys : List X) → rises R xs ≡ true → rises R ys ≡ true → ((z : X) → Contains xs z → Contains ys z) → ((z : X) → Contains ys z → Contains xs z) → xs ≡ ys
  same_elements [] [] up vp one other = refl
  same_elements [] (y ∷ ys) up vp one other = absurd (none (other y (zero, omega arith, refl)))
    where
      none : Contains [] y → ⊥
      none h = omega (arith, h.1)
  same_elements (x ∷ xs) [] up vp one other = absurd (none (one x (zero, omega arith, refl)))
    where
      none : Contains [] x → ⊥
      none h = omega (arith, h.1)
  same_elements (x ∷ xs) (y ∷ ys) up vp one other =
      let e : x ≡ y = same_first x y xs ys up vp (one x (zero, omega arith, refl)) (other y (zero, omega arith, refl)) in
      let vp' : rises R (x ∷ ys) ≡ true = subst (λ (w : X). rises R (w ∷ ys) ≡ true) (sym e) vp in
      let one' : (z : X) → Contains (x ∷ xs) z → Contains (x ∷ ys) z = λ z h. subst (λ (w : X). Contains (w ∷ ys) z) (sym e) (one z h) in
      let other' : (z : X) → Contains (x ∷ ys) z → Contains (x ∷ xs) z = λ z h. other z (subst (λ (w : X). Contains (w ∷ ys) z) e h) in
      λ i. e i ∷ same_elements xs ys (second_so _ _ up) (second_so _ _ vp) (later_too x xs ys up one') (later_too x ys xs vp' other') i

  pub same_order : (rows xs ys : List X) → IsPermutation rows xs → IsPermutation rows ys → rises R xs ≡ true → rises R ys ≡ true → xs ≡ ys
  same_order rows xs ys one other up vp =
      let same : IsPermutation xs ys = IsPermutation-trans xs rows ys (IsPermutation-sym rows xs one) other in
      same_elements xs ys up vp (λ z. Contains-permutation xs ys z same) (λ z. Contains-permutation ys xs z (IsPermutation-sym xs ys same))
