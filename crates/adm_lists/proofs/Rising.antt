-- Lists that rise: the parts of one, two of them joined, and that of all orders of the same elements only one rises.
use Rattle.std.proofs.Common.{◌≡◌, ◌∙◌, inl, inr, ap, sym, subst, refl, Bool, true, false, ◌&&◌, List, [], ◌∷◌, ◌++◌, map, Option, Some, None, IsPermutation, Ordering, Less}
use Rattle.std.specs.Ordering.{is_lt}
use Rattle.std.specs.Cmp.{IsTotalOrder, tied_itself}
use Rattle.std.specs.List.{AllByRecursion, list_all, filter_map, cons_option}
use Rattle.std.specs.List.Sorted.{IsStrictlySortedBy}
use Rattle.std.proofs.lemmas.Bool.{false≢true, and_parts}
use Rattle.std.proofs.lemmas.List.Sorted.{IsPermutation-sym}
use Rattle.adm_lists.proofs.Orders.{less_of}
use Rattle.adm_lists.proofs.Members.{In, all_in, in_all, passes_in, from_append, in_moved}

-- ---- keys that rise

-- a key below all is below those of what is given first and of the rest
less_all : {Y K : Type 0} (cmp : K → K → Ordering) (own : Y → K) (k : K) (o : Option Y) (rest : List Y) → ((y : Y) → o ≡ Some y → cmp k (own y) ≡ Less)
    → AllByRecursion (λ q. cmp k q ≡ Less) (map own rest) → AllByRecursion (λ q. cmp k q ≡ Less) (map own (cons_option o rest))
less_all cmp own k None rest first all = all
less_all cmp own k (Some y) rest first all = (first y refl, all)

module _ {X Y K : Type 0} (cmp : K → K → Ordering) (key : X → K) (own : Y → K) (h : X → Option Y) (same : (x : X) (y : Y) → h x ≡ Some y → own y ≡ key x) where
  less_given : (k : K) (xs : List X) → AllByRecursion (λ q. cmp k q ≡ Less) (map key xs) → AllByRecursion (λ q. cmp k q ≡ Less) (map own (filter_map h xs))
  less_given k [] all = tt
  less_given k (x ∷ xs) all = less_all cmp own k (h x) (filter_map h xs) (λ y is. ap (cmp k) (same x y is) ∙ all.0) (less_given k xs all.1)

  -- the rows that a part of the elements gives rise where the elements do
  pub sorted_filter_map : (xs : List X) → IsStrictlySortedBy cmp (map key xs) → IsStrictlySortedBy cmp (map own (filter_map h xs))
  unfolding IsStrictlySortedBy
  sorted_filter_map [] sorted = tt
  sorted_filter_map (x ∷ xs) sorted = by (h x) (λ y is. subst (λ k. AllByRecursion (λ q. cmp k q ≡ Less) (map own (filter_map h xs))) (sym (same x y is))
      (less_given (key x) xs sorted.0)) (sorted_filter_map xs sorted.1)
    where
      by : (o : Option Y) → ((y : Y) → o ≡ Some y → AllByRecursion (λ q. cmp (own y) q ≡ Less) (map own (filter_map h xs))) → IsStrictlySortedBy cmp (map own (filter_map h xs))
          → IsStrictlySortedBy cmp (map own (cons_option o (filter_map h xs)))
      by None first rest = rest
      by (Some y) first rest = (first y refl, rest)

-- two lists that rise, and all of the first before all of the second
pub sorted_append : {K : Type 0} (cmp : K → K → Ordering) (xs ys : List K) → IsStrictlySortedBy cmp xs → IsStrictlySortedBy cmp ys
    → ((x y : K) → In x xs → In y ys → cmp x y ≡ Less) → IsStrictlySortedBy cmp (xs ++ ys)
unfolding IsStrictlySortedBy
sorted_append cmp [] ys first second before = second
sorted_append cmp (x ∷ xs) ys first second before = (
  in_all (λ q. cmp x q ≡ Less) (xs ++ ys) (λ q at. elim (from_append xs ys q at) [ inl here ↦ all_in (λ q. cmp x q ≡ Less) xs q first.0 here | inr there ↦ before x q (inl refl) there ]),
  sorted_append cmp xs ys first.1 second (λ z y here there. before z y (inr here) there),
)

-- ---- by a test

-- each comes before all that follow it
abbrev pub rises : {X : Type 0} → (X → X → Bool) → List X → Bool
rises before [] = true
rises before (x ∷ xs) = list_all (before x) xs && rises before xs

module _ {X : Type 0} (before : X → X → Bool) (irreflexive : (x : X) → before x x ≡ false) (transitive : (x y z : X) → before x y ≡ true → before y z ≡ true → before x z ≡ true) where
  not_before_itself : (x : X) → before x x ≡ true → ⊥
  not_before_itself x h = false≢true (sym (irreflexive x) ∙ h)

  above : (x z : X) (xs : List X) → rises before (x ∷ xs) ≡ true → In z xs → before x z ≡ true
  above x z xs up there = passes_in (before x) xs z (and_parts (list_all (before x) xs) (rises before xs) up).0 there

  rest : (x : X) (xs : List X) → rises before (x ∷ xs) ≡ true → rises before xs ≡ true
  rest x xs up = (and_parts (list_all (before x) xs) (rises before xs) up).1

  same_first : (x y : X) (xs ys : List X) → rises before (x ∷ xs) ≡ true → rises before (y ∷ ys) ≡ true → In x (y ∷ ys) → In y (x ∷ xs) → x ≡ y
  same_first x y xs ys up vp one other =
      elim one [
        | inl same ↦ sym same
        | inr later ↦ elim other [
          | inl same ↦ same
          | inr after ↦ absurd (not_before_itself x (transitive x y x (above x y xs up after) (above y x ys vp later)))
        ]
      ]

  later_too : (x : X) (xs ys : List X) → rises before (x ∷ xs) ≡ true → ((z : X) → In z (x ∷ xs) → In z (x ∷ ys)) → (z : X) → In z xs → In z ys
  later_too x xs ys up all z there =
      elim (all z (inr there)) [
        | inl same ↦ absurd (not_before_itself x (subst (λ (w : X). before x w ≡ true) (sym same) (above x z xs up there)))
        | inr later ↦ later
      ]

  -- two lists that rise and have the same elements are the same list
  pub same_list : (xs ys : List X) → rises before xs ≡ true → rises before ys ≡ true → ((z : X) → In z xs → In z ys) → ((z : X) → In z ys → In z xs) → xs ≡ ys
  same_list [] [] up vp one other = refl
  same_list [] (y ∷ ys) up vp one other = absurd (other y (inl refl))
  same_list (x ∷ xs) [] up vp one other = absurd (one x (inl refl))
  same_list (x ∷ xs) (y ∷ ys) up vp one other =
      let e : x ≡ y = same_first x y xs ys up vp (one x (inl refl)) (other y (inl refl)) in
      let vp' : rises before (x ∷ ys) ≡ true = subst (λ (w : X). rises before (w ∷ ys) ≡ true) (sym e) vp in
      let one' : (z : X) → In z (x ∷ xs) → In z (x ∷ ys) = λ z h. subst (λ (w : X). In z (w ∷ ys)) (sym e) (one z h) in
      let other' : (z : X) → In z (x ∷ ys) → In z (x ∷ xs) = λ z h. other z (subst (λ (w : X). In z (w ∷ ys)) e h) in
      λ i. e i ∷ same_list xs ys (rest x xs up) (rest y ys vp) (later_too x xs ys up one') (later_too x ys xs vp' other') i

-- ---- rows by their keys

module _ {K V : Type 0} {R : K → K → Ordering} (total : IsTotalOrder R) (key : V → K) where
  abbrev before : V → V → Bool
  before x y = is_lt (R (key x) (key y))

  rising : (xs : List V) → IsStrictlySortedBy R (map key xs) → rises before xs ≡ true
  unfolding IsStrictlySortedBy
  rising [] sorted = refl
  rising (x ∷ xs) sorted = λ i. first x xs sorted.0 i && rising xs sorted.1 i
    where
      first : (x : V) (xs : List V) → AllByRecursion (λ k. R (key x) k ≡ Less) (map key xs) → list_all (before x) xs ≡ true
      first x [] less = refl
      first x (y ∷ ys) less = λ i. is_lt (less.0 i) && first x ys less.1 i

  -- rows are in the order of their keys in one way
  pub one_order : (xs ys : List V) → IsPermutation xs ys → IsStrictlySortedBy R (map key xs) → IsStrictlySortedBy R (map key ys) → xs ≡ ys
  one_order xs ys permuted sorted other =
      same_list before (λ x. ap is_lt (tied_itself total (key x))) (λ x y z h k. ap is_lt (total.trans (key x) (key y) (key z) (less_of _ h) (less_of _ k))) xs ys (rising xs sorted) (rising ys other)
      (λ z at. in_moved xs ys z permuted at)
      (λ z at. in_moved ys xs z (IsPermutation-sym xs ys permuted) at)
