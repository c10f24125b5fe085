-- What the directory of children and schools finds.
use Rattle.std.proofs.Common.{◌≡◌, ◌∙◌, ap, sym, subst, refl, arith, ℕ, ◌+◌, ◌<◌, ◌≤◌, List, [], ◌∷◌, ◌++◌, length, get_or, Some, false, Ordering, Less, Equal, Greater, inl, inr, IsPermutation}
use Rattle.std.specs.List.{slice_get, Contains}
use Rattle.std.specs.List.Sorted.{IsSortedByKey, IsNonDecreasingBy, IsPartitionPoint}
use Rattle.std.specs.Ordering.{is_lt, is_gt, ordering_index, ordering_reverse}
use Rattle.std.specs.Cmp.{IsTotalOrder, alike_right, tied_itself}
use Rattle.std.specs.FinMap.{IsAntisymmetric}
use Rattle.std.proofs.lemmas.Bool.{cases_eq, cases_lt, false≢true}
use Rattle.std.proofs.lemmas.Option.{same_Some, slice_get_read, slice_get_within}
use Rattle.std.proofs.lemmas.List.Sorted.{IsNonDecreasingBy-from_all_adjacent, IsPermutation-sym}
use Rattle.adm_lists.proofs.Members.{In, from_contains, contains, in_moved, in_left, in_right, from_append}
use Rattle.adm_match.specs.Queue.{FindsEach}

at_most_two : (o : Ordering) → ordering_index o ≤ 2
at_most_two Less = omega arith
at_most_two Equal = omega arith
at_most_two Greater = omega arith

module _ {K : Type 0} {R : K → K → Ordering} (total : IsTotalOrder R) where
  -- ---- a search by halving

  -- what is no greater lies no higher beside a third
  no_higher : (x y z : K) → is_lt (R y x) ≡ false → ordering_index (R x z) ≤ ordering_index (R y z)
  no_higher x y z up = by (R x y) (R y z) refl refl
    where
      by : (r s : Ordering) → R x y ≡ r → R y z ≡ s → ordering_index (R x z) ≤ ordering_index (R y z)
      by Less Less under next = omega (arith, ap ordering_index (total.trans x y z under next), ap ordering_index next)
      by Less Equal under next = omega (arith, ap ordering_index (sym (alike_right total y z x next) ∙ under), ap ordering_index next)
      by Less Greater under next = omega (arith, ap ordering_index next, at_most_two (R x z))
      by Equal s same next = omega (arith, ap ordering_index (total.congr x y z same))
      by Greater s over next = absurd (false≢true (sym up ∙ ap is_lt (total.antisymm y x ∙ ap ordering_reverse over)))

  module _ (pairs : List (K × ℕ)) (sorted : IsSortedByKey (λ (pair : K × ℕ). pair.0) R pairs) (key : K) where
    rises : IsNonDecreasingBy (λ (pair : K × ℕ). ordering_index (R pair.0 key)) pairs
    rises =
        IsNonDecreasingBy-from_all_adjacent (λ (pair : K × ℕ). ordering_index (R pair.0 key)) pairs
        (λ k d less. no_higher (get_or pairs k d).0 (get_or pairs (k + 1) d).0 key (sorted k d (omega arith) less))

    -- a key that one of the pairs has is found
    pub not_lost : (i k : ℕ) → Contains pairs (key, k)
        → (IsNonDecreasingBy (λ (pair : K × ℕ). ordering_index (R pair.0 key)) pairs → IsPartitionPoint (λ (pair : K × ℕ). R pair.0 key ≡ Less) (λ (pair : K × ℕ). R pair.0 key ≡ Greater) pairs i) → ⊥
    not_lost i k there point =
        let parted = point rises in
        let ties = ap (λ (pair : K × ℕ). R pair.0 key) there.2 ∙ tied_itself total key in
        elim (cases_lt there.0 i) [
          | inl before ↦ false≢true (sym (ap is_lt (sym (parted.0 there.0 (key, k) (omega arith) before) ∙ ties)))
          | inr later ↦ false≢true (sym (ap is_gt (sym (parted.1 there.0 (key, k) (omega arith) there.1) ∙ ties)))
        ]

-- ---- the pairs of the items before an index

module _ {V K : Type 0} (key : V → K) (items : List V) where
  pub record PairsBelow (pairs : List (K × ℕ)) (n : ℕ) : Type 0 where
    pub each : (k : ℕ) (v : V) → k < n → slice_get items k ≡ Some v → In (key v, k) pairs
    pub only : (pair : K × ℕ) → In pair pairs → (v : V) × (slice_get items pair.1 ≡ Some v) × (key v ≡ pair.0)

  pub no_pairs : PairsBelow [] 0
  no_pairs = record {
    each = λ k v below at. absurd (omega arith);
    only = λ pair there. absurd there;
  }

  -- with the pair of one item more
  pub one_pair : (pairs more : List (K × ℕ)) (n : ℕ) (v : V) (own : K) → n < length items → v ≡ get_or items n v → own ≡ key v → more ≡ pairs ++ (own, n) ∷ []
      → PairsBelow pairs n → PairsBelow more (n + 1)
  one_pair pairs more n v own within at is added h = subst (λ (ps : List (K × ℕ)). PairsBelow ps (n + 1)) (sym added) (record {
    each = λ k w below there. elim (cases_eq k n) [
      | inl same ↦
          let one : v ≡ w = same_Some v w (sym here ∙ ap (slice_get items) (sym same) ∙ there) in
          in_right pairs last (key w, k) (inl (λ i. ((is ∙ ap key one) i, sym same i)))
      | inr apart ↦ in_left pairs last (key w, k) (h.each k w (omega arith) there)
    ];
    only = λ pair there. elim (from_append pairs last pair there) [
      | inl before ↦ h.only pair before
      | inr (inl same) ↦ (v, ap (λ (p : K × ℕ). slice_get items p.1) (sym same) ∙ here, sym is ∙ ap (λ (p : K × ℕ). p.0) same)
      | inr (inr none) ↦ absurd none
    ];
  })
    where
      last : List (K × ℕ)
      last = (own, n) ∷ []

      here : slice_get items n ≡ Some v
      here = slice_get_read items (length items) n v refl within at

  -- those of all items, in the order of their keys
  pub all_pairs : (R : K → K → Ordering) (pairs sorted : List (K × ℕ)) (n : ℕ) → length items ≡ n → PairsBelow pairs n → IsPermutation pairs sorted
      → IsSortedByKey (λ (pair : K × ℕ). pair.0) R sorted → FindsEach R key items sorted
  all_pairs R pairs sorted n whole h moved up = record {
    sorted = up;
    each = λ k v at. contains sorted (key v, k) (in_moved pairs sorted (key v, k) moved (h.each k v (omega (arith, slice_get_within items k v at)) at));
    only = λ pair there. h.only pair (in_moved sorted pairs pair (IsPermutation-sym pairs sorted moved) (from_contains sorted pair there));
  }

  -- ---- what is looked up

  module _ (R : K → K → Ordering) (exact : IsAntisymmetric R) (pairs : List (K × ℕ)) (finds : FindsEach R key items pairs) (own : K) where
    -- an item of the key is at the index
    abbrev Stands : ℕ → Type 0
    Stands k = (v : V) × (slice_get items k ≡ Some v) × (key v ≡ own)

    pub is_there : ((k : ℕ) × Stands k) → (k : ℕ) × Contains pairs (own, k)
    is_there there = (there.0, subst (λ (o : K). Contains pairs (o, there.0)) there.1.2 (finds.each there.0 there.1.0 there.1.1))

    pub stands : (index : ℕ) → ((other : K) × Contains pairs (other, index) × (R other own ≡ Equal)) → Stands index
    stands index found =
        let it = finds.only (found.0, index) found.1 in
        (it.0, it.1, it.2 ∙ exact found.0 own found.2)
