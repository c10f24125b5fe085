-- Two maps of values, each of which is many rows of one table, where the second map has all of the first as they were, and more.
use Rattle.std.proofs.Common.{◌≡◌, ◌∙◌, List, ◌++◌, map, Some, sym, ap, subst}
use Rattle.std.specs.declared.cmp.Ordering.{Ordering}
use Rattle.std.specs.Cmp.{IsTotalOrder}
use Rattle.std.specs.List.{flat_map}
use Rattle.std.specs.List.Sorted.{IsPermutation}
use Rattle.std.proofs.lemmas.Grind.{flat_map-append}
use Rattle.std.proofs.lemmas.List.{map-append}
use Rattle.std.proofs.lemmas.List.Sorted.{IsPermutation-sym, IsPermutation-map, IsPermutation-trans, IsPermutation-append_left}
use Rattle.std.specs.FinMap.{FinMap, get, values, IsAntisymmetric}
use Rattle.sqlite.specs.Order.{Row}
use Rattle.sqlite_trees.proofs.ListLemmas.{IsPermutation-flat_map}
use Rattle.adm_register.specs.Difference.{AreNew}
use Rattle.adm_store.proofs.AddedRows.{old_and_new}

module _ {K V P : Type 0} {R : K → K → Ordering} (total : IsTotalOrder R) (same : IsAntisymmetric R) (key : V → K) (old new : FinMap R V)
    (own : (k : K) (v : V) → get new k ≡ Some v → key v ≡ k) (kept : (k : K) (v : V) → get old k ≡ Some v → get new k ≡ Some v)
    (news : List V) (differ : AreNew key old new news) (parts : V → List P) where
  -- a table that had the rows of the old map's values has those of the new one's, once these are added
  pub added_parts : (row_of : P → Row) (written was now : List Row) → written ≡ map row_of (flat_map parts news)
      → IsPermutation (map row_of (flat_map parts (values old))) was → IsPermutation (was ++ written) now
      → IsPermutation (map row_of (flat_map parts (values new))) now
  added_parts row_of written was now is held adds =
      let olds = flat_map parts (values old) in
      let both = IsPermutation-flat_map parts _ _ (old_and_new total same key old new own kept news differ) in
      let more = IsPermutation-map row_of _ _ (IsPermutation-sym _ _ both) in
      let split = ap (map row_of) (flat_map-append parts (values old) news) ∙ map-append row_of olds (flat_map parts news) ∙ ap (λ xs. map row_of olds ++ xs) (sym is) in
      let put = subst (λ xs. IsPermutation (map row_of (flat_map parts (values new))) xs) split more in
      IsPermutation-trans _ _ _ put (IsPermutation-trans _ _ _ (IsPermutation-append_left written _ _ held) adds)
