-- The rows of a map, put into a table again, make that map.
use Rattle.std.proofs.Common.{◌≡◌, ◌∙◌, sym, subst, List}
use Rattle.std.specs.Prelude.{map}
use Rattle.std.specs.declared.cmp.Ordering.{Ordering}
use Rattle.std.specs.Cmp.{IsTotalOrder}
use Rattle.std.specs.Map.{keys_of, values_of}
use Rattle.std.specs.List.Sorted.{IsPermutation, IsStrictlySortedBy}
use Rattle.std.specs.FinMap.{FinMap, from_entries, values, IsAntisymmetric}
use Rattle.std.proofs.lemmas.List.Sorted.{IsPermutation-refl, IsPermutation-sym, IsPermutation-trans}
use Rattle.adm_lists.proofs.Rising.{one_order}
use Rattle.adm_register.specs.WellFormed.{AllRows}
use Rattle.adm_register.proofs.TableMaps.{values_rows}
use Rattle.adm_register.proofs.SameRows.{rows_at_own_keys, same_maps}

module _ {K V : Type 0} {R : K → K → Ordering} (total : IsTotalOrder R) (same : IsAntisymmetric R) (key : V → K) (rows : List V) (table : List (K × V))
    (made : IsPermutation rows (values_of table) × (map key (values_of table) ≡ keys_of table) × IsStrictlySortedBy R (keys_of table)) where
  -- the table's map has the rows
  pub rows_of_table : IsPermutation rows (values (from_entries {R = R} table))
  rows_of_table = subst (IsPermutation rows) (sym (values_rows total table made.2)) made.0

  -- and each map of these rows at their own keys is that map
  pub same_as_table : (m : FinMap R V) → AllRows (λ k v. key v ≡ k) m → IsPermutation rows (values m) → m ≡ from_entries table
  same_as_table m own permuted =
      same_maps total same key m (from_entries table) own (rows_at_own_keys total same key table made.1)
      (IsPermutation-trans (values m) rows (values (from_entries {R = R} table)) (IsPermutation-sym rows (values m) permuted) rows_of_table)

-- a map of just the values of a table, each at its own key, is that of the table
pub same_values : {K V : Type 0} {R : K → K → Ordering} → IsTotalOrder R → IsAntisymmetric R → (key : V → K) (m : FinMap R V) (table : List (K × V)) → AllRows (λ k v. key v ≡ k) m
    → map key (values_of table) ≡ keys_of table → IsStrictlySortedBy R (keys_of table) → values m ≡ values_of table → m ≡ from_entries table
same_values total same key m table own keyed sorted is =
    same_maps total same key m (from_entries table) own (rows_at_own_keys total same key table keyed)
    (subst (IsPermutation (values m)) (is ∙ sym (values_rows total table sorted)) (IsPermutation-refl (values m)))

-- a table of rows that were in order has them in that order
pub same_order : {K V : Type 0} {R : K → K → Ordering} → IsTotalOrder R → IsAntisymmetric R → (key : V → K) (rows : List V) (table : List (K × V))
    → (IsPermutation rows (values_of table) × (map key (values_of table) ≡ keys_of table) × IsStrictlySortedBy R (keys_of table)) → IsStrictlySortedBy R (map key rows) → values_of table ≡ rows
same_order {R = R} total same key rows table made sorted =
    one_order total key (values_of table) rows (IsPermutation-sym rows (values_of table) made.0) (subst (IsStrictlySortedBy R) (sym made.1) made.2) sorted
