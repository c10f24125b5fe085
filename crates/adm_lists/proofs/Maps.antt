-- Finite maps: what they have at a key after one change, and their rows as a list.
use Rattle.std.proofs.Common.{◌≡◌, ◌∙◌, inl, inr, ap, sym, refl, cond, Bool, true, false, not, T, is_some, List, [], ◌∷◌, map, Some, None, Ordering, Less}
use Rattle.std.specs.Ordering.{is_eq, eq_by_cmp}
use Rattle.std.specs.Cmp.{IsTotalOrder}
use Rattle.std.specs.BTreeMap.{is_at}
use Rattle.std.specs.Map.{lookup, keys_of, values_of}
use Rattle.std.specs.List.{AllByRecursion}
use Rattle.std.specs.List.Sorted.{IsStrictlySortedBy}
use Rattle.std.specs.FinMap.Entries.{below_all}
use Rattle.std.specs.FinMap.{FinMap, find, get, insert, remove, empty, entries, values, from_entries, contains_key, entries_sorted, is_sorted, len-entries, len-empty, get-entries, get-from_entries, get-insert, get-remove, same_map, IsAntisymmetric}
use Rattle.std.proofs.lemmas.List.{nil_from_length}
use Rattle.std.proofs.lemmas.Option.{none-some, same_Some}
use Rattle.adm_lists.proofs.Tests.{both_hold}
use Rattle.adm_lists.proofs.Orders.{is_less, tied, same_key}
use Rattle.adm_lists.proofs.Members.{In}

-- ---- one change

module _ {K V : Type 0} {R : K → K → Ordering} (total : IsTotalOrder R) where
  -- a key that was there is there after a row is written
  pub contains_key-insert : (rows : FinMap R V) (key : K) (row : V) (q : K) → contains_key rows q ≡ true → contains_key (insert rows key row) q ≡ true
  contains_key-insert rows key row q there =
      ap is_some (get-insert total rows key row q)
      ∙ elim (eq_by_cmp R q key) as (λ b. is_some (cond b (Some row) (get rows q)) ≡ true) [ true ↦ refl | false ↦ there ]

  -- the key of the row that was removed is not there
  pub not_contains_key-removed : (rows : FinMap R V) (key : K) → not (contains_key (remove rows key) key) ≡ true
  not_contains_key-removed rows key = ap (λ o. not (is_some o)) (get-remove total rows key key ∙ ap (λ b. cond b None (get rows key)) (tied total key))

-- a map without rows has no values
pub values-empty : {K : Type 0} (R : K → K → Ordering) (V : Type 0) → values (empty {X = V} {R = R}) ≡ []
values-empty R V = ap (map (λ e. e.1)) (nil_from_length (entries (empty {X = V} {R = R})) (sym (len-entries (empty {X = V} {R = R})) ∙ len-empty R V))

-- ---- rows that are looked up

-- the first row that is found is the one that is looked up
find_row : {K V : Type 0} (R : K → K → Ordering) (rows : List (K × V)) (key : K) → find R key rows ≡ lookup (is_at (R key)) rows
find_row R [] key = refl
find_row R (row ∷ rows) key = ap (cond (is_at (R key) row.0) (Some row.1)) (find_row R rows key)

module _ {K V : Type 0} {R : K → K → Ordering} where
  -- what the map of the rows has at a key
  pub get_rows : IsTotalOrder R → (rows : List (K × V)) (key : K) → get (from_entries {R = R} rows) key ≡ lookup (is_at (R key)) rows
  get_rows total rows key = get-from_entries total rows key ∙ find_row R rows key

-- below all keys there is no row
pub none_at : {K V : Type 0} (R : K → K → Ordering) (key : K) (rows : List (K × V)) → AllByRecursion (λ other. R key other ≡ Less) (keys_of rows) → lookup (is_at (R key)) rows ≡ None
none_at R key [] above = refl
none_at R key (e ∷ es) above = ap (λ r. cond (is_eq r) (Some e.1) (lookup (is_at (R key)) es)) above.0 ∙ none_at R key es above.1

module _ {K V : Type 0} {R : K → K → Ordering} (same : IsAntisymmetric R) where
  -- a row that is there after the first one is at another key
  pub apart : (first : K) (rows : List (K × V)) → AllByRecursion (λ other. R first other ≡ Less) (keys_of rows) → (key : K) (row : V)
      → lookup (is_at (R key)) rows ≡ Some row → is_at (R key) first ≡ false
  apart first rows above key row there =
      elim (is_at (R key) first) as (λ b. is_at (R key) first ≡ b → b ≡ false) [
        | true ↦ λ tie. absurd (none-some row (sym (none_at R first rows above) ∙ ap (λ q. lookup (is_at (R q)) rows) (sym (same_key same key first tie)) ∙ there))
        | false ↦ λ tie. refl
      ] refl

-- ---- the rows of a map

-- a key that is tested to be below all is
below : {K V : Type 0} (R : K → K → Ordering) (k : K) (es : List (K × V)) → T (below_all R k es) → AllByRecursion (λ y. R k y ≡ Less) (keys_of es)
below R k [] h = tt
below R k (e ∷ es) h = let parts = both_hold _ _ h in (is_less _ parts.0, below R k es parts.1)

-- and keys that are tested to rise do
in_order : {K V : Type 0} (R : K → K → Ordering) (es : List (K × V)) → T (is_sorted R es) → IsStrictlySortedBy R (keys_of es)
unfolding IsStrictlySortedBy
in_order R [] h = tt
in_order R (e ∷ es) h = let parts = both_hold _ _ h in (below R e.0 es parts.0, in_order R es parts.1)

module _ {K V : Type 0} {R : K → K → Ordering} where
  -- the entries of a map are in the order of their keys
  pub entries_in_order : (m : FinMap R V) → IsStrictlySortedBy R (keys_of (entries m))
  entries_in_order m = in_order R (entries m) (entries_sorted m)

  -- a map is that of its entries
  pub map_of_entries : IsTotalOrder R → IsAntisymmetric R → (m : FinMap R V) → from_entries (entries m) ≡ m
  map_of_entries total same m = same_map total same _ _ (λ q. get-from_entries total (entries m) q ∙ sym (get-entries m q))

-- what is looked up is a value
from_lookup : {K V : Type 0} (test : K → Bool) (es : List (K × V)) (v : V) → lookup test es ≡ Some v → In v (values_of es)
from_lookup test [] v there = absurd (none-some v there)
from_lookup test (e ∷ es) v there =
    elim (test e.0) as (λ b. cond b (Some e.1) (lookup test es) ≡ Some v → In v (values_of (e ∷ es))) [
      | true ↦ λ here. inl (same_Some e.1 v here)
      | false ↦ λ here. inr (from_lookup test es v here)
    ] there

module _ {K V : Type 0} {R : K → K → Ordering} (total : IsTotalOrder R) (same : IsAntisymmetric R) (m : FinMap R V) where
  -- what a map has at a key is one of its values
  pub in_values : (k : K) (v : V) → get m k ≡ Some v → In v (values m)
  in_values k v there = from_lookup (is_at (R k)) (entries m) v (sym (get_rows total (entries m) k) ∙ ap (λ n. get n k) (map_of_entries total same m) ∙ there)
