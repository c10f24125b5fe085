-- Rows that keys drop, one after another.
use Rattle.std.proofs.Common.{◌≡◌, ◌∙◌, Bool, not, List, [], ◌∷◌, map, filter, fold, sym, ap}
use Rattle.std.specs.List.{list_all}
use Rattle.std.specs.List.Sorted.{IsPermutation}
use Rattle.sqlite.specs.Order.{Row}
use Rattle.sqlite_trees.proofs.ListLemmas.{filter-map, IsPermutation-filter}
use Rattle.adm_schema.specs.Effects.{begins_with, drop_of}
use Rattle.adm_rows.proofs.PresentLists.{filter_twice, filter_true}

-- one key after another drops rows
abbrev pub drop_each : List Row → List Row → List Row
drop_each = fold (λ rows key. drop_of key rows)

module _ {K V : Type 0} (row_of : V → Row) (key_of : K → Row) where
  -- none of these keys drops the row
  abbrev pub left_by : List K → V → Bool
  left_by keys v = list_all (λ key. not (begins_with (key_of key) (row_of v))) keys

  -- what the keys leave of rows
  pub drops : (keys : List K) (vs : List V) → drop_each (map row_of vs) (map key_of keys) ≡ map row_of (filter (left_by keys) vs)
  drops [] vs = ap (map row_of) (sym (filter_true vs))
  drops (key ∷ keys) vs =
      let one = λ (v : V). not (begins_with (key_of key) (row_of v)) in
      ap (λ xs. drop_each xs (map key_of keys)) (filter-map (λ row. not (begins_with (key_of key) row)) row_of vs)
      ∙ drops keys (filter one vs) ∙ ap (map row_of) (filter_twice (left_by keys) one vs)

-- of rows in another order the same remain
pub drops_moved : (keys xs ys : List Row) → IsPermutation xs ys → IsPermutation (drop_each xs keys) (drop_each ys keys)
drops_moved [] xs ys moved = moved
drops_moved (key ∷ keys) xs ys moved = drops_moved keys (drop_of key xs) (drop_of key ys) (IsPermutation-filter (λ row. not (begins_with key row)) xs ys moved)
