-- Rows of present schools, and the children and imported rows that they are joined to.
use Rattle.std.specs.Prelude.{ℕ, Bool, List, map, Contains}
use Rattle.std.specs.List.{IsDistinct}
use Rattle.std.specs.List.Sorted.{IsPermutation}
use Rattle.std.specs.declared.cmp.Ordering.{Ordering}
use Rattle.std.specs.Ordering.{nat_cmp, bool_cmp, ordering_then, eq_by_cmp}
use Rattle.std.specs.BTreeMap.{BTreeMap}
use Rattle.adm_types.specs.Children.{bare_child, bare_import, presents_of}
use Rattle.adm_types.specs.declared.rows.Child.{Child}
use Rattle.adm_types.specs.declared.rows.Row.{Row as ImportRow}
use Rattle.adm_types.specs.declared.rows.PresentRow.{PresentRow}

-- the number of the child of an imported row
abbrev pub import_no : ImportRow → ℕ
import_no row = row.child.no

-- no number occurs twice
abbrev pub IsOnceEach : List ℕ → Type 0
IsOnceEach = IsDistinct (eq_by_cmp nat_cmp)

-- these children and imported rows are the given ones but for their present schools, which the rows say; no child is among either of them twice
pub record IsJoin (children : List Child) (imported : List ImportRow) (rows : List PresentRow) (joined : List Child) (joined_imports : List ImportRow) : Type 0 where
  pub same_children : IsPermutation (map bare_child joined) (map bare_child children)
  pub same_imports : IsPermutation (map bare_import joined_imports) (map bare_import imported)
  pub presents : IsPermutation (presents_of joined joined_imports) rows
  pub once : IsOnceEach (map (λ c. c.no) joined)
  pub once_imported : IsOnceEach (map import_no joined_imports)

-- the row of the school that remains at a key
abbrev pub present_left_at : (ℕ × Bool) × List ℕ → PresentRow
present_left_at entry = record { child = entry.0.0; is_imported = entry.0.1; school = entry.1 }

-- the rows that remain
abbrev pub left_rows : BTreeMap (ℕ × Bool) (List ℕ) → List PresentRow
left_rows left = map present_left_at left.entries

-- where the school of a row is written
abbrev pub present_key : PresentRow → ℕ × Bool
present_key row = (row.child, row.is_imported)

-- by the child, and then whether the row is an imported one
abbrev pub key_cmp : ℕ × Bool → ℕ × Bool → Ordering
key_cmp x y = ordering_then (nat_cmp x.0 y.0) (bool_cmp x.1 y.1)

-- no two rows have one key
abbrev pub IsOnceEachKey : List PresentRow → Type 0
IsOnceEachKey rows = IsDistinct (eq_by_cmp key_cmp) (map present_key rows)

-- no row says the school of this child
abbrev pub IsWithout : List PresentRow → Bool → ℕ → Type 0
IsWithout rows is_imported child = (school : List ℕ) → Contains rows (record { child = child; is_imported = is_imported; school = school }) → ⊥
