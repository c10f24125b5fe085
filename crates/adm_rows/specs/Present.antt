-- The table `present`: the present schools of children and of imported rows.
use Rattle.std.specs.Prelude.{ℕ, pos, List, [], ◌∷◌, ◌++◌, Bool, false, Option, Some, None, option_and_then, if◌then◌else◌, bytes_eq}
use Rattle.std.specs.List.{flat_map}
use Rattle.std.specs.Option.{option_eq}
use Rattle.std.specs.Ordering.{nat_cmp}
use Rattle.std.specs.FinMap.{FinMap, get}
use Rattle.adm_types.specs.Children.{present_of_child, present_of_import}
use Rattle.adm_types.specs.declared.rows.Child.{Child}
use Rattle.adm_types.specs.declared.rows.Row.{Row as ImportRow}
use Rattle.adm_types.specs.declared.rows.PresentRow.{PresentRow}
use Rattle.sqlite.specs.declared.types.Value.TheVariants.{Int, Text}
use Rattle.sqlite.specs.Order.{Row}
use Rattle.adm_rows.specs.Forms.{truth_code}

-- a row of it
abbrev pub present_columns : PresentRow → Row
present_columns row = Int (pos row.child) ∷ Int (pos (truth_code row.is_imported)) ∷ Text row.school ∷ []

-- the key of a child's row
abbrev pub moved_key : ℕ → Row
moved_key child = Int (pos child) ∷ Int (pos (truth_code false)) ∷ []

-- the present school that a child had
abbrev pub was_present : FinMap nat_cmp Child → ℕ → Option (List ℕ)
was_present children child = option_and_then (λ (c : Child). c.present) (get children child)

-- whether two present schools are the same, or both are missing
abbrev pub is_same_present : Option (List ℕ) → Option (List ℕ) → Bool
is_same_present = option_eq bytes_eq

-- a child that had a present school has another now, or none: its number
abbrev pub moved_from : Option (List ℕ) → Child → List ℕ
moved_from None child = []
moved_from (Some school) child = if is_same_present (Some school) child.present then [] else child.no ∷ []

-- the child's number, if it had a present school, and has another one or none now
abbrev pub present_removed_by : FinMap nat_cmp Child → Child → List ℕ
present_removed_by before child = moved_from (was_present before child.no) child

-- a child has a present school that it had not: its row
abbrev pub arrived_from : Option (List ℕ) → Child → List PresentRow
arrived_from before child = if is_same_present before child.present then [] else present_of_child child

-- the child's row of `present`, if it has a present school, and had another one or none before
abbrev pub present_added_by : FinMap nat_cmp Child → Child → List PresentRow
present_added_by before child = arrived_from (was_present before child.no) child

-- of the children that changed, those whose row goes, and the rows that come; those of imported rows only come
abbrev pub present_removed_of : FinMap nat_cmp Child → List Child → List ℕ
present_removed_of before = flat_map (present_removed_by before)

-- the rows of `present` that are inserted: those of changed children with a new present school, and those of new imported rows
abbrev pub present_added_of : FinMap nat_cmp Child → List Child → List ImportRow → List PresentRow
present_added_of before children imported = flat_map (present_added_by before) children ++ flat_map present_of_import imported
