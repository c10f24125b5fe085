-- To import children with their applications (this profile): row by row, each beside those before it, and atomically.
use Rattle.std.specs.Prelude.{◌≡◌, ℕ, ◌+◌, ◌-◌, Bool, false, not, List, [], ◌∷◌, ◌++◌, length, map, Option, Some, None, if◌then◌else◌}
use Rattle.std.specs.Ordering.{nat_cmp}
use Rattle.std.specs.List.Sorted.{IsPermutation, IsStrictlySortedBy}
use Rattle.std.specs.FinMap.{get, contains_key}
use Rattle.adm_types.specs.declared.rows.Row.{Row as ImportRow}
use Rattle.adm_types.specs.declared.commands.Refusal.{Refusal}
use Rattle.adm_types.specs.declared.commands.Refusal.TheVariants.{RowDiffers}
use Rattle.adm_types.specs.declared.commands.Reply.{Reply}
use Rattle.adm_types.specs.declared.commands.Reply.TheVariants.{Imported}
use Rattle.adm_table.specs.Same.{is_same_import}
use Rattle.adm_register.specs.declared.difference.Difference.{Difference}
use Rattle.adm_register.specs.State.{State, application_of}
use Rattle.adm_register.specs.Change.{after, no_change, change_of_child}
use Rattle.adm_commands.specs.declared.command_result.RowRefusal.{RowRefusal}
use Rattle.adm_commands.specs.Tests.{first_failing}
use Rattle.adm_commands.specs.Commands.AddChild as add_child
use Rattle.adm_commands.specs.Commands.Apply as apply
use Rattle.std.specs.List.{AllByRecursion}
use Rattle.adm_commands.specs.KeptByTypes.{KeptByImportRow}
use Rattle.adm_commands.specs.Rules.{Rules}

-- what rows add: the children, their applications, and the rows themselves
unfoldable pub change_of : List ImportRow → Difference
change_of added = record no_change { children = map (λ row. row.child) added; applications = map application_of added; imported = added }

-- whether there is an imported row, and it is equal to this one
abbrev pub is_same_as : Option ImportRow → ImportRow → Bool
is_same_as None row = false
is_same_as (Some kept) row = is_same_import kept row

-- a row is known where the imported row that is kept for its child is equal to it
unfoldable pub is_known : State → ImportRow → Bool
is_known s row = is_same_as (get s.imported row.child.no) row

-- the tests of a row that is not known: no such child is there; and those of adding the child, and then of its application
unfoldable pub row_tests : State → ImportRow → List (Bool × Refusal)
row_tests s row =
    (not (contains_key s.children row.child.no), RowDiffers) ∷ (add_child.tests s row.child ++ apply.tests (after s (change_of_child row.child)) (application_of row))

-- the refusal of a row by the first of its tests that fails; a known row is never refused
unfoldable pub refusal_of_row : State → ImportRow → Option Refusal
refusal_of_row s row = if is_known s row then None else first_failing (row_tests s row)

-- the register with a row that is new
unfoldable pub with_row : State → ImportRow → State
with_row s row = after s (change_of (row ∷ []))

-- the register that the next row sees: a known row changes nothing
unfoldable pub after_row : State → ImportRow → State
after_row s row = if is_known s row then s else with_row s row

-- a row's refusal with its number, or that of a later row
abbrev pub or_later : ℕ → Option Refusal → Option RowRefusal → Option RowRefusal
or_later number None later = later
or_later number (Some refusal) later = Some (record { refusal = refusal; row = number })

-- the first row that is refused, with its number, where the first row has this one
unfoldable pub refused_from : State → ℕ → List ImportRow → Option RowRefusal
refused_from s number [] = None
refused_from s number (row ∷ rows) = or_later number (refusal_of_row s row) (refused_from (after_row s row) (number + 1) rows)

-- the rows that are not known when their turn comes
unfoldable pub new_rows : State → List ImportRow → List ImportRow
new_rows s [] = []
new_rows s (row ∷ rows) = if is_known s row then new_rows s rows else row ∷ new_rows (with_row s row) rows

-- the new rows are added, in the order of their children's numbers, and counted beside those that were known
abbrev pub IsImported : State → List ImportRow → Difference → Reply → Type 0
IsImported old rows change reply =
    (added : List ImportRow) × IsPermutation (new_rows old rows) added × IsStrictlySortedBy nat_cmp (map (λ row. row.child.no) added)
    × (change ≡ change_of added) × (reply ≡ Imported (length added) (length rows - length added))

-- the command
abbrev pub rules : List ImportRow → Rules
rules rows = record { kept = AllByRecursion KeptByImportRow rows; refused = λ old. refused_from old 1 rows; changes = λ old. IsImported old rows }
