-- Children and imported rows, with their present schools and bare.
use Rattle.std.specs.Prelude.{ℕ, List, [], ◌∷◌, ◌++◌, Bool, true, false, Option, Some, None}
use Rattle.std.specs.List.{flat_map}
use Rattle.adm_types.specs.declared.rows.Child.{Child}
use Rattle.adm_types.specs.declared.rows.Row.{Row as ImportRow}
use Rattle.adm_types.specs.declared.rows.PresentRow.{PresentRow}

-- the child, with this present school
abbrev pub with_present : Child → Option (List ℕ) → Child
with_present child school = record child { present = school }

-- the same without a present school
abbrev pub bare_child : Child → Child
bare_child child = with_present child None

abbrev pub bare_import : ImportRow → ImportRow
bare_import row = record { child = bare_child row.child; day = row.day; preferences = row.preferences }

-- the row of a present school, where there is one
abbrev pub present_row : ℕ → Bool → Option (List ℕ) → List PresentRow
present_row child is_imported None = []
present_row child is_imported (Some school) = record { child = child; is_imported = is_imported; school = school } ∷ []

-- the row for the present school of a child, if it has one
abbrev pub present_of_child : Child → List PresentRow
present_of_child child = present_row child.no false child.present

-- the row for the present school of an imported row's child, if it has one
abbrev pub present_of_import : ImportRow → List PresentRow
present_of_import row = present_row row.child.no true row.child.present

-- the rows of the present schools of children, and then of imported rows
abbrev pub presents_of : List Child → List ImportRow → List PresentRow
presents_of children imported = flat_map present_of_child children ++ flat_map present_of_import imported
