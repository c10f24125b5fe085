-- The table `school`: which of its rows are deleted, to be added as they are now.
use Rattle.std.specs.Prelude.{ℕ, List, [], ◌∷◌, if◌then◌else◌}
use Rattle.std.specs.List.{flat_map}
use Rattle.std.specs.FinMap.{FinMap, contains_key}
use Rattle.adm_types.specs.declared.rows.School.{School}
use Rattle.adm_types.specs.Limits.{code_cmp}
use Rattle.sqlite.specs.declared.types.Value.TheVariants.{Text}
use Rattle.sqlite.specs.Order.{Row}

-- the key of a school's row
abbrev pub code_row : List ℕ → Row
code_row code = Text code ∷ []

-- the code of a school that was there
abbrev pub replaced_by : FinMap code_cmp School → School → List (List ℕ)
replaced_by before school = if contains_key before school.code then school.code ∷ [] else []

-- of the schools that are new or changed, those that were there
abbrev pub replaced_of : FinMap code_cmp School → List School → List (List ℕ)
replaced_of before = flat_map (replaced_by before)
