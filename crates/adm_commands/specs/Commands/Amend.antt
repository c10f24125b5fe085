-- To replace a child's data.
use Rattle.std.specs.Prelude.{Bool, List, [], ◌∷◌}
use Rattle.std.specs.FinMap.{contains_key}
use Rattle.adm_types.specs.declared.rows.Child.{Child}
use Rattle.adm_types.specs.declared.commands.Refusal.{Refusal}
use Rattle.adm_types.specs.declared.commands.Refusal.TheVariants.{UnknownChild, BadText, OutOfRange, UnknownSchool}
use Rattle.adm_types.specs.Limits.{is_name, is_child_of_size}
use Rattle.adm_register.specs.State.{State}
use Rattle.adm_register.specs.WellFormed.{has_schools_of}
use Rattle.adm_register.specs.Change.{change_of_child}
use Rattle.adm_commands.specs.KeptByTypes.{KeptByChild}
use Rattle.adm_commands.specs.Rules.{Rules, changes_just}

-- the child is there, its name and its numbers are in the limits of the season's size, and its siblings' and catchment schools are there
unfoldable pub tests : State → Child → List (Bool × Refusal)
tests old child =
    (contains_key old.children child.no, UnknownChild)
    ∷ (is_name child.name, BadText)
    ∷ (is_child_of_size old.season.size child, OutOfRange)
    ∷ (has_schools_of old.schools child, UnknownSchool)
    ∷ []

-- the command: the child is written in place of what was there
abbrev pub rules : Child → Rules
rules child = changes_just (KeptByChild child) (λ old. tests old child) (λ old. change_of_child child)
