-- To add a school.
use Rattle.std.specs.Prelude.{Bool, not, nat_lt, List, [], ◌∷◌}
use Rattle.std.specs.FinMap.{len, contains_key}
use Rattle.adm_types.specs.declared.rows.School.{School}
use Rattle.adm_types.specs.declared.commands.Refusal.{Refusal}
use Rattle.adm_types.specs.declared.commands.Refusal.TheVariants.{SchoolKnown, BadText, OutOfRange, RegisterFull}
use Rattle.adm_types.specs.Limits.{is_name, is_school_of_size, most_schools}
use Rattle.adm_register.specs.declared.difference.Difference.{Difference}
use Rattle.adm_register.specs.State.{State}
use Rattle.adm_register.specs.Change.{no_change}
use Rattle.adm_commands.specs.KeptByTypes.{KeptBySchool}
use Rattle.adm_commands.specs.Rules.{Rules, changes_just}

-- its code is new, its name, its numbers and its criteria are in the limits of the season's size, and there are fewer schools than it allows
unfoldable pub tests : State → School → List (Bool × Refusal)
tests old school =
    (not (contains_key old.schools school.code), SchoolKnown)
    ∷ (is_name school.name, BadText)
    ∷ (is_school_of_size old.season.size school, OutOfRange)
    ∷ (nat_lt (len old.schools) (most_schools old.season.size), RegisterFull)
    ∷ []

-- the school is written
unfoldable pub change_of : School → Difference
change_of school = record no_change { schools = school ∷ [] }

-- the command
abbrev pub rules : School → Rules
rules school = changes_just (KeptBySchool school) (λ old. tests old school) (λ old. change_of school)
