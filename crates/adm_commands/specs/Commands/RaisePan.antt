-- To raise the admission number of a school (this profile).
use Rattle.std.specs.Prelude.{⊤, ℕ, Bool, false, ◌&&◌, nat_le, List, [], ◌∷◌, Option, Some, None}
use Rattle.std.specs.FinMap.{get, contains_key}
use Rattle.adm_types.specs.declared.rows.School.{School}
use Rattle.adm_types.specs.declared.commands.Refusal.{Refusal}
use Rattle.adm_types.specs.declared.commands.Refusal.TheVariants.{UnknownSchool, OutOfRange}
use Rattle.adm_types.specs.Limits.{is_pan}
use Rattle.adm_register.specs.declared.difference.Difference.{Difference}
use Rattle.adm_register.specs.State.{State}
use Rattle.adm_register.specs.Change.{no_change}
use Rattle.adm_commands.specs.Rules.{Rules, changes_just}

-- whether this is an admission number, and not below that of the school
abbrev pub may_have : Option School → ℕ → Bool
may_have None pan = false
may_have (Some school) pan = is_pan pan && nat_le school.pan pan

-- the school is there, and may have the number
unfoldable pub tests : State → List ℕ → ℕ → List (Bool × Refusal)
tests old school pan =
    (contains_key old.schools school, UnknownSchool)
    ∷ (may_have (get old.schools school) pan, OutOfRange)
    ∷ []

-- the school with this number, where there is one
abbrev pub with_pan : Option School → ℕ → List School
with_pan None pan = []
with_pan (Some school) pan = record school { pan = pan } ∷ []

-- the school has the number, and nothing else is changed: no child is offered the place
unfoldable pub change_of : State → List ℕ → ℕ → Difference
change_of old school pan = record no_change { schools = with_pan (get old.schools school) pan }

-- the command
abbrev pub rules : List ℕ → ℕ → Rules
rules school pan = changes_just ⊤ (λ old. tests old school pan) (λ old. change_of old school pan)
