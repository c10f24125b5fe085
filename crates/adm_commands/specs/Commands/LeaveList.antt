-- To take a child off the waiting list of a school (this profile).
use Rattle.std.specs.Prelude.{⊤, ℕ, Bool, List, [], ◌∷◌}
use Rattle.std.specs.FinMap.{contains_key}
use Rattle.adm_types.specs.declared.commands.Refusal.{Refusal}
use Rattle.adm_types.specs.declared.commands.Refusal.TheVariants.{UnknownChild, UnknownSchool, NotWaiting}
use Rattle.adm_register.specs.declared.difference.Difference.{Difference}
use Rattle.adm_register.specs.State.{State}
use Rattle.adm_register.specs.Change.{no_change}
use Rattle.adm_register.specs.Waits.{is_waiting}
use Rattle.adm_commands.specs.Rules.{Rules, changes_just}

-- the child and the school are there, and the child waits at the school
unfoldable pub tests : State → ℕ → List ℕ → List (Bool × Refusal)
tests old child school =
    (contains_key old.children child, UnknownChild)
    ∷ (contains_key old.schools school, UnknownSchool)
    ∷ (is_waiting old child school, NotWaiting)
    ∷ []

-- the school is left, and nothing else is changed: the child keeps its place
unfoldable pub change_of : ℕ → List ℕ → Difference
change_of child school = record no_change { left = record { child = child; school = school } ∷ [] }

-- the command
abbrev pub rules : ℕ → List ℕ → Rules
rules child school = changes_just ⊤ (λ old. tests old child school) (λ old. change_of child school)
