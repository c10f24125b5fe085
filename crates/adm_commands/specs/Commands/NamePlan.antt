-- To name a school in a child's plan.
use Rattle.std.specs.Prelude.{⊤, ℕ, Bool, not, List, [], ◌∷◌}
use Rattle.std.specs.FinMap.{contains_key}
use Rattle.adm_types.specs.declared.commands.Refusal.{Refusal}
use Rattle.adm_types.specs.declared.commands.Refusal.TheVariants.{UnknownChild, UnknownSchool, HasPlan}
use Rattle.adm_types.specs.declared.rows.PlaceState.TheVariants.{Plan}
use Rattle.adm_register.specs.declared.difference.Difference.{Difference}
use Rattle.adm_register.specs.State.{State}
use Rattle.adm_register.specs.Change.{no_change}
use Rattle.adm_register.specs.Plans.{has_plan}
use Rattle.adm_commands.specs.Rules.{Rules, changes_just}

-- the child and the school are there, and the child has no plan
unfoldable pub tests : State → ℕ → List ℕ → List (Bool × Refusal)
tests old child school =
    (contains_key old.children child, UnknownChild)
    ∷ (contains_key old.schools school, UnknownSchool)
    ∷ (not (has_plan old.places child), HasPlan)
    ∷ []

-- its place is that of the plan, and its application ends
unfoldable pub change_of : ℕ → List ℕ → Difference
change_of child school =
    record no_change { places = record { child = child; place = record { school = school; state = Plan } } ∷ []; ended = child ∷ [] }

-- the command
abbrev pub rules : ℕ → List ℕ → Rules
rules child school = changes_just ⊤ (λ old. tests old child school) (λ old. change_of child school)
