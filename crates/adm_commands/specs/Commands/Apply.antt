-- To apply: a child's list of schools, in its order of preference.
use Rattle.std.specs.Prelude.{Bool, not, ◌&&◌, nat_le, IsTrue, List, [], ◌∷◌, length}
use Rattle.std.specs.FinMap.{contains_key}
use Rattle.adm_types.specs.declared.rows.Application.{Application}
use Rattle.adm_types.specs.declared.commands.Refusal.{Refusal}
use Rattle.adm_types.specs.declared.commands.Refusal.TheVariants.{UnknownChild, HasPlan, AlreadyApplied, ListClosed, BadPreferences, UnknownSchool}
use Rattle.adm_types.specs.Limits.{first_day, is_from, is_without_repeat, most_preferences}
use Rattle.adm_types.specs.Seasons.{lists_end}
use Rattle.adm_register.specs.declared.difference.Difference.{Difference}
use Rattle.adm_register.specs.State.{State}
use Rattle.adm_register.specs.Change.{no_change}
use Rattle.adm_register.specs.Plans.{has_plan}
use Rattle.adm_register.specs.WellFormed.{are_schools}
use Rattle.adm_commands.specs.Rules.{Rules, changes_just}

-- the tests but the first: its child has no plan and no application, the lists are open, and the list has 1 to 10 schools of the register without repeat
abbrev pub further_tests : State → Application → List (Bool × Refusal)
further_tests old application =
    (not (has_plan old.places application.child), HasPlan)
    ∷ (not (contains_key old.applications application.child), AlreadyApplied)
    ∷ (nat_le application.day (lists_end old.season), ListClosed)
    ∷ (is_from 1 most_preferences (length application.list) && is_without_repeat application.list, BadPreferences)
    ∷ (are_schools old.schools application.list, UnknownSchool)
    ∷ []

-- the child is there, with no plan and no application, the lists are open, and the list has 1 to 10 schools of the register without repeat
unfoldable pub tests : State → Application → List (Bool × Refusal)
tests old application = (contains_key old.children application.child, UnknownChild) ∷ further_tests old application

-- the application is written
unfoldable pub change_of : Application → Difference
change_of application = record no_change { applications = application ∷ [] }

-- the command
abbrev pub rules : Application → Rules
rules application = changes_just (IsTrue (nat_le first_day application.day)) (λ old. tests old application) (λ old. change_of application)
