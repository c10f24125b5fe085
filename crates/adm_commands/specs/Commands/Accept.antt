-- To accept an offer.
use Rattle.std.specs.Prelude.{⊤, ℕ, Bool, is_some, List, [], ◌∷◌}
use Rattle.std.specs.FinMap.{get, contains_key}
use Rattle.adm_types.specs.declared.commands.Refusal.{Refusal}
use Rattle.adm_types.specs.declared.commands.Refusal.TheVariants.{UnknownChild, UnknownSchool, NotOffered}
use Rattle.adm_types.specs.declared.rows.PlaceState.TheVariants.{Accepted}
use Rattle.adm_register.specs.declared.difference.Difference.{Difference}
use Rattle.adm_register.specs.State.{State}
use Rattle.adm_register.specs.Change.{no_change}
use Rattle.adm_commands.specs.Offered.{offer_at}
use Rattle.adm_commands.specs.Rules.{Rules, changes_just}

-- the child and the school are there, and the child was offered a place at the school
unfoldable pub tests : State → ℕ → List ℕ → List (Bool × Refusal)
tests old child school =
    (contains_key old.children child, UnknownChild)
    ∷ (contains_key old.schools school, UnknownSchool)
    ∷ (is_some (offer_at (get old.places child) school), NotOffered)
    ∷ []

-- its place there is accepted
unfoldable pub change_of : ℕ → List ℕ → Difference
change_of child school = record no_change { places = record { child = child; place = record { school = school; state = Accepted } } ∷ [] }

-- the command
abbrev pub rules : ℕ → List ℕ → Rules
rules child school = changes_just ⊤ (λ old. tests old child school) (λ old. change_of child school)
