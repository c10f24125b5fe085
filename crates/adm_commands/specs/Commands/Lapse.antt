-- To let an offer lapse (School Admissions Code 2021, section 2: an offer may be withdrawn only after a further opportunity to respond).
use Rattle.std.specs.Prelude.{⊤, ℕ, Bool, is_some, List, [], ◌∷◌}
use Rattle.std.specs.FinMap.{get, contains_key}
use Rattle.adm_types.specs.declared.commands.Refusal.{Refusal}
use Rattle.adm_types.specs.declared.commands.Refusal.TheVariants.{UnknownChild, UnknownSchool, NotOffered, NotReminded, TooSoon}
use Rattle.adm_register.specs.State.{State}
use Rattle.adm_commands.specs.Offered.{offer_at, is_reminded, is_after_reminder}
use Rattle.adm_commands.specs.Commands.Decline.{change_of}
use Rattle.adm_commands.specs.Rules.{Rules, changes_just}

-- The child and the school are there, the child was offered a place at the school, and was reminded at least 14 days before. The change is that of a place that is declined.
unfoldable pub tests : State → ℕ → List ℕ → ℕ → List (Bool × Refusal)
tests old child school day =
    (contains_key old.children child, UnknownChild)
    ∷ (contains_key old.schools school, UnknownSchool)
    ∷ (is_some (offer_at (get old.places child) school), NotOffered)
    ∷ (is_reminded (offer_at (get old.places child) school), NotReminded)
    ∷ (is_after_reminder (offer_at (get old.places child) school) day, TooSoon)
    ∷ []

-- the command
abbrev pub rules : ℕ → List ℕ → ℕ → Rules
rules child school day = changes_just ⊤ (λ old. tests old child school day) (λ old. change_of child school)
