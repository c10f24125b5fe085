-- To remind of an offer (School Admissions Code 2021, section 2: a further opportunity to respond; the 14 days are this profile's).
use Rattle.std.specs.Prelude.{ℕ, Bool, not, is_some, IsTrue, nat_le, List, [], ◌∷◌, Option, Some, None}
use Rattle.std.specs.FinMap.{get, contains_key}
use Rattle.adm_types.specs.Limits.{last_day}
use Rattle.adm_types.specs.declared.commands.Refusal.{Refusal}
use Rattle.adm_types.specs.declared.commands.Refusal.TheVariants.{UnknownChild, UnknownSchool, NotOffered, AlreadyReminded, TooSoon}
use Rattle.adm_types.specs.declared.rows.PlaceState.TheVariants.{Offered}
use Rattle.adm_register.specs.declared.difference.Difference.{Difference}
use Rattle.adm_register.specs.State.{State}
use Rattle.adm_register.specs.Change.{no_change}
use Rattle.adm_commands.specs.Offered.{offer_at, is_reminded, is_after_offer}
use Rattle.adm_commands.specs.Rules.{Rules, changes_just}

-- the child and the school are there, the child was offered a place at the school at least 14 days before, and was not reminded
unfoldable pub tests : State → ℕ → List ℕ → ℕ → List (Bool × Refusal)
tests old child school day =
    (contains_key old.children child, UnknownChild)
    ∷ (contains_key old.schools school, UnknownSchool)
    ∷ (is_some (offer_at (get old.places child) school), NotOffered)
    ∷ (not (is_reminded (offer_at (get old.places child) school)), AlreadyReminded)
    ∷ (is_after_offer (offer_at (get old.places child) school) day, TooSoon)
    ∷ []

-- the offer with its reminder
abbrev pub reminded_on : ℕ → List ℕ → ℕ → Option (ℕ × Option ℕ) → Difference
reminded_on child school day None = no_change
reminded_on child school day (Some (offered, before)) =
    record no_change { places = record { child = child; place = record { school = school; state = Offered offered (Some day) } } ∷ [] }

-- the day of the reminder is noted
unfoldable pub change_of : State → ℕ → List ℕ → ℕ → Difference
change_of old child school day = reminded_on child school day (offer_at (get old.places child) school)

-- the command
abbrev pub rules : ℕ → List ℕ → ℕ → Rules
rules child school day = changes_just (IsTrue (nat_le day last_day)) (λ old. tests old child school day) (λ old. change_of old child school day)
