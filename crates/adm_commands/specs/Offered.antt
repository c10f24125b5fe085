-- Offers of places, and their days.
use Rattle.std.specs.Prelude.{ℕ, ◌+◌, Bool, true, false, nat_le, List, Option, Some, None, if◌then◌else◌, bytes_eq}
use Rattle.adm_types.specs.declared.rows.PlaceRow.{PlaceRow}
use Rattle.adm_types.specs.declared.rows.PlaceState.{PlaceState}
use Rattle.adm_types.specs.declared.rows.PlaceState.TheVariants.{Offered, Accepted, Plan}

-- the day of an offer and that of its reminder, where the place is offered
abbrev pub offer_days : PlaceState → Option (ℕ × Option ℕ)
offer_days (Offered day reminded) = Some (day, reminded)
offer_days Accepted = None
offer_days Plan = None

-- those of the offer at the school
abbrev pub offer_at : Option PlaceRow → List ℕ → Option (ℕ × Option ℕ)
offer_at None school = None
offer_at (Some row) school = if bytes_eq row.place.school school then offer_days row.place.state else None

-- whether the offer was reminded
abbrev pub is_reminded : Option (ℕ × Option ℕ) → Bool
is_reminded None = false
is_reminded (Some (day, None)) = false
is_reminded (Some (day, Some reminded)) = true

-- whether the day comes at least 14 days after the offer, or after its reminder
abbrev pub is_after_offer : Option (ℕ × Option ℕ) → ℕ → Bool
is_after_offer None day = false
is_after_offer (Some (offered, reminded)) day = nat_le (offered + 14) day

-- whether there was a reminder of the offer, at least 14 days before this day (this profile)
abbrev pub is_after_reminder : Option (ℕ × Option ℕ) → ℕ → Bool
is_after_reminder None day = false
is_after_reminder (Some (offered, None)) day = false
is_after_reminder (Some (offered, Some reminded)) day = nat_le (reminded + 14) day
