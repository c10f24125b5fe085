-- The letter to a child, line by line. This profile's own form.
use Rattle.std.specs.Prelude.{ℕ, List, [], ◌∷◌, ◌++◌, map, Option, Some, None, option_map}
use Rattle.std.specs.FinMap.{get}
use Rattle.adm_types.specs.declared.rows.School.{School}
use Rattle.adm_types.specs.declared.rows.Child.{Child}
use Rattle.adm_types.specs.declared.rows.Place.{Place}
use Rattle.adm_types.specs.declared.rows.PlaceState.{PlaceState}
use Rattle.adm_types.specs.declared.rows.PlaceState.TheVariants.{Offered, Accepted, Plan}
use Rattle.adm_register.specs.State.{State}
use Rattle.adm_register.specs.Rows.{place_of}
use Rattle.adm_register.specs.Waits.{standings_of}
use Rattle.adm_register.specs.declared.standings.Standing.{Standing}
use Rattle.adm_days.specs.Days.{day_text}
use Rattle.adm_letters.specs.LetterLines.{head_line, child_line, phase_text, no_place, offered_line, reminded_line, accepted_line, plan_line, withdrawal_line, waiting_line, waits_nowhere}
use Rattle.adm_letters.specs.Lines.{lines_text}

-- an offer of this day, and what may follow after a reminder
abbrev pub offer_lines : List ℕ → List ℕ → ℕ → Option ℕ → List (List ℕ)
offer_lines code name day None = offered_line code name (day_text day) ∷ []
offer_lines code name day (Some reminded) = reminded_line code name (day_text day) (day_text reminded) ∷ withdrawal_line (day_text reminded) ∷ []

-- a place at the school of this code and name
abbrev pub place_lines : List ℕ → List ℕ → PlaceState → List (List ℕ)
place_lines code name (Offered day reminded) = offer_lines code name day reminded
place_lines code name Accepted = accepted_line code name ∷ []
place_lines code name Plan = plan_line code name ∷ []

-- the name of a school; a place and what is wanted are at schools that are there
abbrev pub name_in : Option School → List ℕ
name_in None = []
name_in (Some school) = school.name

-- the name of the school of a code
abbrev pub school_name : State → List ℕ → List ℕ
school_name s code = name_in (get s.schools code)

-- the place of the child, or that it has none
abbrev pub lines_of_place : State → Option Place → List (List ℕ)
lines_of_place s None = no_place ∷ []
lines_of_place s (Some place) = place_lines place.school (school_name s place.school) place.state

-- where the child is at each school at which it waits, or that it waits nowhere
abbrev pub wait_line : State → List ℕ × Standing → List ℕ
wait_line s wait = waiting_line wait.0 (school_name s wait.0) wait.1.entry wait.1.many

-- a line for each school at which the child waits, or the line that it waits nowhere
abbrev pub lines_of_waits : State → List (List ℕ × Standing) → List (List ℕ)
lines_of_waits s [] = waits_nowhere ∷ []
lines_of_waits s (wait ∷ waits) = map (wait_line s) (wait ∷ waits)

-- the letter to a child
unfoldable pub letter_lines : State → Child → List (List ℕ)
letter_lines s child =
    head_line s.season.year (phase_text s.season.phase) ∷ child_line child.no child.name ∷ (lines_of_place s (place_of s child.no) ++ lines_of_waits s (standings_of s child.no))

-- the letter to the child of a number, if there is such a child
abbrev pub letter_text : State → ℕ → Option (List ℕ)
letter_text s number = option_map (λ child. lines_text (letter_lines s child)) (get s.children number)
