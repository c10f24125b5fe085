-- Who waits at which school, and the waiting lists that this makes.
-- School Admissions Code 2021, section 2: waiting lists; a child waits at each school that it wants more than its place, from when
-- it does, and which it left, are this profile's.
use Rattle.std.specs.Prelude.{ℕ, Bool, false, ◌&&◌, List, length, Option, Some, None, option_map, if◌then◌else◌}
use Rattle.std.specs.List.{filter_map, list_any}
use Rattle.std.specs.FinMap.{get, values}
use Rattle.adm_types.specs.Limits.{is_listed}
use Rattle.adm_types.specs.declared.rows.Child.{Child}
use Rattle.adm_types.specs.declared.rows.Application.{Application}
use Rattle.adm_types.specs.declared.rows.School.{School}
use Rattle.adm_waiting.specs.declared.lists.Waiting.{Waiting}
use Rattle.adm_waiting.specs.Waiting.{entry_of, waiting_list}
use Rattle.adm_register.specs.declared.standings.Standing.{Standing}
use Rattle.adm_register.specs.State.{State}
use Rattle.adm_register.specs.WellFormed.{has_first_round}
use Rattle.adm_register.specs.Wanted.{wanted_of, wanted}

-- after the first round the child of an application waits at each school that it wants; before it nobody waits
abbrev pub waits : State → Application → List ℕ → Bool
waits s application code = has_first_round s.draws && is_listed (wanted_of s application) code

-- whether a child waits at the school: it does not where it has no application
abbrev pub is_waiting : State → ℕ → List ℕ → Bool
is_waiting s child code = by (get s.applications child)
  where
    by : Option Application → Bool
    by None = false
    by (Some application) = waits s application code

-- whether an application lists one of the schools
abbrev pub lists_some : List (List ℕ) → Application → Bool
lists_some codes application = list_any (is_listed codes) application.list

-- the child of an application that waits at the school
abbrev pub waiting_child : State → List ℕ → Application → Option Child
waiting_child s code application = if waits s application code then get s.children application.child else None

-- who waits at the school, by their numbers
abbrev pub waiting_at : State → List ℕ → List Child
waiting_at s code = filter_map (waiting_child s code) (values s.applications)

-- the waiting list of the school
abbrev pub list_of : State → School → List Waiting
list_of s school = waiting_list school (waiting_at s school.code)

-- the position of a child on the waiting list of a school, if it waits there: its entry, and how many wait
abbrev pub standing_of : State → ℕ → List ℕ → Option Standing
standing_of s child code = if is_waiting s child code then among (get s.schools code) (get s.children child) else None
  where
    among : Option School → Option Child → Option Standing
    among None child = None
    among (Some school) None = None
    among (Some school) (Some child) = Some (record { entry = entry_of school (waiting_at s code) child; many = length (waiting_at s code) })

-- the position of a child at one of the schools, beside the school's code, if it waits there
abbrev pub standing_at : State → ℕ → List ℕ → Option (List ℕ × Standing)
standing_at s child code = option_map (λ standing. (code, standing)) (standing_of s child code)

-- the positions of a child at each school that it wants and waits at, the most wanted first
abbrev pub standings_of : State → ℕ → List (List ℕ × Standing)
standings_of s child = filter_map (standing_at s child) (wanted s child)
