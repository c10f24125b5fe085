-- Schools as JSON data: their fields, how their places are taken, and how many wait.
use Rattle.std.specs.Prelude.{ℕ, ◌-◌, ◌&&◌, Bool, List, length, codes, count_by, Option, option_map, bytes_eq}
use Rattle.std.specs.FinMap.{get, values}
use Rattle.serde_json.specs.Data.{Data, string, object, no_members, member}
use Rattle.adm_types.specs.declared.rows.School.{School}
use Rattle.adm_types.specs.declared.rows.PlaceRow.{PlaceRow}
use Rattle.adm_register.specs.State.{State, is_plan}
use Rattle.adm_register.specs.Rows.{places_at}
use Rattle.adm_register.specs.Waits.{waiting_at}
use Rattle.adm_view.specs.Writing.{number_data, list_data, criterion_data}

-- whether this is a place of a plan at the school
abbrev pub is_plan_at : List ℕ → PlaceRow → Bool
is_plan_at code row = bytes_eq row.place.school code && is_plan row.place.state

-- how many places of plans there are at the school
abbrev pub plans_at : State → List ℕ → ℕ
plans_at s code = count_by (is_plan_at code) (values s.places)

-- a school: its fields, the places of plans there, all places there, those left, and how many wait
abbrev pub school_data : State → School → Data
school_data s school =
    object (member (codes "criteria") (list_data criterion_data school.criteria)
    (member (codes "east") (number_data school.at.east)
    (member (codes "name") (string school.name)
    (member (codes "north") (number_data school.at.north)
    (member (codes "pan") (number_data school.pan)
    (member (codes "plans") (number_data (plans_at s school.code))
    (member (codes "school") (string school.code)
    (member (codes "taken") (number_data (places_at s school.code))
    (member (codes "vacancies") (number_data (school.pan - places_at s school.code))
    (member (codes "waiting") (number_data (length (waiting_at s school.code))) no_members))))))))))

-- all schools, by their codes
abbrev pub schools_data : State → Data
schools_data s = list_data (school_data s) (values s.schools)

-- the entry of the document for the school of a code, if there is such a school
abbrev pub school_entry : State → List ℕ → Option Data
school_entry s code = option_map (school_data s) (get s.schools code)
