-- Children as JSON data: their fields, their places, the schools that they left, and their preferences with what became of each.
use Rattle.std.specs.Prelude.{ℕ, Bool, false, not, nat_eq, List, map, filter, codes, Option, Some, None, option_map, if◌then◌else◌, bytes_eq}
use Rattle.std.specs.FinMap.{get, values}
use Rattle.serde_json.specs.Data.{Data, null, string, object, Members, no_members, member, put}
use Rattle.adm_types.specs.declared.rows.School.{School}
use Rattle.adm_types.specs.declared.rows.Child.{Child}
use Rattle.adm_types.specs.declared.rows.Application.{Application}
use Rattle.adm_types.specs.declared.rows.PlaceState.{PlaceState}
use Rattle.adm_types.specs.declared.rows.PlaceState.TheVariants.{Offered, Accepted, Plan}
use Rattle.adm_types.specs.declared.rows.Place.{Place}
use Rattle.adm_types.specs.declared.rows.LeftPair.{LeftPair}
use Rattle.adm_fields.specs.Lists.{child_fields}
use Rattle.adm_fields.specs.Records.{child_values}
use Rattle.adm_rank.specs.Class.{class_of}
use Rattle.adm_rank.specs.Distance.{distance_of}
use Rattle.adm_register.specs.State.{State}
use Rattle.adm_register.specs.Rows.{place_of}
use Rattle.adm_register.specs.WellFormed.{has_first_round}
use Rattle.adm_register.specs.Wanted.{has_left}
use Rattle.adm_register.specs.declared.standings.Standing.{Standing}
use Rattle.adm_register.specs.Waits.{is_waiting, standing_of}
use Rattle.adm_view.specs.Writing.{number_data, list_data, day_data, members}

-- ---- places

-- how a child holds its place
abbrev pub kind_of : PlaceState → List ℕ
kind_of (Offered day reminded) = codes "offered"
kind_of Accepted = codes "accepted"
kind_of Plan = codes "plan"

-- the day of an offer, or null where the place is not an offered one
abbrev pub offered_data : PlaceState → Data
offered_data (Offered day reminded) = day_data day
offered_data Accepted = null
offered_data Plan = null

-- a day, or null for none
abbrev pub day_or_null : Option ℕ → Data
day_or_null None = null
day_or_null (Some day) = day_data day

-- the day of a reminder, or null where there was none
abbrev pub reminded_data : PlaceState → Data
reminded_data (Offered day reminded) = day_or_null reminded
reminded_data Accepted = null
reminded_data Plan = null

-- a place: how it is held, the days of its offer and reminder, and the school; null for none
abbrev pub place_data : Option Place → Data
place_data None = null
place_data (Some place) =
    object (member (codes "kind") (string (kind_of place.state))
    (member (codes "offered") (offered_data place.state)
    (member (codes "reminded") (reminded_data place.state)
    (member (codes "school") (string place.school) no_members))))

-- ---- preferences

-- whether the place is at the school
abbrev pub is_place_at : Option Place → List ℕ → Bool
is_place_at None code = false
is_place_at (Some place) code = bytes_eq place.school code

-- what became of a listed school: the child's place, left, not yet decided, waited for, or below its place
abbrev pub preference_state : State → ℕ → List ℕ → List ℕ
preference_state s child code =
    if is_place_at (place_of s child) code then codes "place"
    else if has_left s.left child code then codes "left"
    else if not (has_first_round s.draws) then codes "before"
    else if is_waiting s child code then codes "waits"
    else codes "below"

-- the class and the distance of the child at the school
abbrev pub rank_members : Option School → Child → Members
rank_members None child = no_members
rank_members (Some school) child =
    member (codes "class") (number_data (class_of school child))
    (member (codes "metres") (number_data (distance_of school.at child.home)) no_members)

-- with the position on the waiting list of the school and the length of that list, where the child waits there
abbrev pub wait_members : Option Standing → Members → Members
wait_members None others = others
wait_members (Some standing) others = put (codes "position") (number_data standing.entry.position) (put (codes "of") (number_data standing.many) others)

-- a preference: the school, what became of it, the child's class and distance there, and its position if it waits there
abbrev pub preference_data : State → Child → List ℕ → Data
preference_data s child code =
    object (put (codes "state") (string (preference_state s child.no code))
    (put (codes "school") (string code) (wait_members (standing_of s child.no code) (rank_members (get s.schools code) child))))

-- the day of an application and its preferences, in their order; null for none
abbrev pub application_data : State → Child → Option Application → Data
application_data s child None = null
application_data s child (Some application) =
    object (member (codes "day") (day_data application.day)
    (member (codes "preferences") (list_data (preference_data s child) application.list) no_members))

-- ---- children

-- the codes of the schools that the child left, in order
abbrev pub left_of : State → ℕ → List (List ℕ)
left_of s child = map (λ (pair : LeftPair). pair.school) (filter (λ (pair : LeftPair). nat_eq pair.child child) (values s.left))

-- a child: its fields, its application, the schools that it left, and its place
abbrev pub child_data : State → Child → Data
child_data s child =
    object (put (codes "place") (place_data (place_of s child.no))
    (put (codes "left") (list_data string (left_of s child.no))
    (put (codes "application") (application_data s child (get s.applications child.no))
    (child_fields members (child_values child)))))

-- all children, by their numbers
abbrev pub children_data : State → Data
children_data s = list_data (child_data s) (values s.children)

-- the entry of the document for the child of a number, if there is such a child
abbrev pub child_entry : State → ℕ → Option Data
child_entry s number = option_map (child_data s) (get s.children number)
