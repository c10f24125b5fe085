-- What is true of each document: positions are those of lists, vacancies and places those of the register, entries those that it has.
use Rattle.std.specs.Prelude.{◌≡◌, ℕ, List, length, codes, Contains, Some, option_map}
use Rattle.std.specs.FinMap as rows
use Rattle.serde_json.specs.Data.{Data, string, array}
use Rattle.serde_json.specs.Find.{get}
use Rattle.serde_json.specs.View.{items_of}
use Rattle.adm_types.specs.declared.rows.School.{School}
use Rattle.adm_types.specs.declared.rows.Child.{Child}
use Rattle.adm_rank.specs.Class.{class_of}
use Rattle.adm_rank.specs.Distance.{distance_of}
use Rattle.adm_waiting.specs.declared.lists.Waiting.{Waiting}
use Rattle.adm_register.specs.State.{State}
use Rattle.adm_register.specs.WellFormed.{WellFormed}
use Rattle.adm_register.specs.Rows.{place_of, vacancies}
use Rattle.adm_register.specs.Waits.{list_of, standing_of}
use Rattle.adm_register.specs.declared.standings.Standing.{Standing}
use Rattle.adm_view.specs.Writing.{number_data}
use Rattle.adm_view.specs.Children.{preference_data, place_data, child_data, child_entry}
use Rattle.adm_view.specs.Schools.{school_data, school_entry}
use Rattle.adm_view.specs.Register.{register_data}

-- the waiting list of the school has an entry of the child with this position, and the preference has its class, its distance and the length of the list
pub record HasEntry (s : State) (school : School) (child : Child) (position : ℕ) (preference : Data) : Type 0 where
  pub entry : Waiting
  pub listed : Contains (list_of s school) entry
  pub child_is : entry.child ≡ child.no
  pub position_is : entry.position ≡ position
  pub class_is : get (codes "class") preference ≡ Some (number_data entry.class)
  pub metres_is : get (codes "metres") preference ≡ Some (number_data entry.metres)
  pub length_is : get (codes "of") preference ≡ Some (number_data (length (list_of s school)))

-- Where a preference of a child has a position, the waiting list of its school has an entry of the child with that position.
abbrev pub PositionsAreOfLists : Type 0
PositionsAreOfLists =
    (s : State) (school : School) (child : Child) (position : ℕ) → WellFormed s → rows.get s.schools school.code ≡ Some school → rows.get s.children child.no ≡ Some child
    → get (codes "position") (preference_data s child school.code) ≡ Some (number_data position) → HasEntry s school child position (preference_data s child school.code)

-- the preference says that the child waits, at the position of this standing and among so many
pub record IsShownWaiting (standing : Standing) (preference : Data) : Type 0 where
  pub state_is : get (codes "state") preference ≡ Some (string (codes "waits"))
  pub position_is : get (codes "position") preference ≡ Some (number_data standing.entry.position)
  pub length_is : get (codes "of") preference ≡ Some (number_data standing.many)

-- Where a child waits at a school, the preference says so, with the position and the number of children of the register's query.
abbrev pub WaitsAreShown : Type 0
WaitsAreShown =
    (s : State) (school : School) (child : Child) (standing : Standing) → WellFormed s → rows.get s.schools school.code ≡ Some school
    → standing_of s child.no school.code ≡ Some standing → IsShownWaiting standing (preference_data s child school.code)

-- The class and the distance of a preference are those of the child at the school.
abbrev pub RanksAreThose : Type 0
RanksAreThose =
    (s : State) (school : School) (child : Child) → rows.get s.schools school.code ≡ Some school
    → (get (codes "class") (preference_data s child school.code) ≡ Some (number_data (class_of school child)))
    × (get (codes "metres") (preference_data s child school.code) ≡ Some (number_data (distance_of school.at child.home)))

-- The vacancies of a school are those of the register.
abbrev pub VacanciesAreThose : Type 0
VacanciesAreThose =
    (s : State) (school : School) → rows.get s.schools school.code ≡ Some school → get (codes "vacancies") (school_data s school) ≡ option_map number_data (vacancies s school.code)

-- The place of a child is that of the register.
abbrev pub PlacesAreThose : Type 0
PlacesAreThose = (s : State) (child : Child) → get (codes "place") (child_data s child) ≡ Some (place_data (place_of s child.no))

-- the document has the entry in its list of this name, as the one item whose member of that name is this value
pub record IsOnlyEntry (document : Data) (list name : List ℕ) (value entry : Data) : Type 0 where
  pub entries : List Data
  pub list_is : get list document ≡ Some (array (items_of entries))
  pub listed : Contains entries entry
  pub named : get name entry ≡ Some value
  pub only : (other : Data) → Contains entries other → get name other ≡ Some value → other ≡ entry

-- The entry of a child by itself is the one that the document has among its children for the child's number.
abbrev pub ChildEntriesAreOfDocument : Type 0
ChildEntriesAreOfDocument =
    (s : State) (number : ℕ) (entry : Data) → WellFormed s → child_entry s number ≡ Some entry
    → IsOnlyEntry (register_data s) (codes "children") (codes "child") (number_data number) entry

-- The entry of a school by itself is the one that the document has among its schools for the school's code.
abbrev pub SchoolEntriesAreOfDocument : Type 0
SchoolEntriesAreOfDocument =
    (s : State) (code : List ℕ) (entry : Data) → WellFormed s → school_entry s code ≡ Some entry
    → IsOnlyEntry (register_data s) (codes "schools") (codes "school") (string code) entry
