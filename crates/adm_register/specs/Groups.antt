-- The two groups of tables, and of their rows, and what a state has of each.
use Rattle.std.specs.Prelude.{◌≡◌, List, map}
use Rattle.std.specs.declared.cmp.Ordering.{Ordering}
use Rattle.std.specs.FinMap.{from_entries, values}
use Rattle.std.specs.List.Sorted.{IsPermutation, IsStrictlySortedBy}
use Rattle.std.specs.Map.{keys_of, values_of}
use Rattle.adm_draws.specs.Draws.{AreDrawRowsOf}
use Rattle.adm_register.specs.declared.groups.Base.{Base}
use Rattle.adm_register.specs.declared.groups.Course.{Course}
use Rattle.adm_register.specs.declared.register_rows.Rows.{Rows}
use Rattle.adm_register.specs.declared.row_groups.BaseRows.{BaseRows}
use Rattle.adm_register.specs.declared.row_groups.CourseRows.{CourseRows}
use Rattle.adm_register.specs.declared.row_groups.DrawRows.{DrawRows}
use Rattle.adm_register.specs.State.{State}

-- what the tables have at each key
abbrev pub state_of : Base → Course → State
state_of base course = record {
  season = base.season;
  schools = from_entries base.schools;
  children = from_entries base.children;
  applications = from_entries base.applications;
  places = from_entries course.places;
  left = from_entries course.left;
  draws = from_entries course.draws;
  imported = from_entries course.imported;
}

-- these are the first tables of the state
pub record IsBaseOf (base : Base) (s : State) : Type 0 where
  pub season : base.season ≡ s.season
  pub schools : from_entries base.schools ≡ s.schools
  pub children : from_entries base.children ≡ s.children
  pub applications : from_entries base.applications ≡ s.applications

-- these are the others
pub record IsCourseOf (course : Course) (s : State) : Type 0 where
  pub places : from_entries course.places ≡ s.places
  pub left : from_entries course.left ≡ s.left
  pub draws : from_entries course.draws ≡ s.draws
  pub imported : from_entries course.imported ≡ s.imported

-- ---- rows in the same two groups

-- the first lists of all rows
abbrev pub base_part : Rows → BaseRows
base_part rows = record { season = rows.season; schools = rows.schools; children = rows.children; applications = rows.applications }

-- those of the draws
abbrev pub draws_part : Rows → DrawRows
draws_part rows = record { draws = rows.draws; offers = rows.offers; lots = rows.lots }

-- and the others
abbrev pub course_part : Rows → CourseRows
course_part rows = record { places = rows.places; left = rows.left; drawn = draws_part rows; imported = rows.imported }

-- these are the rows of the first tables of the state, in any order
pub record AreBaseRowsOf (rows : BaseRows) (s : State) : Type 0 where
  pub season : rows.season ≡ s.season
  pub schools : IsPermutation rows.schools (values s.schools)
  pub children : IsPermutation rows.children (values s.children)
  pub applications : IsPermutation rows.applications (values s.applications)

-- these are the rows of the others
pub record AreCourseRowsOf (rows : CourseRows) (s : State) : Type 0 where
  pub places : IsPermutation rows.places (values s.places)
  pub left : IsPermutation rows.left (values s.left)
  pub draws : AreDrawRowsOf rows.drawn.draws rows.drawn.offers rows.drawn.lots (values s.draws)
  pub imported : IsPermutation rows.imported (values s.imported)

-- a table has just these rows, each at its own key
abbrev pub HasRowsByKey : {K V : Type 0} → (K → K → Ordering) → (V → K) → List V → List (K × V) → Type 0
HasRowsByKey R key rows table = IsPermutation rows (values_of table) × (map key (values_of table) ≡ keys_of table) × IsStrictlySortedBy R (keys_of table)
