-- Which states are registers: what each row must fit, table by table.
use Rattle.std.specs.Prelude.{◌≡◌, ℕ, ◌+◌, ◌≤◌, Bool, true, false, not, is_some, count_by, if◌then◌else◌, ◌&&◌, nat_lt, nat_le, List, length, IsTrue, Option, Some, None, bytes_eq}
use Rattle.std.specs.List.{list_all}
use Rattle.std.specs.Ordering.{nat_cmp}
use Rattle.std.specs.declared.cmp.Ordering.{Ordering}
use Rattle.std.specs.FinMap.{FinMap, get, len, values, contains_key}
use Rattle.std.specs.Str.{is_utf8}
use Rattle.adm_types.specs.Code.{is_code}
use Rattle.adm_types.specs.Seasons.{SeasonFacts, IsSeason, lists_end}
use Rattle.adm_types.specs.Limits.{is_from, is_child_number, first_day, last_day, most_schools, most_children, most_preferences, is_name, is_school_in_range, is_child_in_range, is_allowed, most_catchments, is_listed, is_without_repeat, code_cmp}
use Rattle.adm_types.specs.declared.seasons.Size.{Size}
use Rattle.adm_types.specs.declared.rows.School.{School}
use Rattle.adm_types.specs.declared.rows.Child.{Child}
use Rattle.adm_types.specs.declared.rows.Application.{Application}
use Rattle.adm_types.specs.declared.rows.Row.{Row as ImportRow}
use Rattle.adm_types.specs.declared.rows.Place.{Place}
use Rattle.adm_types.specs.declared.rows.PlaceState.{PlaceState}
use Rattle.adm_types.specs.declared.rows.PlaceState.TheVariants.{Offered, Accepted, Plan}
use Rattle.adm_types.specs.declared.rows.PlaceRow.{PlaceRow}
use Rattle.adm_types.specs.declared.rows.LeftPair.{LeftPair}
use Rattle.adm_types.specs.declared.draws.Draw.{Draw}
use Rattle.adm_register.specs.State.{State, left_cmp, is_plan, application_of}
use Rattle.adm_register.specs.Draws.{DrawFits, are_in_order, no_draws}

-- P holds of each row and its key
abbrev pub AllRows : {K V : Type 0} {R : K → K → Ordering} → (K → V → Type 0) → FinMap R V → Type 0
AllRows {K} {V} P rows = (key : K) (row : V) → get rows key ≡ Some row → P key row

-- each code is that of a school that is there
abbrev pub are_schools : FinMap code_cmp School → List (List ℕ) → Bool
are_schools schools codes = list_all (contains_key schools) codes

-- each school of its siblings, and each in whose catchment area it lives, is there
abbrev pub has_schools_of : FinMap code_cmp School → Child → Bool
has_schools_of schools child = are_schools schools child.siblings && are_schools schools child.catchments

-- a school is at its own code, with a name and numbers in their limits, and criteria that a season of this size allows
pub record SchoolFits (size : Size) (code : List ℕ) (school : School) : Type 0 where
  pub own_code : school.code ≡ code
  pub code_form : IsTrue (is_code school.code)
  pub text : IsTrue (is_utf8 school.name)
  pub name : IsTrue (is_name school.name)
  pub in_range : IsTrue (is_school_in_range school)
  pub of_size : IsTrue (list_all (is_allowed size) school.criteria)

-- a child is at its own number, with a name and numbers in their limits, 16 flags, and siblings' and catchment schools that are there
pub record ChildFits (size : Size) (schools : FinMap code_cmp School) (number : ℕ) (child : Child) : Type 0 where
  pub own_number : child.no ≡ number
  pub number_form : IsTrue (is_child_number child.no)
  pub text : IsTrue (is_utf8 child.name)
  pub name : IsTrue (is_name child.name)
  pub in_range : IsTrue (is_child_in_range child)
  pub of_size : IsTrue (nat_le (length child.catchments) (most_catchments size))
  pub flags : IsTrue (nat_lt child.flags 65536)
  pub known : IsTrue (has_schools_of schools child)

-- 1 to 10 schools that are there, without repeat, by the last day of the lists, for a child that is there
pub record ApplicationFits (last_list_day : ℕ) (schools : FinMap code_cmp School) (children : FinMap nat_cmp Child) (number : ℕ) (application : Application) : Type 0 where
  pub own_number : application.child ≡ number
  pub child : IsTrue (contains_key children application.child)
  pub day : IsTrue (is_from first_day last_list_day application.day)
  pub list_length : IsTrue (is_from 1 most_preferences (length application.list))
  pub without_repeat : IsTrue (is_without_repeat application.list)
  pub known : IsTrue (are_schools schools application.list)

-- whether a round was held: the first draw is a round's
abbrev pub has_first_round : FinMap nat_cmp Draw → Bool
has_first_round draws = contains_key draws 1

-- whether the application lists the school
abbrev pub lists_school : Option Application → List ℕ → Bool
lists_school None school = false
lists_school (Some application) school = is_listed application.list school

-- a child with a plan has no application; any other place is at a school that its child lists, and there was a round
abbrev pub is_entitled : Bool → Option Application → Place → Bool
is_entitled had_round application place = if is_plan place.state then not (is_some application) else had_round && lists_school application place.school

-- its days are days, and a reminder comes at least 14 days after the offer
abbrev pub has_days_in_order : PlaceState → Bool
has_days_in_order (Offered day None) = is_from first_day last_day day
has_days_in_order (Offered day (Some reminded)) = is_from first_day last_day day && is_from (day + 14) last_day reminded
has_days_in_order Accepted = true
has_days_in_order Plan = true

-- the child and the school are there, and the child is entitled to its place
pub record PlaceFits (schools : FinMap code_cmp School) (children : FinMap nat_cmp Child) (applications : FinMap nat_cmp Application) (had_round : Bool) (number : ℕ) (row : PlaceRow) : Type 0 where
  pub own_number : row.child ≡ number
  pub child : IsTrue (contains_key children row.child)
  pub school : IsTrue (contains_key schools row.place.school)
  pub state : IsTrue (has_days_in_order row.place.state)
  pub entitled : IsTrue (is_entitled had_round (get applications row.child) row.place)

-- whether this is a place at the school, and not that of a plan
abbrev pub is_unplanned_at : Option PlaceRow → List ℕ → Bool
is_unplanned_at None school = false
is_unplanned_at (Some row) school = bytes_eq row.place.school school && not (is_plan row.place.state)

-- the child and the school are there, and the child has no place at the school that it left, but one of a plan
pub record LeftPairFits (schools : FinMap code_cmp School) (children : FinMap nat_cmp Child) (places : FinMap nat_cmp PlaceRow) (key : LeftPair) (pair : LeftPair) : Type 0 where
  pub own_key : pair ≡ key
  pub child : IsTrue (contains_key children pair.child)
  pub school : IsTrue (contains_key schools pair.school)
  pub no_place : IsTrue (not (is_unplanned_at (get places pair.child) pair.school))

-- the season and the values are in their limits, each child and school that a row names is there, and there are no more schools and children than its size allows
pub record BaseFits (season : SeasonFacts) (schools : FinMap code_cmp School) (children : FinMap nat_cmp Child) (applications : FinMap nat_cmp Application) : Type 0 where
  pub season_is : IsSeason season
  pub few_schools : len schools ≤ most_schools season.size
  pub schools_fit : AllRows (SchoolFits season.size) schools
  pub few_children : len children ≤ most_children season.size
  pub children_fit : AllRows (ChildFits season.size schools) children
  pub applications_fit : AllRows (ApplicationFits (lists_end season) schools children) applications

-- how many places at the school are not those of a plan
abbrev pub places_outside_plans : FinMap nat_cmp PlaceRow → List ℕ → ℕ
places_outside_plans places school = count_by (λ row. is_unplanned_at (Some row) school) (values places)

-- each place fits the rows that it names, and at each school those that are not a plan's are at most its admission number
pub record PlacesFit (schools : FinMap code_cmp School) (children : FinMap nat_cmp Child) (applications : FinMap nat_cmp Application) (places : FinMap nat_cmp PlaceRow) (had_round : Bool) : Type 0 where
  pub each : AllRows (PlaceFits schools children applications had_round) places
  pub room : AllRows (λ code school. places_outside_plans places code ≤ school.pan) schools

-- each left pair fits the rows that it names
abbrev pub LeftFits : FinMap code_cmp School → FinMap nat_cmp Child → FinMap nat_cmp PlaceRow → FinMap left_cmp LeftPair → Type 0
LeftFits schools children places left = AllRows (LeftPairFits schools children places) left

-- each draw fits the rows that it names, and is the next after those before it
pub record DrawsFit (season : SeasonFacts) (schools : FinMap code_cmp School) (children : FinMap nat_cmp Child) (draws : FinMap nat_cmp Draw) : Type 0 where
  pub each : AllRows (DrawFits schools children) draws
  pub in_order : IsTrue (are_in_order season no_draws (values draws))

-- an imported row is at its child's number, and the child and its application could be added
pub record ImportFits (size : Size) (last_list_day : ℕ) (schools : FinMap code_cmp School) (children : FinMap nat_cmp Child) (number : ℕ) (row : ImportRow) : Type 0 where
  pub child : ChildFits size schools number row.child
  pub application : ApplicationFits last_list_day schools children number (application_of row)

-- each imported row fits the rows that it names
abbrev pub ImportedFit : SeasonFacts → FinMap code_cmp School → FinMap nat_cmp Child → FinMap nat_cmp ImportRow → Type 0
ImportedFit season schools children imported = AllRows (ImportFits season.size (lists_end season) schools children) imported

-- each group of rows fits, and what they read of the others
pub record WellFormed (s : State) : Type 0 where
  pub base : BaseFits s.season s.schools s.children s.applications
  pub places : PlacesFit s.schools s.children s.applications s.places (has_first_round s.draws)
  pub left : LeftFits s.schools s.children s.places s.left
  pub draws : DrawsFit s.season s.schools s.children s.draws
  pub imported : ImportedFit s.season s.schools s.children s.imported
