-- How a register's rows are written in its tables.
use Rattle.std.specs.Prelude.{ℕ, pos, Bool, true, false, List, [], ◌∷◌, ◌++◌, ◌==◌, map, Option, option_map, Some, None, option_and_then, if◌then◌else◌}
use Rattle.std.specs.Fmt.{decimal}
use Rattle.adm_types.specs.Seasons.{SeasonFacts}
use Rattle.adm_types.specs.Fields.{plain_of}
use Rattle.adm_types.specs.Criteria.{criterion_of, criterion_text}
use Rattle.adm_types.specs.Numbers.{is_from, first_day, last_day}
use Rattle.adm_types.specs.Joined.{joined, items_of, codes_of}
use Rattle.adm_types.specs.declared.seasons.Phase.{Phase}
use Rattle.adm_types.specs.declared.seasons.Phase.TheVariants.{Primary, Secondary}
use Rattle.adm_types.specs.declared.seasons.Size.{Size}
use Rattle.adm_types.specs.declared.seasons.Size.TheVariants.{Standard, Large}
use Rattle.adm_types.specs.declared.criteria.Criterion.{Criterion}
use Rattle.adm_types.specs.declared.rows.School.{School}
use Rattle.adm_types.specs.declared.rows.Child.{Child}
use Rattle.adm_types.specs.declared.rows.Application.{Application}
use Rattle.adm_types.specs.declared.rows.Row.{Row as ImportRow}
use Rattle.adm_types.specs.declared.rows.PlaceRow.{PlaceRow}
use Rattle.adm_types.specs.declared.rows.LeftPair.{LeftPair}
use Rattle.adm_types.specs.declared.rows.PlaceState.{PlaceState}
use Rattle.adm_types.specs.declared.rows.PlaceState.TheVariants.{Offered, Accepted, Plan}
use Rattle.adm_fields.specs.Lists.{Format, child_columns, application_fields, import_columns}
use Rattle.adm_fields.specs.Records.{home_values, application_values, import_values}
use Rattle.adm_schema.specs.declared.version.Version.{Version}
use Rattle.adm_schema.specs.declared.version.Version.TheVariants.{First, Second}
use Rattle.sqlite.specs.declared.types.Value.{Value}
use Rattle.sqlite.specs.declared.types.Value.TheVariants.{Null, Int, Text}
use Rattle.sqlite.specs.Order.{Row}

-- the number of a phase: 1 primary, 2 secondary
abbrev pub phase_code : Phase → ℕ
phase_code Primary = 1
phase_code Secondary = 2

-- day numbers counted from 1970-01-01
abbrev pub days_text : List ℕ → List ℕ
days_text days = joined (map decimal days)

-- criteria as one text, with `;` between each two
abbrev pub criteria_text : List Criterion → List ℕ
criteria_text criteria = joined (map criterion_text criteria)

-- as the row of `meta` names the version, and from the second on the size
abbrev pub version_code : Version → Size → ℕ
version_code First size = 1
version_code Second Standard = 2
version_code Second Large = 3

-- the key 1, the version, the season, and how many draws there are
abbrev pub season_row : Version → SeasonFacts → ℕ → Row
season_row v s draws = Int (pos 1) ∷ Int (pos (version_code v s.size)) ∷ Int (pos (phase_code s.phase)) ∷ Int (pos s.year) ∷ Text (days_text s.holidays) ∷ Int (pos draws) ∷ []

-- a row of `school`: the code, the name, the admission number, the two coordinates, and the criteria
abbrev pub school_row : School → Row
school_row s = Text s.code ∷ Text s.name ∷ Int (pos s.pan) ∷ Int (pos s.at.east) ∷ Int (pos s.at.north) ∷ Text (criteria_text s.criteria) ∷ []

-- the number of a truth value: 1 true, 0 false
abbrev pub truth_code : Bool → ℕ
truth_code true = 1
truth_code false = 0

-- codes of schools
abbrev pub codes_text : List (List ℕ) → List ℕ
codes_text = joined

-- `|` and codes of schools, where there are any
abbrev pub after_bar : List (List ℕ) → List ℕ
after_bar [] = []
after_bar (code ∷ codes) = 124 ∷ codes_text (code ∷ codes)

-- the codes of two lists as one text, which is that of the first alone where the second is empty
abbrev pub two_codes_text : List (List ℕ) × List (List ℕ) → List ℕ
two_codes_text lists = codes_text lists.0 ++ after_bar lists.1

-- the code of a school, or NULL where there is none
abbrev pub school_value : Option (List ℕ) → Value
school_value None = Null
school_value (Some code) = Text code

-- a record is written field by field, each as its kind is
abbrev pub written : Format (λ A. A → Value) (λ A. A → Row)
written = record {
  field = λ name otherwise kind others values. kind values.0 ∷ others values.1;
  no_more = λ values. [];
  a_child = λ n. Int (pos n);
  a_code_or_none = school_value;
  a_text = Text;
  a_number = λ n. Int (pos n);
  a_truth = λ truth. Int (pos (truth_code truth));
  a_day = λ day. Int (pos day);
  some_flags = λ flags. Int (pos flags);
  some_codes = λ codes. Text (codes_text codes);
}

-- the schools of its siblings and its catchment schools are one text
abbrev pub schools_value : List (List ℕ) × List (List ℕ) → Value
schools_value lists = Text (two_codes_text lists)

-- a row of `child`: its number, name and coordinates, whether it is looked after, its flags, and its siblings' schools with its catchment schools
abbrev pub child_row : Child → Row
child_row c = child_columns written schools_value (home_values c)

-- a row of `application`: the child, the day, and the schools of the list
abbrev pub application_row : Application → Row
application_row a = application_fields written (application_values a)

-- the columns of its child, and the day and the preferences of its application
abbrev pub imported_row : ImportRow → Row
imported_row r = import_columns written schools_value (import_values r)

-- a day, or NULL where there is none
abbrev pub day_value : Option ℕ → Value
day_value None = Null
day_value (Some day) = Int (pos day)

-- the kind of a place, its day and the day of its reminder
abbrev pub state_columns : PlaceState → List Value
state_columns (Offered day reminded) = Int (pos 1) ∷ Int (pos day) ∷ day_value reminded ∷ []
state_columns Accepted = Int (pos 2) ∷ Null ∷ Null ∷ []
state_columns Plan = Int (pos 3) ∷ Null ∷ Null ∷ []

-- a row of `place`: the child, the school, and the columns of the place's state
abbrev pub place_row : PlaceRow → Row
place_row p = Int (pos p.child) ∷ Text p.place.school ∷ state_columns p.place.state

-- a row of `left_list`: the child, and the school that it left
abbrev pub left_row : LeftPair → Row
left_row p = Int (pos p.child) ∷ Text p.school ∷ []

-- ---- what such a text is read as

-- the number of a day from 1990-01-01 to 2110-12-31
abbrev pub day_of : List ℕ → Option ℕ
day_of text = option_and_then (λ n. if is_from first_day last_day n then Some n else None) (plain_of text)

-- the days that a text lists, with `;` between each two, if it lists days
abbrev pub days_of : List ℕ → Option (List ℕ)
days_of = items_of day_of

-- the criteria that a text lists, with `;` between each two, if it lists criteria
abbrev pub criteria_of : List ℕ → Option (List Criterion)
criteria_of = items_of criterion_of

-- what is before the first `|`, and what is after it, where there is one
abbrev pub cut_at_bar : List ℕ → List ℕ × Option (List ℕ)
cut_at_bar [] = ([], None)
cut_at_bar (b ∷ text) = if b == 124 then ([], Some text) else (b ∷ (cut_at_bar text).0, (cut_at_bar text).1)

-- the codes before a `|`, with those after it, of which there is one at least
abbrev pub with_second : Option (List ℕ) → List (List ℕ) → Option (List (List ℕ) × List (List ℕ))
with_second None first = Some (first, [])
with_second (Some []) first = None
with_second (Some (b ∷ text)) first = option_map (λ second. (first, second)) (codes_of (b ∷ text))

-- the two lists of codes that a text writes, if it writes two
abbrev pub two_lists_of : List ℕ → Option (List (List ℕ) × List (List ℕ))
two_lists_of text = option_and_then (with_second (cut_at_bar text).1) (codes_of (cut_at_bar text).0)
