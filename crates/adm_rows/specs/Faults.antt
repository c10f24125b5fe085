-- The errors that say that the tables hold no register, and when rows are those of no register.
use Rattle.std.specs.Prelude.{◌≡◌, ℕ, suc, ◌<◌, ◌^◌, pos, Bool, true, ◌&&◌, nat_lt, List, [], ◌∷◌, Option, Some, None, IsTrue}
use Rattle.std.specs.List.{list_all}
use Rattle.std.specs.Str.{IsUtf8, is_utf8}
use Rattle.adm_types.specs.Code.{is_code}
use Rattle.adm_types.specs.Joined.{codes_of}
use Rattle.adm_types.specs.Limits.{is_from, is_child_number, first_day, is_school_in_range, is_child_in_range}
use Rattle.adm_types.specs.declared.seasons.Phase.{Phase}
use Rattle.adm_types.specs.declared.seasons.Size.{Size}
use Rattle.adm_types.specs.declared.rows.School.{School}
use Rattle.adm_types.specs.declared.rows.Child.{Child}
use Rattle.adm_types.specs.declared.rows.Application.{Application}
use Rattle.adm_types.specs.declared.rows.Row.{Row as ImportRow}
use Rattle.adm_types.specs.declared.rows.PlaceRow.{PlaceRow}
use Rattle.adm_types.specs.declared.rows.PresentRow.{PresentRow}
use Rattle.adm_types.specs.declared.rows.LeftPair.{LeftPair}
use Rattle.adm_types.specs.declared.rows.PlaceState.{PlaceState}
use Rattle.adm_types.specs.declared.rows.PlaceState.TheVariants.{Offered, Accepted, Plan}
use Rattle.adm_types.specs.Numbers.{last_day}
use Rattle.adm_register.specs.State.{application_of}
use Rattle.adm_schema.specs.declared.version.Version.{Version as FileVersion}
use Rattle.sqlite.specs.declared.types.Value.{Value}
use Rattle.sqlite.specs.declared.types.Value.TheVariants.{Int, Text}
use Rattle.sqlite.specs.Order.{Row, column}
use Rattle.adm_rows.specs.declared.fault.OpenFault.{OpenFault}
use Rattle.adm_rows.specs.declared.fault.OpenFault.TheVariants.{NotOurs, Version, BadRow, Disk, Memory}
use Rattle.adm_register.specs.declared.rows_fault.RowsFault.{RowsFault}
use Rattle.adm_register.specs.declared.rows_fault.RowsFault.TheVariants as rows
use Rattle.adm_rows.specs.Forms.{phase_code, version_code, criteria_text, criteria_of, codes_text, two_codes_text, two_lists_of, day_value}

-- the errors that say that the tables hold no register
abbrev pub IsNoRegister : OpenFault → Type 0
IsNoRegister NotOurs = Unit {0}
IsNoRegister Version = Unit {0}
IsNoRegister BadRow = Unit {0}
IsNoRegister Disk = ⊥
IsNoRegister Memory = ⊥

-- the error of an open, where the rows are those of no register
abbrev pub of_rows : RowsFault → OpenFault
of_rows rows.BadRow = BadRow
of_rows rows.Memory = Memory

-- from this column on the row has these values
abbrev pub HasFrom : Row → ℕ → List Value → Type 0
HasFrom row at [] = Unit {0}
HasFrom row at (value ∷ values) = (column row at ≡ value) × HasFrom row (suc at) values

-- a school with a code, a name that is a text, and numbers and criteria in their limits
pub record IsSchool (school : School) : Type 0 where
  pub code_form : IsTrue (is_code school.code)
  pub text : IsTrue (is_utf8 school.name)
  pub in_range : IsTrue (is_school_in_range school)

-- the text of its criteria is read as those criteria
abbrev pub IsReadAgain : School → Type 0
IsReadAgain school = criteria_of (criteria_text school.criteria) ≡ Some school.criteria

-- the row has texts and numbers of 32 bits where a school has them
pub record HasSchoolColumns (row : Row) (code name criteria : List ℕ) (pan east north : ℕ) : Type 0 where
  pub row_is : row ≡ Text code ∷ Text name ∷ Int (pos pan) ∷ Int (pos east) ∷ Int (pos north) ∷ Text criteria ∷ []
  pub code_text : IsUtf8 code
  pub name_text : IsUtf8 name
  pub list_text : IsUtf8 criteria
  pub pan_fits : pan < 2 ^ 32
  pub east_fits : east < 2 ^ 32
  pub north_fits : north < 2 ^ 32

-- the row is that of a season of this size in this version, with a year and a count of draws of 32 bits, and a text for the holidays
pub record HasSeasonColumns (row : Row) (v : FileVersion) (size : Size) (phase : Phase) (year draws : ℕ) (holidays : List ℕ) : Type 0 where
  pub row_is : row ≡ Int (pos 1) ∷ Int (pos (version_code v size)) ∷ Int (pos (phase_code phase)) ∷ Int (pos year) ∷ Text holidays ∷ Int (pos draws) ∷ []
  pub holidays_text : IsUtf8 holidays
  pub year_fits : year < 2 ^ 32
  pub draws_fit : draws < 2 ^ 32

-- the text of the codes is read as those codes
abbrev pub AreReadAgain : List (List ℕ) → Type 0
AreReadAgain codes = codes_of (codes_text codes) ≡ Some codes

-- the text of two lists of codes is read as those
abbrev pub AreBothReadAgain : List (List ℕ) × List (List ℕ) → Type 0
AreBothReadAgain lists = two_lists_of (two_codes_text lists) ≡ Some lists

-- the schools of its siblings and its catchment schools are read again
abbrev pub IsChildReadAgain : Child → Type 0
IsChildReadAgain child = AreBothReadAgain (child.siblings, child.catchments)

-- a child with a number, a name that is a text, numbers in their limits, 16 flags, and codes for its siblings' schools and its catchment schools
pub record IsChild (child : Child) : Type 0 where
  pub number_form : IsTrue (is_child_number child.no)
  pub text : IsTrue (is_utf8 child.name)
  pub in_range : IsTrue (is_child_in_range child)
  pub flags : IsTrue (nat_lt child.flags 65536)
  pub codes : IsTrue (list_all is_code child.siblings)
  pub catchments : IsTrue (list_all is_code child.catchments)

-- an application with a child's number, a day that is not after the last one, and codes
pub record IsApplication (last : ℕ) (application : Application) : Type 0 where
  pub number_form : IsTrue (is_child_number application.child)
  pub day : IsTrue (is_from first_day last application.day)
  pub codes : IsTrue (list_all is_code application.list)

-- an imported row of such a child, and of such an application of it
pub record IsImportRow (last : ℕ) (row : ImportRow) : Type 0 where
  pub child : IsChild row.child
  pub application : IsApplication last (application_of row)

-- its child's schools are read again, and so are its preferences
abbrev pub IsImportReadAgain : ImportRow → Type 0
IsImportReadAgain row = IsChildReadAgain row.child × AreReadAgain row.preferences

-- a present school with a child's number and a code
pub record IsPresentRow (row : PresentRow) : Type 0 where
  pub number_form : IsTrue (is_child_number row.child)
  pub code_form : IsTrue (is_code row.school)

-- a left pair with a child's number and a code
pub record IsLeftRow (pair : LeftPair) : Type 0 where
  pub number_form : IsTrue (is_child_number pair.child)
  pub code_form : IsTrue (is_code pair.school)

-- a day in its range
abbrev pub is_day : ℕ → Bool
is_day day = is_from first_day last_day day

abbrev pub is_day_or_none : Option ℕ → Bool
is_day_or_none None = true
is_day_or_none (Some day) = is_day day

-- the days of an offer are in their range
abbrev pub has_days_in_range : PlaceState → Bool
has_days_in_range (Offered day reminded) = is_day day && is_day_or_none reminded
has_days_in_range Accepted = true
has_days_in_range Plan = true

-- a place of any kind, with a child's number, a code, and days in their range
pub record IsPlaceRow (row : PlaceRow) : Type 0 where
  pub number_form : IsTrue (is_child_number row.child)
  pub code_form : IsTrue (is_code row.place.school)
  pub days : IsTrue (has_days_in_range row.place.state)

-- the row has a child's number, a code, a kind of 32 bits, and days or NULL
pub record HasPlaceColumns (row : Row) (child : ℕ) (code : List ℕ) (kind : ℕ) (day reminded : Option ℕ) : Type 0 where
  pub row_is : row ≡ Int (pos child) ∷ Text code ∷ Int (pos kind) ∷ day_value day ∷ day_value reminded ∷ []
  pub number_form : IsTrue (is_child_number child)
  pub code_form : IsTrue (is_code code)
  pub kind_fits : kind < 2 ^ 32
  pub day_fits : IsTrue (is_day_or_none day)
  pub reminded_fits : IsTrue (is_day_or_none reminded)
