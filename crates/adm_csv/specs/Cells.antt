-- Records of a file by a list of fields: the header that names them, and the rows that have them.
use Rattle.std.specs.Prelude.{ℕ, ◌+◌, ◌==◌, ◌&&◌, List, length, Bool, true, false, nat_lt, Option, Some, None, option_and_then, Result, Ok, Err, if◌then◌else◌}
use Rattle.std.specs.Option.{option_map_or}
use Rattle.std.specs.Str.{bytes_eq, is_utf8}
use Rattle.csv.specs.Records.{field_at}
use Rattle.adm_fields.specs.Lists.{Format}
use Rattle.adm_csv.specs.declared.fault.Fault.{Fault}
use Rattle.adm_csv.specs.declared.fault.Fault.TheVariants.{FieldCount}
use Rattle.adm_csv.specs.Kinds.{Text, a_child, a_text, a_number, a_truth, a_day, some_flags, some_codes, a_code_or_none}
use Rattle.adm_csv.specs.Reading.{◌>>=◌}

-- the fields of a record, as bytes
abbrev pub Record : Type 0
Record = List Text

-- the field at a place, where it is UTF-8
abbrev pub text_at : Record → ℕ → Option Text
text_at fields i = option_and_then (λ b. if is_utf8 b then Some b else None) (field_at fields i)

-- whether the field at this place is there, and is this text
abbrev pub is_field : Record → ℕ → Text → Bool
is_field fields i text = option_map_or (λ b. bytes_eq b text) (field_at fields i) false

-- ---- rows

-- what fields say from a place on, under a header of so many
abbrev pub Cells : Type 0 → Type 0
Cells A = ℕ → ℕ → Record → Result A Fault

-- what the field at a place says, or what it is where the header leaves it out
abbrev pub cell_in : {A : Type 0} → Option A → (Option Text → Result A Fault) → Cells A
cell_in None says width place fields = says (text_at fields place)
cell_in (Some x) says width place fields = if nat_lt place width then says (text_at fields place) else Ok x

-- a field, and then the others
abbrev pub before : {A B : Type 0} → Cells A → Cells B → Cells (A × B)
before first others width place fields = first width place fields >>= λ x. others width (place + 1) fields >>= λ xs. Ok (x, xs)

-- the format of a record of CSV: a cell for each field, in this order
abbrev pub csv : Format (λ A. Option Text → Result A Fault) Cells
csv = record {
  field = λ name otherwise kind others. before (cell_in otherwise kind) others;
  no_more = λ width place fields. Ok tt;
  a_child = a_child;
  a_code_or_none = a_code_or_none;
  a_text = a_text;
  a_number = a_number;
  a_truth = a_truth;
  a_day = a_day;
  some_flags = some_flags;
  some_codes = some_codes;
}

-- a row of as many fields as its header has
abbrev pub row_of : {A : Type 0} → Cells A → ℕ → Record → Result A Fault
row_of cells width fields = if length fields == width then cells width 0 fields else Err FieldCount

-- ---- the header

-- whether all fields may be omitted, and whether a header names them from a place on
abbrev pub Names : Type 0 → Type 0
Names A = Bool × (ℕ → Record → Bool)

-- whether a field may be omitted: it has a value for that case
abbrev pub may_be_left_out : {A : Type 0} → Option A → Bool
may_be_left_out None = false
may_be_left_out (Some x) = true

-- The header names a field, and then the others; or it ends here, where all of them may be omitted.
abbrev pub names_then : Bool → Text → (ℕ → Record → Bool) → ℕ → Record → Bool
names_then ends name others place fields = if length fields == place then ends else (is_field fields place name && others (place + 1) fields)

-- the format of the header: the names of the fields, in this order; it may end where all fields that follow may be omitted
abbrev pub header : Format (λ _. Unit {0}) Names
header = record {
  field = λ name otherwise kind others. (may_be_left_out otherwise && others.0, names_then (may_be_left_out otherwise && others.0) name others.1);
  no_more = (true, λ place fields. length fields == place);
  a_child = tt;
  a_code_or_none = tt;
  a_text = tt;
  a_number = tt;
  a_truth = tt;
  a_day = tt;
  some_flags = tt;
  some_codes = tt;
}
