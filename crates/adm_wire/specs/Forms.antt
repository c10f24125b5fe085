-- Records and commands as JSON objects: their fields in the order in which they are tested, and no further key.
use Rattle.std.specs.Prelude.{ℕ, List, [], ◌∷◌, codes, Option, None, Result, Ok}
use Rattle.serde_json.specs.Data.{Data}
use Rattle.adm_types.specs.declared.criteria.Criterion.{Criterion}
use Rattle.adm_fields.specs.Lists.{Format, must}
use Rattle.adm_wire.specs.declared.fault.WireFault.{WireFault}
use Rattle.adm_wire.specs.Kinds.{a_text, a_number, a_truth, a_child, a_code, a_code_or_none, a_day, a_criterion, a_list, some_flags, only}
use Rattle.adm_wire.specs.Reading.{◌>>=◌, field_in, before}

-- Fields of an object: their names, and what JSON data say in them, or the first that is missing or of another kind.
pub record ObjectFields (A : Type 0) : Type 0 where
  pub names : List (List ℕ)
  pub form : Data → Result A WireFault

-- an object with no more fields
abbrev pub no_fields : ObjectFields (Unit {0})
no_fields = record { names = []; form = λ d. Ok tt }

-- an object with a field of this name and kind, and then others; the field may be omitted where there is a value for that case
abbrev pub field_and : {A B : Type 0} → List ℕ → Option A → (Data → Option A) → ObjectFields B → ObjectFields (A × B)
field_and name otherwise kind others = record { names = name ∷ others.names; form = before (field_in otherwise kind name) others.form }

-- records as JSON objects
abbrev pub json : Format (λ A. Data → Option A) ObjectFields
json = record {
  field = field_and;
  no_more = no_fields;
  a_child = a_child;
  a_code_or_none = a_code_or_none;
  a_text = a_text;
  a_number = a_number;
  a_truth = a_truth;
  a_day = a_day;
  some_flags = some_flags;
  some_codes = a_list a_code;
}

-- the values of the fields, unless the object has a key beside theirs
abbrev pub alone : {A : Type 0} → ObjectFields A → Data → Result A WireFault
alone fields d = fields.form d >>= λ v. only fields.names d v

-- the values of the fields of a command, unless the object has a key beside theirs and `cmd`
abbrev pub of_command : {A : Type 0} → ObjectFields A → Data → Result A WireFault
of_command fields d = fields.form d >>= λ v. only (codes "cmd" ∷ fields.names) d v

-- ---- fields that only commands have

-- the field `school`, the code of a school, and then others
abbrev pub school_and : {Others : Type 0} → ObjectFields Others → ObjectFields (List ℕ × Others)
school_and others = must json (codes "school") a_code others

-- a published admission number
abbrev pub pan_and : {Others : Type 0} → ObjectFields Others → ObjectFields (ℕ × Others)
pan_and others = must json (codes "pan") a_number others

-- the field `criteria`, a list of oversubscription criteria, and then others
abbrev pub criteria_and : {Others : Type 0} → ObjectFields Others → ObjectFields (List Criterion × Others)
criteria_and others = must json (codes "criteria") (a_list a_criterion) others

-- the number of a draw of lots
abbrev pub draw_and : {Others : Type 0} → ObjectFields Others → ObjectFields (ℕ × Others)
draw_and others = must json (codes "draw") a_number others

-- the field `lots`, a list of numbers, and then others
abbrev pub lots_and : {Others : Type 0} → ObjectFields Others → ObjectFields (List ℕ × Others)
lots_and others = must json (codes "lots") (a_list a_number) others
