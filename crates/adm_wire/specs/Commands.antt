-- What bytes say: a command, or the first error.
use Rattle.std.specs.Prelude.{ℕ, List, codes, Option, None, Result, Ok, Err, if◌then◌else◌}
use Rattle.std.specs.Str.{bytes_eq, is_utf8}
use Rattle.serde_json.specs.Data.{Data}
use Rattle.serde_json.specs.Find.{as_object}
use Rattle.serde_json.specs.Read.{read}
use Rattle.adm_types.specs.declared.commands.Command.{Command}
use Rattle.adm_types.specs.declared.commands.Command.TheVariants as c
use Rattle.adm_types.specs.declared.criteria.Criterion.{Criterion}
use Rattle.adm_types.specs.declared.rows.School.{School}
use Rattle.adm_fields.specs.Lists.{child_and, name_and, point_and, day_and, child_fields, application_fields}
use Rattle.adm_fields.specs.Records.{child_of, application_of}
use Rattle.adm_wire.specs.declared.fault.WireFault.{WireFault}
use Rattle.adm_wire.specs.declared.fault.WireFault.TheVariants.{NotJson, UnknownCommand, WrongKind}
use Rattle.adm_wire.specs.Forms.{ObjectFields, json, no_fields, of_command, school_and, pan_and, criteria_and, draw_and, lots_and}
use Rattle.adm_wire.specs.Kinds.{a_text}
use Rattle.adm_wire.specs.Reading.{◌>>=◌, some_or, field_at}

-- ---- the fields of commands, in the order in which they are tested

-- the fields of a school, in the order in which they are tested
abbrev pub school_fields : ObjectFields (List ℕ × (List ℕ × (ℕ × (ℕ × (ℕ × (List Criterion × Unit {0}))))))
school_fields = school_and (name_and json (pan_and (point_and json (criteria_and no_fields))))

-- the school with these values of its fields
abbrev pub school_of : List ℕ × (List ℕ × (ℕ × (ℕ × (ℕ × (List Criterion × Unit {0}))))) → School
school_of v = record { code = v.0; name = v.1.0; pan = v.1.1.0; at = record { east = v.1.1.1.0; north = v.1.1.1.1.0 }; criteria = v.1.1.1.1.1.0 }

-- a school and its admission number
abbrev pub pan_fields : ObjectFields (List ℕ × (ℕ × Unit {0}))
pan_fields = school_and (pan_and no_fields)

-- a child and a school
abbrev pub pair_fields : ObjectFields (ℕ × (List ℕ × Unit {0}))
pair_fields = child_and json (school_and no_fields)

-- a notice of an offer: its child, its school and the day of the notice
abbrev pub notice_fields : ObjectFields (ℕ × (List ℕ × (ℕ × Unit {0})))
notice_fields = child_and json (school_and (day_and json no_fields))

-- a draw of lots: its number, its day and its lots
abbrev pub draw_fields : ObjectFields (ℕ × (ℕ × (List ℕ × Unit {0})))
draw_fields = draw_and (day_and json (lots_and no_fields))

-- a draw of lots for a vacancy of a school: its number, its school, its day and its lots
abbrev pub fill_fields : ObjectFields (ℕ × (List ℕ × (ℕ × (List ℕ × Unit {0}))))
fill_fields = draw_and (school_and (day_and json (lots_and no_fields)))

-- ---- commands

-- what the fields of a command give
abbrev pub with_fields : {A : Type 0} → ObjectFields A → (A → Command) → Data → Result Command WireFault
with_fields fields command d = of_command fields d >>= λ v. Ok (command v)

-- The commands: the name of each, its fields, and the command that their values are.
unfoldable pub form_of : List ℕ → Data → Result Command WireFault
form_of name =
    if bytes_eq name (codes "add_school") then with_fields school_fields (λ v. c.AddSchool (school_of v)) else (
    if bytes_eq name (codes "raise_pan") then with_fields pan_fields (λ v. c.RaisePan v.0 v.1.0) else (
    if bytes_eq name (codes "add_child") then with_fields (child_fields json) (λ v. c.AddChild (child_of v)) else (
    if bytes_eq name (codes "amend") then with_fields (child_fields json) (λ v. c.Amend (child_of v)) else (
    if bytes_eq name (codes "name_plan") then with_fields pair_fields (λ v. c.NamePlan v.0 v.1.0) else (
    if bytes_eq name (codes "apply") then with_fields (application_fields json) (λ v. c.Apply (application_of v)) else (
    if bytes_eq name (codes "round") then with_fields draw_fields (λ v. c.Round v.0 v.1.0 v.1.1.0) else (
    if bytes_eq name (codes "accept") then with_fields pair_fields (λ v. c.Accept v.0 v.1.0) else (
    if bytes_eq name (codes "decline") then with_fields pair_fields (λ v. c.Decline v.0 v.1.0) else (
    if bytes_eq name (codes "remind") then with_fields notice_fields (λ v. c.Remind v.0 v.1.0 v.1.1.0) else (
    if bytes_eq name (codes "lapse") then with_fields notice_fields (λ v. c.Lapse v.0 v.1.0 v.1.1.0) else (
    if bytes_eq name (codes "leave_list") then with_fields pair_fields (λ v. c.LeaveList v.0 v.1.0) else (
    if bytes_eq name (codes "fill") then with_fields fill_fields (λ v. c.Fill v.0 v.1.0 v.1.1.0 v.1.1.1.0) else (
    λ d. Err UnknownCommand)))))))))))))

-- what JSON data says
unfoldable pub command_in : Data → Result Command WireFault
command_in d = do
  ms ← some_or WrongKind (as_object d)
  name ← field_at a_text (codes "cmd") d
  form_of name d

-- the JSON value that bytes are, where they are a JSON text in UTF-8
unfoldable pub json_of : List ℕ → Option Data
json_of bytes = if is_utf8 bytes then read bytes else None

-- what bytes say
unfoldable pub command_of : List ℕ → Result Command WireFault
command_of bytes = do
  d ← some_or NotJson (json_of bytes)
  command_in d
