-- The records that remain to an iterator, for private clauses.
use Rattle.std.specs.Prelude.{◌≡◌, ℕ, suc, ◌+◌, ◌<◌, List, [], length, Option, Some, unwrap_or, if◌then◌else◌}
use Rattle.std.specs.Borrow.{Bor}
use Rattle.csv.specs.Machine.{ends_at_end}
use Rattle.csv.specs.Reading.{Ready, default_config, records_from, source_of}
use Rattle.csv.specs.declared.iter.ByteRecordsIntoIter.{ByteRecordsIntoIter}
use Rattle.csv.specs.declared.parser.State.{State}
use Rattle.csv.specs.declared.reader.Trim.TheVariants as trim
use Rattle.adm_csv.specs.Kinds.{Text}
use Rattle.adm_csv.specs.Rows.{Record}

-- records of a text in memory
abbrev pub Source : Type 0
Source = ByteRecordsIntoIter (Bor Text)

-- what each record makes less: a byte each, and one for a record that the end of the text ends
abbrev pub weight : State → Text → ℕ
weight s text = length text + (if ends_at_end s then 1 else 0)

-- all records of a text, from a state of the reader
abbrev pub records_remaining : State → Text → List Record
records_remaining s text = records_from default_config (suc (weight s text)) s text

-- the bytes that remain
abbrev pub bytes_remaining : Source → Option Text
bytes_remaining source = source_of (λ s. Some s.now) source.rdr

-- the records that remain
abbrev pub remaining_of : Source → List Record
remaining_of source = records_remaining source.rdr.state (unwrap_or (bytes_remaining source) [])

-- it reads as the file's form has it, one record with each step
abbrev pub IsPlain : Source → Type 0
IsPlain source = (source.rdr.trim ≡ trim.None) × Ready source.rdr × (0 < source.left) × (source.rdr.config ≡ default_config) × (text : Text) × (bytes_remaining source ≡ Some text)
