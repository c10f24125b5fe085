-- How many records end in the bytes with which a file begins.
use Rattle.std.specs.Prelude.{◌≡◌, ◌<◌, ◌≤◌, ◌⊎◌, ℕ, ◌+◌, [], ◌∷◌, ◌++◌, length, Option, IfSome, if◌then◌else◌}
use Rattle.std.specs.Io.KnownBytes.{Consumes}
use Rattle.csv.specs.Machine.{step, is_end}
use Rattle.csv.specs.Reading.{default_config, strip_bom}
use Rattle.csv.specs.declared.parser.State.{State}
use Rattle.csv.specs.declared.parser.State.TheVariants as st
use Rattle.adm_csv.specs.declared.scan.ScanState.{ScanState}
use Rattle.adm_csv.specs.declared.scan.ScanState.TheVariants as at
use Rattle.adm_csv.specs.declared.scan.Scan.{Scan}
use Rattle.adm_csv.specs.Kinds.{Text}
use Rattle.adm_csv.specs.Rows.{IsReached, most_rows, records_of}

-- one for a byte that ends a record
abbrev pub ended_by : State → ℕ → ℕ
ended_by s b = if is_end (step default_config s b).1 then 1 else 0

-- the same of bytes, from a state of the reader
abbrev pub ended_from : State → Text → ℕ
ended_from s [] = 0
ended_from s (b ∷ text) = ended_by s b + ended_from (step default_config s b).0 text

-- how many records of a file end in its first bytes
abbrev pub ended_in : Text → ℕ
ended_in text = ended_from st.StartRecord (strip_bom text)

-- so many records are enough to know the rows: the header, and one row too many
abbrev pub enough : ℕ
enough = most_rows + 2

-- the bytes with which a file begins: all of them, or enough
abbrev pub IsEnoughOf : Text → Text → Type 0
IsEnoughOf input text = (rest : Text) × (input ≡ text ++ rest) × ((rest ≡ []) ⊎ (enough ≤ ended_in text))

-- what was read of known bytes, of which so many records ended
abbrev pub StopsAfter : Option Text → Option Text → ℕ → Type 0
StopsAfter old new ended = (text : Text) × Consumes old new text × (ended ≡ ended_in text)

-- All of a text was needed: it was not yet enough before its last piece, of 4,096 bytes at most.
abbrev pub IsNeeded : Text → Type 0
IsNeeded text = (front : Text) × (piece : Text) × (text ≡ front ++ piece) × (length piece ≤ 4096) × (ended_in front < enough)

-- no more was read of known bytes than was needed
abbrev pub ReadsNeeded : Option Text → Option Text → Type 0
ReadsNeeded old new = (text : Text) × Consumes old new text × IsNeeded text

-- memory ran out while the last piece was taken: so many records ended in the bytes before it and those that were taken of it
abbrev pub StopsWithin : Option Text → Option Text → ℕ → Type 0
StopsWithin old new ended = (text : Text) × (rest : Text) × Consumes old new (text ++ rest) × (length rest ≤ 4096) × (ended ≡ ended_in text)

-- memory ran out at this row: while a piece was taken; or when all, or enough, was read, and the records before the row had no error
abbrev pub RunsOutAt : Option Text → Option Text → ℕ → Type 0
RunsOutAt old new row =
    StopsWithin old new row
    ⊎ ((text : Text) × Consumes old new text × IfSome old (λ input. IsEnoughOf input text) × IsReached row (records_of text))

-- ---- for private clauses: what the scan keeps of bytes

-- the state of the reader
abbrev pub reader_state : ScanState → State
reader_state at.RecordStart = st.StartRecord
reader_state at.FieldStart = st.StartField
reader_state at.Field = st.InField
reader_state at.Quoted = st.InQuoted
reader_state at.AfterQuote = st.AfterQuote
reader_state at.AfterReturn = st.AfterCr

-- the state after bytes
abbrev pub state_from : State → Text → State
state_from s [] = s
state_from s (b ∷ text) = state_from (step default_config s b).0 text

-- a scan of these bytes
abbrev pub IsScanOf : Text → Scan → Type 0
IsScanOf text scan = (scan.text.items ≡ text) × (reader_state scan.at ≡ state_from st.StartRecord (strip_bom text)) × (scan.ended ≡ ended_in text) × (scan.ended ≤ length text)
