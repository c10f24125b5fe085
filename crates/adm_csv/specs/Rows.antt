-- The rows of an import, over the records of its file.
use Rattle.std.specs.Prelude.{◌≡◌, ℕ, suc, ◌+◌, ◌<◌, ◌≤◌, List, [], ◌∷◌, length, take, Bool, true, false, nat_lt, Result, Ok, Err, if◌then◌else◌}
use Rattle.std.specs.Result.{IsOk}
use Rattle.csv.specs.Reading.{records, default_config, strip_bom}
use Rattle.adm_fields.specs.Lists.{import_fields}
use Rattle.adm_fields.specs.Records.{import_of}
use Rattle.adm_types.specs.declared.rows.Row.{Row as ImportRow}
use Rattle.adm_csv.specs.declared.fault.Fault.{Fault}
use Rattle.adm_csv.specs.declared.fault.Fault.TheVariants.{Header, TooManyRows, Read, Memory}
use Rattle.adm_csv.specs.declared.fault.RowFault.{RowFault}
use Rattle.adm_csv.specs.Reading.{◌>>=◌}
use Rattle.adm_csv.specs.Kinds.{Text}
use Rattle.adm_csv.specs.Cells.{csv, header, row_of}
pub use Rattle.adm_csv.specs.Cells.{Record}

-- the records of a file: fields between commas, double quotes around them or none, any number in a record;
-- a byte order mark at the start and empty lines are no part of any
abbrev pub records_of : Text → List Record
records_of text = records default_config (strip_bom text)

-- a row of as many fields as the header has, or the first error from left to right
unfoldable pub row_in : ℕ → Record → Result ImportRow Fault
row_in width fields = row_of (import_fields csv) width fields >>= λ v. Ok (import_of v)

-- the names of the fields, of which the last ones may be omitted where they may be so in a row
unfoldable pub is_header : Record → Bool
is_header fields = (import_fields header).1 0 fields

-- ---- the records: a header, and a row each

-- how many rows a file has at the most
abbrev pub most_rows : ℕ
most_rows = 2000

-- an error of this row
abbrev pub at_row : {A : Type 0} → ℕ → Result A Fault → Result A RowFault
at_row k (Ok x) = Ok x
at_row k (Err e) = Err (record { row = k; fault = e })

-- the row of this number, under a header of so many fields
abbrev pub import_row_at : ℕ → ℕ → Record → Result ImportRow Fault
import_row_at width k r = if nat_lt most_rows k then Err TooManyRows else row_in width r

-- the rows from this number on, or the first error
abbrev pub rows_from : ℕ → ℕ → List Record → Result (List ImportRow) RowFault
rows_from width k [] = Ok []
rows_from width k (r ∷ rs) = at_row k (import_row_at width k r) >>= λ x. rows_from width (k + 1) rs >>= λ xs. Ok (x ∷ xs)

-- the rows under the header, or the first error
unfoldable pub rows_in : List Record → Result (List ImportRow) RowFault
rows_in [] = Err (record { row = 0; fault = Header })
rows_in (h ∷ rs) = if is_header h then rows_from (length h) 1 rs else Err (record { row = 0; fault = Header })

-- ---- what a call returned

-- A call that failed for another cause than memory failed at the first error of the records; or the reader of the file failed.
abbrev pub FailsAt : Type 0 → RowFault → Fault → List Record → Type 0
FailsAt failed e Memory records = Unit {0}
FailsAt failed e Read records = failed
FailsAt failed e fault records = rows_in records ≡ Err e

-- the error is the reader's
abbrev pub is_read : Fault → Bool
is_read Read = true
is_read fault = false

-- whether the result is an error of the reader
abbrev pub is_read_fault : {A : Type 0} → Result A RowFault → Bool
is_read_fault (Ok x) = false
is_read_fault (Err e) = is_read e.fault

-- the rows of the records or the first error, unless memory ran out, or the reader failed
abbrev pub ReadsRows : {A : Type 0} → Type 0 → (A → List ImportRow) → List Record → Result A RowFault → Type 0
ReadsRows failed view records (Ok x) = rows_in records ≡ Ok (view x)
ReadsRows failed view records (Err e) = FailsAt failed e e.fault records

-- There are so many records before this one, and they have no error: a header, and rows.
abbrev pub IsReached : ℕ → List Record → Type 0
IsReached k records = (k ≤ length records) × (0 < k → IsOk (rows_in (take k records)))

-- the same of the records under the header, for private clauses
abbrev pub IsReachedUnder : ℕ → ℕ → List Record → Type 0
IsReachedUnder width k records = (n : ℕ) × (k ≡ suc n) × (n ≤ length records) × IsOk (rows_from width 1 (take n records))

-- what a call returned of the records under the header, for private clauses
abbrev pub FailsFrom : ℕ → ℕ → RowFault → Fault → List Record → Type 0
FailsFrom width k e Memory records = Unit {0}
FailsFrom width k e Read records = ⊥
FailsFrom width k e fault records = rows_from width k records ≡ Err e

abbrev pub ReadsFrom : {A : Type 0} → (A → List ImportRow) → ℕ → ℕ → List Record → Result A RowFault → Type 0
ReadsFrom view width k records (Ok x) = rows_from width k records ≡ Ok (view x)
ReadsFrom view width k records (Err e) = FailsFrom width k e e.fault records
