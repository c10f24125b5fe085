-- What is printed of an error, and the exit status.
use Rattle.std.specs.Prelude.{◌≡◌, ◌≢◌, ◌⊎◌, ◌&&◌, ◌==◌, ℕ, Bool, false, IsTrue, List, ◌++◌, codes, decimal, length, nat_lt, if◌then◌else◌, Result, Ok, Err, Option, Some, None}
use Rattle.adm_types.specs.Numbers.{is_from}
use Rattle.adm_types.specs.declared.seasons.SeasonFault.{SeasonFault}
use Rattle.adm_types.specs.declared.seasons.SeasonFault.TheVariants as season
use Rattle.adm_csv.specs.declared.fault.Fault.{Fault as CsvFault}
use Rattle.adm_csv.specs.declared.fault.Fault.TheVariants as csv
use Rattle.adm_letters.specs.declared.fault.LetterFault.{LetterFault}
use Rattle.adm_letters.specs.declared.fault.LetterFault.TheVariants as letter
use Rattle.adm_view.specs.declared.fault.ViewFault.{ViewFault}
use Rattle.adm_view.specs.declared.fault.ViewFault.TheVariants as view
use Rattle.adm_words.specs.Lines.{ReadsArguments}
use Rattle.adm_words.specs.declared.actions.Action.{Action}
use Rattle.adm_words.specs.declared.actions.Action.TheVariants as action
use Rattle.adm_words.specs.declared.faults.WordsFault.{WordsFault}
use Rattle.adm_words.specs.declared.faults.WordsFault.TheVariants as arguments
use Rattle.adm_store.specs.declared.fault.CreateFault.{CreateFault}
use Rattle.adm_store.specs.declared.fault.CreateFault.TheVariants as create
use Rattle.adm_rows.specs.declared.fault.OpenFault.{OpenFault}
use Rattle.adm_rows.specs.declared.fault.OpenFault.TheVariants as opened
use Rattle.sqlite_disk.specs.declared.Disk as disk
use Rattle.sqlite.specs.declared.error.Error.{Error}
use Rattle.sqlite.specs.declared.error.Error.TheVariants as error
use Rattle.sqlite.specs.declared.error.ErrorCode.TheVariants as code
use Rattle.adm_host.specs.declared.cause.Cause.{Cause}
use Rattle.adm_host.specs.declared.cause.Cause.TheVariants as cause
use Rattle.adm_host.specs.declared.connecting.OpenError.{OpenError}
use Rattle.adm_host.specs.declared.ended.LineEnd.{LineEnd}
use Rattle.adm_host.specs.declared.ended.Remains.{Remains}
use Rattle.adm_host.specs.declared.ended.Remains.TheVariants.{Closed, Unopened}
use Rattle.adm_host.specs.declared.fault.Fault.{Fault}
use Rattle.adm_host.specs.declared.fault.Fault.TheVariants.{TooManyHolidays, YearRange, InUse, NotOurs, Version, BadRow, Disk, Memory, Read, Write, UnknownChild, UnknownSchool, NoRound, NoDraw, Listen, NotRead, Row}
use Rattle.adm_host.specs.declared.exit.Exit.{Exit}
use Rattle.adm_host.specs.declared.exit.Exit.TheVariants as exit

-- what follows the row of an error in the file of an import: a colon, the error's name and LF
abbrev pub row_fault_end : CsvFault → List ℕ
row_fault_end csv.Header = codes ": Header\n"
row_fault_end csv.FieldCount = codes ": FieldCount\n"
row_fault_end csv.BadNumber = codes ": BadNumber\n"
row_fault_end csv.BadDate = codes ": BadDate\n"
row_fault_end csv.BadText = codes ": BadText\n"
row_fault_end csv.TooManyRows = codes ": TooManyRows\n"
row_fault_end csv.Read = codes ": Read\n"
row_fault_end csv.Memory = codes ": Memory\n"

-- the row, and what follows it
abbrev pub row_fault_text : ℕ → List ℕ → List ℕ
row_fault_text row end = codes "fault: row " ++ (decimal row ++ end)

-- the name of the error, and where its cause is known a second line
abbrev pub disk_text : Option Cause → List ℕ
disk_text None = codes "fault: Disk\n"
disk_text (Some cause.Missing) = codes "fault: Disk\ncause: no such file or folder\n"
disk_text (Some cause.Folder) = codes "fault: Disk\ncause: it is a folder\n"
disk_text (Some cause.NotRegular) = codes "fault: Disk\ncause: it is no regular file\n"
disk_text (Some cause.Forbidden) = codes "fault: Disk\ncause: no permission\n"
disk_text (Some cause.InUse) = codes "fault: Disk\ncause: it is in use\n"
disk_text (Some cause.NoDatabase) = codes "fault: Disk\ncause: it is no database, or damaged\n"
disk_text (Some cause.Full) = codes "fault: Disk\ncause: the disk is full\n"
disk_text (Some cause.LogBeside) = codes "fault: Disk\ncause: a log is beside it\n"
disk_text (Some cause.Changed) = codes "fault: Disk\ncause: it was changed meanwhile\n"

-- the error Read of row 0 where the file of an import was not opened, and where its cause is known a second line
abbrev pub not_read_text : Option Cause → List ℕ
not_read_text None = codes "fault: row 0: Read\n"
not_read_text (Some cause.Missing) = codes "fault: row 0: Read\ncause: no such file or folder\n"
not_read_text (Some cause.Folder) = codes "fault: row 0: Read\ncause: it is a folder\n"
not_read_text (Some cause.NotRegular) = codes "fault: row 0: Read\ncause: it is no regular file\n"
not_read_text (Some cause.Forbidden) = codes "fault: row 0: Read\ncause: no permission\n"
not_read_text (Some _) = codes "fault: row 0: Read\n"

-- `fault: `, the error's name and LF; before the name of an error in the file of an import its row, and where a file was not opened its cause
abbrev pub fault_line : Fault → List ℕ
fault_line TooManyHolidays = codes "fault: TooManyHolidays\n"
fault_line YearRange = codes "fault: YearRange\n"
fault_line InUse = codes "fault: InUse\n"
fault_line NotOurs = codes "fault: NotOurs\n"
fault_line Version = codes "fault: Version\n"
fault_line BadRow = codes "fault: BadRow\n"
fault_line (Disk cause) = disk_text cause
fault_line Memory = codes "fault: Memory\n"
fault_line Read = codes "fault: Read\n"
fault_line Write = codes "fault: Write\n"
fault_line UnknownChild = codes "fault: UnknownChild\n"
fault_line UnknownSchool = codes "fault: UnknownSchool\n"
fault_line NoRound = codes "fault: NoRound\n"
fault_line NoDraw = codes "fault: NoDraw\n"
fault_line Listen = codes "fault: Listen\n"
fault_line (NotRead cause) = not_read_text cause
fault_line (Row fault) = row_fault_text fault.row (row_fault_end fault.fault)

-- ---- each error keeps its name

abbrev pub of_season : SeasonFault → Fault
of_season season.YearRange = YearRange
of_season season.TooManyHolidays = TooManyHolidays
of_season season.Memory = Memory

-- the program's error for an error of creating a file, by the same name
abbrev pub of_create : CreateFault → Fault
of_create create.InUse = InUse
of_create create.Disk = Disk None
of_create create.Memory = Memory

-- the program's error for an error of opening a file, by the same name
abbrev pub of_open : OpenFault → Fault
of_open opened.NotOurs = NotOurs
of_open opened.Version = Version
of_open opened.BadRow = BadRow
of_open opened.Disk = Disk None
of_open opened.Memory = Memory

abbrev pub of_letter : LetterFault → Fault
of_letter letter.UnknownChild = UnknownChild
of_letter letter.UnknownSchool = UnknownSchool
of_letter letter.NoRound = NoRound
of_letter letter.Memory = Memory

-- the program's error where there is no document of a draw, by the same name
abbrev pub of_view : ViewFault → Fault
of_view view.NoDraw = NoDraw
of_view view.Memory = Memory

-- Memory where the store ran out of memory; every other error of the store is Disk, with the cause where it names one
abbrev pub of_error : Error → Fault
of_error (error.SqliteFailure code.OutOfMemory) = Memory
of_error (error.SqliteFailure code.DatabaseBusy) = Disk (Some cause.InUse)
of_error (error.SqliteFailure code.NotADatabase) = Disk (Some cause.NoDatabase)
of_error (error.SqliteFailure code.DatabaseCorrupt) = Disk (Some cause.NoDatabase)
of_error (error.SqliteFailure code.DiskFull) = Disk (Some cause.Full)
of_error _ = Disk None

-- the error Disk, with any cause or none
abbrev pub IsDisk : Fault → Type 0
IsDisk fault = (cause : Option Cause) × (fault ≡ Disk cause)

-- why a file was not opened: Disk, or out of memory
abbrev pub IsOpenFault : Fault → Type 0
IsOpenFault fault = (fault ≡ Memory) ⊎ IsDisk fault

-- a year of the range, and more than 40 holidays
abbrev pub has_many_holidays : Action → Bool
has_many_holidays (action.Init file phase year days size) = is_from 2000 2100 year && nat_lt 40 (length days)
has_many_holidays (action.Do file) = false
has_many_holidays (action.WhatIf file) = false
has_many_holidays (action.Import file csv) = false
has_many_holidays (action.Serve file port count) = false
has_many_holidays (action.Letter file child) = false
has_many_holidays (action.List file school) = false
has_many_holidays (action.RoundReport file round) = false
has_many_holidays (action.Pairs file school) = false
has_many_holidays (action.Show file draw) = false

-- why an action failed before it began: the year or the holidays are no season's, or the file was not opened, or memory ran out
abbrev pub IsCauseIn : Action → Fault → Type 0
IsCauseIn (action.Init file phase year days size) f = ((f ≡ YearRange) × (is_from 2000 2100 year ≡ false))
    ⊎ (((f ≡ TooManyHolidays) × IsTrue (has_many_holidays (action.Init file phase year days size))) ⊎ IsOpenFault f)
IsCauseIn (action.Do file) f = IsOpenFault f
IsCauseIn (action.WhatIf file) f = IsOpenFault f
IsCauseIn (action.Import file csv) f = IsOpenFault f
IsCauseIn (action.Serve file port count) f = IsOpenFault f
IsCauseIn (action.Letter file child) f = IsOpenFault f
IsCauseIn (action.List file school) f = IsOpenFault f
IsCauseIn (action.RoundReport file round) f = IsOpenFault f
IsCauseIn (action.Pairs file school) f = IsOpenFault f
IsCauseIn (action.Show file draw) f = IsOpenFault f

-- ---- exits

-- the exit of serving, by the status that it gave
abbrev pub exit_of_status : ℕ → Exit
exit_of_status status = if status == 4 then exit.Failed else exit.Done

-- an error before all else; a close that failed is one, but not after Failed
abbrev pub with_close : Exit → Option Error → Result Exit Fault
with_close exit.Failed closed = Ok exit.Failed
with_close e None = Ok e
with_close e (Some error) = Err (of_error error)

-- how a run ended, with its close: its own error comes before an error of the close, which comes before all but Failed
abbrev pub ending_of : Result Exit Fault → Option Error → Result Exit Fault
ending_of (Err fault) closed = Err fault
ending_of (Ok e) closed = with_close e closed

-- the exit status of the process
abbrev pub exit_code : Exit → ℕ
exit_code exit.Done = 0
exit_code exit.Fault = 1
exit_code exit.Usage = 2
exit_code exit.Refused = 3
exit_code exit.Failed = 4

-- the exit of a run: Fault where it ended with an error
abbrev pub exit_of_result : Result Exit Fault → Exit
exit_of_result (Ok e) = e
exit_of_result (Err fault) = exit.Fault

-- arguments that are a usage error, or memory ran out while they were read
abbrev pub exit_of_arguments : WordsFault → Exit
exit_of_arguments arguments.Memory = exit.Fault
exit_of_arguments fault = exit.Usage

-- why a close failed
abbrev pub error_of : {X Y : Type 0} → Result X (Error × Y) → Option Error
error_of (Ok files) = None
error_of (Err e) = Some e.0

-- how a line ended, whether it began or not
abbrev pub line_outcome : {D : Type 0} {g : disk.Ghosts D} → Result (LineEnd D g) (OpenError D g) → Result Exit Fault
line_outcome (Ok e) = ending_of e.exit (error_of e.closed)
line_outcome (Err error) = Err error.fault

-- what remains of the files at its end
abbrev pub remains_at_end : {D : Type 0} {g : disk.Ghosts D} → Result (LineEnd D g) (OpenError D g) → Remains D g
remains_at_end (Ok e) = Closed e.closed
remains_at_end (Err error) = Unopened error.remains

-- what the arguments were read as: `init` and what prints a text end with 0 or 1, `do`, `what-if` and `import` never with 2, and `serve` with 0, 1 or 4; 2 where they are a usage error
abbrev pub ExitsBy : Result Action WordsFault → ℕ → Type 0
ExitsBy (Ok (action.Init file phase year days size)) status = (status ≡ 0) ⊎ (status ≡ 1)
ExitsBy (Ok (action.Do file)) status = status ≢ 2
ExitsBy (Ok (action.WhatIf file)) status = status ≢ 2
ExitsBy (Ok (action.Import file csv)) status = status ≢ 2
ExitsBy (Ok (action.Serve file port count)) status = (status ≡ 0) ⊎ ((status ≡ 1) ⊎ (status ≡ 4))
ExitsBy (Ok (action.Letter file child)) status = (status ≡ 0) ⊎ (status ≡ 1)
ExitsBy (Ok (action.List file school)) status = (status ≡ 0) ⊎ (status ≡ 1)
ExitsBy (Ok (action.RoundReport file round)) status = (status ≡ 0) ⊎ (status ≡ 1)
ExitsBy (Ok (action.Pairs file school)) status = (status ≡ 0) ⊎ (status ≡ 1)
ExitsBy (Ok (action.Show file draw)) status = (status ≡ 0) ⊎ (status ≡ 1)
ExitsBy (Err arguments.Memory) status = status ≡ 1
ExitsBy (Err _) status = status ≡ 2

-- the arguments were read, and the status is one that an action of this kind, or this error in the arguments, may end with
abbrev pub RunsArguments : List (List ℕ) → ℕ → Type 0
RunsArguments given status = (read : Result Action WordsFault) × ReadsArguments given read × ExitsBy read status
