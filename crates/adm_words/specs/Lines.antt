-- A line of the command line, read from what clap found.
use Rattle.std.specs.Prelude.{◌≡◌, ℕ, ◌^◌, ◌≤◌, ◌⊎◌, ◌&&◌, List, [], ◌∷◌, codes, length, nat_le, nat_lt, Option, Some, None, option_and_then, option_map, unwrap_or, Result, Ok, Err, if◌then◌else◌}
use Rattle.std.specs.Str.{bytes_eq}
use Rattle.std.specs.Char.{is_ascii_digit}
use Rattle.std.specs.List.{list_all}
use Rattle.std.specs.Option.{option_map_or}
use Rattle.std.specs.Str.Parse.{digits_value, without_leading_plus}
use Rattle.adm_types.specs.Code.{code_of}
use Rattle.adm_types.specs.DayText.{IsDayText}
use Rattle.adm_types.specs.Fields.{plain_of, child_named}
use Rattle.adm_types.specs.declared.seasons.Phase.{Phase}
use Rattle.adm_types.specs.declared.seasons.Phase.TheVariants.{Primary, Secondary}
use Rattle.adm_types.specs.declared.seasons.Size.{Size}
use Rattle.adm_types.specs.declared.seasons.Size.TheVariants.{Standard, Large}
use Rattle.clap.specs.Words.{Row, Text, first_of, all_of, fault_of, subcommand_of, IsAmong, kind_of}
use Rattle.clap.specs.declared.builder.value_parser.ValueParser.{ValueParser}
use Rattle.clap.specs.declared.error.kind.ErrorKind.{ErrorKind}
use Rattle.adm_words.specs.Program.{IsPhases, program_app}
use Rattle.adm_words.specs.declared.actions.Action.{Action}
use Rattle.adm_words.specs.declared.actions.Action.TheVariants as action
use Rattle.adm_words.specs.declared.faults.WordsFault.{WordsFault}
use Rattle.adm_words.specs.declared.faults.WordsFault.TheVariants.{Usage, BadDate, BadWord, Memory}

-- a line, with its holidays and its size, and the number or the code after its file, as texts; a port and a count are numbers
pub data Line : Type 0 where
  init_line : Text → Phase → ℕ → List Text → Size → Line
  do_line : Text → Line
  what_if_line : Text → Line
  import_line : Text → Text → Line
  serve_line : Text → ℕ → ℕ → Line
  letter_line : Text → Text → Line
  list_line : Text → Text → Line
  report_line : Text → Text → Line
  pairs_line : Text → Option Text → Line
  show_line : Text → Option Text → Line

-- ---- the values of arguments

-- the phase of this name; no other text names one
abbrev pub phase_of : Text → Option Phase
phase_of text = if bytes_eq text (codes "primary") then Some Primary else (if bytes_eq text (codes "secondary") then Some Secondary else None)

-- the number that decimal digits write, below 2 ^ 32
abbrev pub digits_number : List ℕ → Option ℕ
digits_number digits = if nat_lt 0 (length digits) && (list_all is_ascii_digit digits && nat_lt (digits_value 10 digits) (2 ^ 32)) then Some (digits_value 10 digits) else None

-- a plus may precede the digits
abbrev pub number_in : Text → Option ℕ
number_in text = digits_number (without_leading_plus text)

-- a number that is no less than the least and no more than the most
abbrev pub within : ℕ → ℕ → ℕ → Option ℕ
within least most n = if nat_le least n && nat_le n most then Some n else None

-- the number that a text writes, from the least to the most
abbrev pub number_from : ℕ → ℕ → Text → Option ℕ
number_from least most text = option_and_then (within least most) (number_in text)

-- the year that a text writes, from 2000 to 2100
abbrev pub year_of : Text → Option ℕ
year_of text = number_from 2000 2100 text

-- large if the value of `--large` is true, as clap writes it where the option is given
abbrev pub size_of : Option Text → Size
size_of None = Standard
size_of (Some text) = if bytes_eq text (codes "true") then Large else Standard

-- the port that a text writes, from 1 to 65535
abbrev pub port_of : Text → Option ℕ
port_of text = number_from 1 65535 text

-- how many connections a text writes, from 1 to 1,000,000
abbrev pub connections_of : Text → Option ℕ
connections_of text = number_from 1 1000000 text

-- the school of a code, if a code is written
abbrev pub school_named : Option Text → Option (Option Text)
school_named None = Some None
school_named (Some argument) = option_map Some (code_of argument)

-- the number of a draw, if one is written
abbrev pub draw_named : Option Text → Option (Option ℕ)
draw_named None = Some None
draw_named (Some argument) = option_map Some (plain_of argument)

-- ---- the lines

-- the values of arguments, by what clap found
abbrev pub file_in : List Row → Option Text
file_in rows = first_of (codes "file") rows

-- the value of PHASE, if `clap` found one that is a phase
abbrev pub phase_in : List Row → Option Phase
phase_in rows = option_and_then phase_of (first_of (codes "phase") rows)

-- the value of YEAR, if `clap` found one from 2000 to 2100
abbrev pub year_in : List Row → Option ℕ
year_in rows = option_and_then year_of (first_of (codes "year") rows)

-- the value of PORT, if `clap` found one from 1 to 65535
abbrev pub port_in : List Row → Option ℕ
port_in rows = option_and_then port_of (first_of (codes "port") rows)

-- 1,000,000 connections where their number is omitted
abbrev pub count_in : List Row → Option ℕ
count_in rows = option_map_or connections_of (first_of (codes "count") rows) (Some 1000000)

-- all values of HOLIDAY that `clap` found, in their order, as texts
abbrev pub holidays_in : List Row → List Text
holidays_in rows = unwrap_or (all_of (codes "holiday") rows) []

-- the size by the option `--large`
abbrev pub size_in : List Row → Size
size_in rows = size_of (first_of (codes "large") rows)

-- a line with all of its values
abbrev pub init_of : Option Text → Option Phase → Option ℕ → List Text → Size → Option Line
init_of (Some file) (Some phase) (Some year) holidays size = Some (init_line file phase year holidays size)
init_of file phase year holidays size = None

-- the line of `init` by the values that `clap` found; none where one is missing
abbrev pub init_in : List Row → Option Line
init_in rows = init_of (file_in rows) (phase_in rows) (year_in rows) (holidays_in rows) (size_in rows)

-- the line of `do` by the value that `clap` found; none where it is missing
abbrev pub do_in : List Row → Option Line
do_in rows = option_map do_line (file_in rows)

-- the line of `what-if` by the value that `clap` found; none where it is missing
abbrev pub what_if_line_in : List Row → Option Line
what_if_line_in rows = option_map what_if_line (file_in rows)

-- the line of `serve` with these values; none where one is missing
abbrev pub serve_of : Option Text → Option ℕ → Option ℕ → Option Line
serve_of (Some file) (Some port) (Some count) = Some (serve_line file port count)
serve_of file port count = None

-- the line of `serve` by the values that `clap` found; none where one is missing
abbrev pub serve_in : List Row → Option Line
serve_in rows = serve_of (file_in rows) (port_in rows) (count_in rows)

-- a file, and one more argument
abbrev pub file_and_argument : (Text → Text → Line) → Option Text → Option Text → Option Line
file_and_argument line (Some file) (Some argument) = Some (line file argument)
file_and_argument line file argument = None

-- the line of `import` by the values that `clap` found; none where one is missing
abbrev pub import_in : List Row → Option Line
import_in rows = file_and_argument import_line (file_in rows) (first_of (codes "csv") rows)

-- the line of `letter` by the values that `clap` found; none where one is missing
abbrev pub letter_in : List Row → Option Line
letter_in rows = file_and_argument letter_line (file_in rows) (first_of (codes "child") rows)

-- the line of `list` by the values that `clap` found; none where one is missing
abbrev pub list_in : List Row → Option Line
list_in rows = file_and_argument list_line (file_in rows) (first_of (codes "school") rows)

-- the line of `round-report` by the values that `clap` found; none where one is missing
abbrev pub report_in : List Row → Option Line
report_in rows = file_and_argument report_line (file_in rows) (first_of (codes "round") rows)

-- a file, and a school or none
abbrev pub pairs_in : List Row → Option Line
pairs_in rows = option_map (λ file. pairs_line file (first_of (codes "school") rows)) (file_in rows)

-- a file, and the number of a draw or none
abbrev pub show_in : List Row → Option Line
show_in rows = option_map (λ file. show_line file (first_of (codes "draw") rows)) (file_in rows)

-- the lines that read a register, by the name of the subcommand and its entries
abbrev pub reading_in : Text → List Row → Option Line
reading_in name rows =
    if bytes_eq name (codes "letter") then letter_in rows else (if bytes_eq name (codes "list") then list_in rows else (
    if bytes_eq name (codes "round-report") then report_in rows else (if bytes_eq name (codes "pairs") then pairs_in rows else (
    if bytes_eq name (codes "show") then show_in rows else None))))

-- each line; no other name is that of one
abbrev pub line_in : Text → List Row → Option Line
line_in name rows =
    if bytes_eq name (codes "init") then init_in rows else (if bytes_eq name (codes "do") then do_in rows else (
    if bytes_eq name (codes "what-if") then what_if_line_in rows else (if bytes_eq name (codes "import") then import_in rows else (
    if bytes_eq name (codes "serve") then serve_in rows else reading_in name rows))))

-- ---- what a line says

-- the texts are those of the days, in their order
abbrev pub AreDays : List Text → List ℕ → Type 0
AreDays [] [] = Unit {0}
AreDays (t ∷ ts) (day ∷ days) = IsDayText t day × AreDays ts days
AreDays ts days = ⊥

-- some text is that of no day
abbrev pub HasNoDay : List Text → Type 0
HasNoDay [] = ⊥
HasNoDay (t ∷ ts) = ((day : ℕ) → IsDayText t day → ⊥) ⊎ HasNoDay ts

-- the days of the texts, or BadDate where one is that of no day
abbrev pub ReadsDays : List Text → Result (List ℕ) WordsFault → Type 0
ReadsDays texts (Ok days) = AreDays texts days
ReadsDays texts (Err (Usage e)) = ⊥
ReadsDays texts (Err BadDate) = HasNoDay texts
ReadsDays texts (Err BadWord) = ⊥
ReadsDays texts (Err Memory) = Unit {0}

-- what an argument is read as, or BadWord where it is not of its kind, for a private clause
abbrev pub ReadsArgument : {A : Type 0} → Option A → Result A WordsFault → Type 0
ReadsArgument read (Ok value) = read ≡ Some value
ReadsArgument read (Err BadWord) = read ≡ None
ReadsArgument read (Err fault) = ⊥

-- the action of the line, or BadDate where a holiday is no day, or BadWord where a number or a code is none
abbrev pub Reads : Line → Result Action WordsFault → Type 0
Reads (init_line file phase year texts size) (Ok (action.Init f p y days s)) = (f.now ≡ file) × (p ≡ phase) × (y ≡ year) × AreDays texts days × (s ≡ size)
Reads (do_line file) (Ok (action.Do f)) = f.now ≡ file
Reads (what_if_line file) (Ok (action.WhatIf f)) = f.now ≡ file
Reads (import_line file csv) (Ok (action.Import f c)) = (f.now ≡ file) × (c.now ≡ csv)
Reads (serve_line file port count) (Ok (action.Serve f p n)) = (f.now ≡ file) × (p ≡ port) × (n ≡ count)
Reads (letter_line file argument) (Ok (action.Letter f child)) = (f.now ≡ file) × (child_named argument ≡ Some child)
Reads (list_line file argument) (Ok (action.List f school)) = (f.now ≡ file) × (code_of argument ≡ Some school)
Reads (report_line file argument) (Ok (action.RoundReport f round)) = (f.now ≡ file) × (plain_of argument ≡ Some round)
Reads (pairs_line file argument) (Ok (action.Pairs f school)) = (f.now ≡ file) × (school_named argument ≡ Some school)
Reads (show_line file argument) (Ok (action.Show f draw)) = (f.now ≡ file) × (draw_named argument ≡ Some draw)
Reads (init_line file phase year texts size) (Err BadDate) = HasNoDay texts
Reads (letter_line file argument) (Err BadWord) = child_named argument ≡ None
Reads (list_line file argument) (Err BadWord) = code_of argument ≡ None
Reads (report_line file argument) (Err BadWord) = plain_of argument ≡ None
Reads (pairs_line file argument) (Err BadWord) = school_named argument ≡ None
Reads (show_line file argument) (Err BadWord) = draw_named argument ≡ None
Reads line (Err Memory) = Unit {0}
Reads line result = ⊥

-- there is a line
abbrev pub IsLine : Option Line → Type 0
IsLine found = (line : Line) × (found ≡ Some line)

-- there is a line, and this is its action
abbrev pub ReadsLine : Option Line → Result Action WordsFault → Type 0
ReadsLine found result = (line : Line) × (found ≡ Some line) × Reads line result

-- clap accepts the arguments, and this is the action of the line that it found
abbrev pub TakesArguments : List Text → Result Action WordsFault → Type 0
TakesArguments arguments result = (phases : ValueParser) × IsPhases phases × (fault_of (program_app phases) arguments ≡ []) × (name : Text) × (rows : List Row) × (subcommand_of (program_app phases) arguments ≡ Some (name, rows)) × ReadsLine (line_in name rows) result

-- clap refuses the arguments, and this is the kind of its error
abbrev pub Refuses : List Text → ErrorKind → Type 0
Refuses arguments kind = (phases : ValueParser) × IsPhases phases × IsAmong kind (fault_of (program_app phases) arguments)

-- the action of the arguments, or that clap refuses them, unless memory ran out
abbrev pub ReadsArguments : List Text → Result Action WordsFault → Type 0
ReadsArguments arguments (Ok a) = TakesArguments arguments (Ok a)
ReadsArguments arguments (Err (Usage e)) = Refuses arguments (kind_of e)
ReadsArguments arguments (Err BadDate) = TakesArguments arguments (Err BadDate)
ReadsArguments arguments (Err BadWord) = TakesArguments arguments (Err BadWord)
ReadsArguments arguments (Err Memory) = Unit {0}

-- a season's year is from 2000 to 2100, a port from 1 to 65535, and a number of connections from 1 to 1,000,000
abbrev pub IsInRange : Action → Type 0
IsInRange (action.Init f p y days s) = (2000 ≤ y) × (y ≤ 2100)
IsInRange (action.Serve f p n) = ((1 ≤ p) × (p ≤ 65535)) × ((1 ≤ n) × (n ≤ 1000000))
IsInRange action = Unit {0}

-- `fault: `, an error's name and LF. The text of clap is its own.
abbrev pub IsFaultText : WordsFault → List ℕ → Type 0
IsFaultText (Usage e) text = Unit {0}
IsFaultText BadDate text = text ≡ codes "fault: BadDate\n"
IsFaultText BadWord text = text ≡ codes "fault: BadWord\n"
IsFaultText Memory text = text ≡ codes "fault: Memory\n"
