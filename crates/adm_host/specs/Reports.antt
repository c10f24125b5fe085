-- What is printed of an error: its text, or a beginning of it where the writer has failed.
use Rattle.std.specs.Prelude.{◌≡◌, ◌≢◌, ◌⊎◌, ℕ, true, List, [], take, Result, Ok, Err}
use Rattle.std.specs.Io.KnownBytes.{Appends}
use Rattle.adm_words.specs.Lines.{IsFaultText}
use Rattle.adm_words.specs.declared.faults.WordsFault.{WordsFault}
use Rattle.adm_host.specs.Exits.{fault_line}
use Rattle.adm_wire.specs.Streams.{Stream}
use Rattle.adm_host.specs.declared.exit.Exit.{Exit}
use Rattle.adm_host.specs.declared.fault.Fault.{Fault}

-- the writer has failed, and a beginning of the text was written
abbrev pub IsCut : List ℕ → Stream → Type 0
IsCut text errors = (errors.has_failed ≡ true) × (n : ℕ) × Appends errors.old errors.new (take n text)

-- one print of the text
abbrev pub PrintsText : {A B : Type 0} → List ℕ → Stream → Result A B → Type 0
PrintsText text errors (Ok x) = Appends errors.old errors.new text
PrintsText text errors (Err e) = IsCut text errors

-- the text was written, or where the writer has failed a beginning of it
abbrev pub ReportsText : List ℕ → Stream → Type 0
ReportsText text errors = Appends errors.old errors.new text ⊎ IsCut text errors

-- the error by which a line ended is printed, and nothing where there is none
abbrev pub ReportsOutcome : Result Exit Fault → Stream → Type 0
ReportsOutcome (Ok e) errors = errors.new ≡ errors.old
ReportsOutcome (Err fault) errors = ReportsText (fault_line fault) errors

-- what is wrong with the arguments is printed; the text of clap is its own, so of that this says only that it is not empty
abbrev pub ReportsArguments : WordsFault → Stream → Type 0
ReportsArguments fault errors = (text : List ℕ) × IsFaultText fault text × (text ≢ []) × ReportsText text errors

-- ---- for a private clause

-- the same of one print
abbrev pub PrintsArguments : {A B : Type 0} → WordsFault → Stream → Result A B → Type 0
PrintsArguments fault errors result = (text : List ℕ) × IsFaultText fault text × (text ≢ []) × PrintsText text errors result
