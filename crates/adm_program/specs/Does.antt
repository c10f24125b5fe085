-- What each line of the command line does.
use Rattle.std.specs.Prelude.{◌≡◌, ⊤, ℕ, List, Option, Some, None, Result}
use Rattle.sqlite_disk.specs.declared.Disk as disk
use Rattle.sqlite_disk.specs.declared.Files.{Files}
use Rattle.sqlite_wal.specs.Recovery.{Image}
use Rattle.sqlite_store.specs.declared.store.FileStore.{FileStore}
use Rattle.sqlite.specs.declared.error.Error.{Error}
use Rattle.adm_types.specs.Seasons.{SeasonFacts, IsRising}
use Rattle.adm_words.specs.declared.actions.Action.{Action}
use Rattle.adm_words.specs.declared.actions.Action.TheVariants as action
use Rattle.sqlite.specs.Files.{file_state}
use Rattle.adm_desk.specs.Lines.{AnswersLine}
use Rattle.adm_desk.specs.Questions.{AnswersQuestionLine}
use Rattle.adm_desk.specs.DeskState.{Handles}
use Rattle.adm_program.specs.Given.{Given}
use Rattle.adm_files.specs.Runs.{OpensAndRuns, Prints}
use Rattle.adm_host.specs.Creation.{Creates}
use Rattle.adm_files.specs.Imports.{ImportsInto}
use Rattle.adm_program.specs.Served.{AreUntaken, ServesOver, Visits}
use Rattle.adm_host.specs.declared.document.Document.{Document}
use Rattle.adm_host.specs.declared.document.Document.TheVariants as document
use Rattle.adm_host.specs.declared.exit.Exit.{Exit}
use Rattle.adm_host.specs.declared.fault.Fault.{Fault}

-- the path of the register's file that an action names
abbrev pub file_of : Action → List ℕ
file_of (action.Init file phase year days size) = file.now
file_of (action.Do file) = file.now
file_of (action.WhatIf file) = file.now
file_of (action.Import file csv) = file.now
file_of (action.Serve file port count) = file.now
file_of (action.Letter file child) = file.now
file_of (action.List file school) = file.now
file_of (action.RoundReport file round) = file.now
file_of (action.Pairs file school) = file.now
file_of (action.Show file draw) = file.now

-- what `show` prints: the draw of a number, or the register where there is none
abbrev pub shown : Option ℕ → Document
shown None = document.Register
shown (Some number) = document.Draw number

-- `init` creates the register of the season of its values, and reads and writes nothing else; `do` answers the lines, and `what-if` the questions;
-- `import` imports the rows of the file at its path; `serve` serves connections; the others print a document of the register
abbrev pub Does : {D : Type 0} {g : disk.Ghosts D} → Image → Action → Given → Result Exit Fault → Result (Files D) (Error × FileStore D g) → Type 0
Does image (action.Init file phase year days size) given e closed = (given.input.new ≡ given.input.old) × (given.output.new ≡ given.output.old)
    × (season : SeasonFacts) × (season.phase ≡ phase) × (season.year ≡ year) × IsRising days season.holidays × (season.size ≡ size) × Creates image season e closed
Does image (action.Do file) given e closed = OpensAndRuns (AnswersLine (Handles file_state)) image given.input given.output e closed
Does image (action.WhatIf file) given e closed = OpensAndRuns AnswersQuestionLine image given.input given.output e closed
Does image (action.Import file csv) given e closed = (given.input.new ≡ given.input.old) × ImportsInto image (given.rows csv.now) given.output e closed
Does image (action.Serve file port count) given e closed = (given.input.new ≡ given.input.old) × ServesOver image port count given.visits given.output e closed
Does image (action.Letter file child) given e closed = (given.input.new ≡ given.input.old) × Prints image (document.Letter child) given.output e closed
Does image (action.List file school) given e closed = (given.input.new ≡ given.input.old) × Prints image (document.List school) given.output e closed
Does image (action.RoundReport file round) given e closed = (given.input.new ≡ given.input.old) × Prints image (document.Report round) given.output e closed
Does image (action.Pairs file school) given e closed = (given.input.new ≡ given.input.old) × Prints image (document.Pairs school) given.output e closed
Does image (action.Show file draw) given e closed = (given.input.new ≡ given.input.old) × Prints image (shown draw) given.output e closed

-- the action does this, over the file at the path that it names, where the files at each path held this
abbrev pub DoesAt : {D : Type 0} {g : disk.Ghosts D} → (List ℕ → Image) → Action → Given → Result Exit Fault → Result (Files D) (Error × FileStore D g) → Type 0
DoesAt held action given e closed = Does (held (file_of action)) action given e closed

-- `serve` alone takes connections
abbrev pub TakesByServing : Action → Visits → Type 0
TakesByServing (action.Serve file port count) visits = ⊤
TakesByServing other visits = AreUntaken visits
