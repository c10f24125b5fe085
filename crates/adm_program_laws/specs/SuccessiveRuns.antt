-- Runs of the program, one after another, each over what a crash may have left of the same two files.
use Rattle.std.specs.Prelude.{◌≡◌, ◌≢◌, ◌≤◌, ◌⊎◌, ⊤, ℕ, IsTrue, List, [], ◌∷◌, ◌++◌, length, take, Option, Some, Result, Ok, Err}
use Rattle.std.specs.Io.KnownBytes.{Appends, Consumes, IsAtEnd}
use Rattle.std.specs.List.{AllByRecursion}
use Rattle.std.specs.FinMap.{get}
use Rattle.sqlite_disk.specs.declared.Disk as disk
use Rattle.sqlite_disk.specs.declared.Files.{Files}
use Rattle.sqlite_wal.specs.Recovery.{Image}
use Rattle.sqlite_wal.specs.Files.{outcomes}
use Rattle.sqlite_wal.specs.Reads.{AreClean}
use Rattle.sqlite_trees.specs.View.{IsClean}
use Rattle.sqlite_store.specs.declared.store.FileStore.{FileStore}
use Rattle.sqlite_store.specs.FileStore.{state, view, recovers}
use Rattle.sqlite_store.specs.Unopened.{state_of}
use Rattle.sqlite.specs.declared.error.Error.{Error}
use Rattle.sqlite.specs.declared.file.Leftover.TheVariants as leftover
use Rattle.sqlite.specs.State.{HasCleanDisk}
use Rattle.sqlite.specs.Held.{Held}
use Rattle.sqlite.specs.Files.{HoldsDatabase, IsNothing, file_state}
use Rattle.sqlite.specs.Tree.{Trees}
use Rattle.adm_types.specs.Seasons.{SeasonFacts}
use Rattle.adm_types.specs.declared.commands.Command.{Command}
use Rattle.adm_types.specs.declared.commands.Command.TheVariants.{Import}
use Rattle.adm_types.specs.declared.rows.PlaceRow.{PlaceRow}
use Rattle.adm_types.specs.declared.rows.Row.{Row as ImportRow}
use Rattle.adm_register.specs.State.{only_season, State as Register}
use Rattle.adm_commands.specs.History.{DrawsInOrder, DrawsStay}
use Rattle.adm_commands.specs.Imports.{Reaches}
use Rattle.adm_command_laws.specs.Places.{HasCause}
use Rattle.adm_crashes.specs.Rounds.{EachRoundRecorded}
use Rattle.adm_rows.specs.Faults.{IsNoRegister}
use Rattle.adm_words.specs.declared.actions.Action.{Action}
use Rattle.adm_words.specs.declared.actions.Action.TheVariants as action
use Rattle.adm_words.specs.declared.faults.WordsFault.{WordsFault}
use Rattle.adm_wire.specs.Streams.{Stream}
use Rattle.adm_desk.specs.Acknowledged.{handled}
use Rattle.adm_desk.specs.Files.{IsFileOf}
use Rattle.adm_desk.specs.DeskState.{DeskState}
use Rattle.adm_desk.specs.Lines.{answer_text, answers_text, lines_of}
use Rattle.adm_desk.specs.Written.{IsBeginning}
use Rattle.adm_desk.specs.declared.answer.Answer.{Answer}
use Rattle.adm_desk.specs.declared.answer.LineAnswer.{LineAnswer}
use Rattle.adm_http.specs.Connections.{Traffic}
use Rattle.adm_files.specs.Imports.{FileGives}
use Rattle.adm_files.specs.Opened.{IsNotOpened, IsOpened}
use Rattle.adm_host.specs.Creation.{Creates}
use Rattle.adm_host.specs.Texts.{Puts}
use Rattle.adm_host.specs.declared.connecting.Remainder.{Remainder}
use Rattle.adm_host.specs.declared.connecting.Remainder.TheVariants as remainder
use Rattle.adm_host.specs.declared.ended.Remains.{Remains}
use Rattle.adm_host.specs.declared.ended.Remains.TheVariants.{Closed, Unopened}
use Rattle.adm_host.specs.declared.ended.RunEnd.{RunEnd}
use Rattle.adm_host.specs.declared.exit.Exit.{Exit}
use Rattle.adm_host.specs.declared.exit.Exit.TheVariants as exit
use Rattle.adm_host.specs.declared.fault.Fault.{Fault}
use Rattle.adm_program.specs.Arguments.{FollowsFrom}
use Rattle.adm_program.specs.Given.{Around}
use Rattle.adm_program.specs.Served.{AreUntaken, Visits}
use Rattle.adm_program_laws.specs.Effects.{AreEffects, IsEffect}
use Rattle.adm_program_laws.specs.Exchanges.{AreExchanged, AreRecorded, Exchange, IsAnswered, TookEffect, commands_of}

-- a run: what its arguments were read as, the streams and the connections to ports before and after it, and its end: the exit status, and what remains of the files
pub record ProgramRun {D : Type 0} (g : disk.Ghosts D) : Type 0 where
  pub read : Result Action WordsFault
  pub around : Around
  pub end : RunEnd D g

-- ---- the commands of a run, with their answers

-- The commands in the first lines that were read, one answer for each of these lines, and the answers as they were written, but for a part of the last one: its command
-- may be recorded, not answered. Unless the run ended with an error, that is each line of the whole input, and each answer was written whole.
pub record AnswersInput (status : ℕ) (input output : Stream) (answered : List (Command × Answer)) : Type 0 where
  pub bytes : List ℕ
  pub read : Consumes input.old input.new bytes
  pub count : ℕ
  pub answers : List LineAnswer
  pub each : length answers ≡ length (take count (lines_of bytes))
  pub commands : answered ≡ handled (take count (lines_of bytes)) answers
  pub text : List ℕ
  pub beginning : IsBeginning answers text
  pub written : Appends output.old output.new text
  pub all : status ≢ 1 → IsAtEnd input.new × (count ≡ length (lines_of bytes)) × (text ≡ answers_text answers)

-- All rows of the file as one command, and its answer, which was written whole, or where the run ended with an error perhaps a beginning of it: then the command may be
-- recorded, not answered.
pub record AnswersRows (status : ℕ) (file output : Stream) (answered : List (Command × Answer)) : Type 0 where
  pub rows : List ImportRow
  pub given : FileGives file (Ok rows)
  pub answer : Answer
  pub command : answered ≡ (Import rows, answer) ∷ []
  pub result : Result Exit Fault
  pub written : Puts (answer_text answer ++ 10 ∷ []) output result
  pub all : status ≢ 1 → Appends output.old output.new (answer_text answer ++ 10 ∷ [])

-- At most so many connections to the port were served: each got the response to its request whole, unless it failed or memory ran out, and these are the commands of the
-- requests, with the answers of the desk. What may be found later has the effect of each command to which the status 200 was written.
pub record AnswersConnections (count : ℕ) (coming left : Option Traffic) (answered : List (Command × Answer)) : Type 0 where
  pub served : List Exchange
  pub few : length served ≤ count
  pub exchanged : AreExchanged coming left served
  pub each : AllByRecursion IsAnswered served
  pub commands : answered ≡ commands_of served
  pub recorded : AreRecorded served
  pub effects : (done : List Command) → IsEffect answered done → TookEffect served done

-- the run ended with an error, no command was answered, and no connection was taken
pub record TakesNone (status port : ℕ) (visits : Visits) (answered : List (Command × Answer)) : Type 0 where
  pub ends : status ≡ 1
  pub none : answered ≡ []
  pub untaken : AreUntaken visits ⊎ (visits.new ≡ visits.coming port)

-- the run ended with an error, no command was answered, and nothing was written
abbrev pub AnswersNone : ℕ → Stream → List (Command × Answer) → Type 0
AnswersNone status output answered = (status ≡ 1) × (answered ≡ []) × (output.new ≡ output.old)

-- `do` answers commands in its lines or none, `import` one of all rows or none, `serve` those in the requests of its connections or none, and the others none
abbrev pub AnswersBy : {D : Type 0} {g : disk.Ghosts D} → Action → ProgramRun g → List (Command × Answer) → Type 0
AnswersBy (action.Do file) run answered = AnswersNone run.end.status run.around.given.output answered ⊎ AnswersInput run.end.status run.around.given.input run.around.given.output answered
AnswersBy (action.Import file csv) run answered = AnswersNone run.end.status run.around.given.output answered ⊎ AnswersRows run.end.status (run.around.given.rows csv.now) run.around.given.output answered
AnswersBy (action.Serve file port count) run answered =
    TakesNone run.end.status port run.around.given.visits answered ⊎ AnswersConnections count (run.around.given.visits.coming port) run.around.given.visits.new answered
AnswersBy other run answered = answered ≡ []

-- a run answers these commands, by what its arguments were read as: those of the action, and none where they are a usage error
abbrev pub AnswersFor : {D : Type 0} {g : disk.Ghosts D} → Result Action WordsFault → ProgramRun g → List (Command × Answer) → Type 0
AnswersFor (Ok a) run answered = AnswersBy a run answered
AnswersFor (Err fault) run answered = answered ≡ []

-- these are the commands of each run, with their answers
abbrev pub AreAnswered : {D : Type 0} {g : disk.Ghosts D} → List (ProgramRun g) → List (List (Command × Answer)) → Type 0
AreAnswered [] [] = ⊤
AreAnswered (run ∷ runs) (answered ∷ more) = AnswersFor run.read run answered × AreAnswered runs more
AreAnswered [] (answered ∷ more) = ⊥
AreAnswered (run ∷ runs) [] = ⊥

-- A register that may be found after runs: the one to which the commands that took effect in them, each accepted, lead from the first one. It has the best outcomes
-- of each round among them, for the register in which it began, and the draws of the first one, which are in order as in every register.
pub record IsFoundAfterRuns (first : Register) (runs : List (List (Command × Answer))) (found : Register) : Type 0 where
  pub done : List Command
  pub effects : AreEffects runs done
  pub reached : Reaches first done found
  pub rounds : EachRoundRecorded first done found
  pub draws : DrawsStay first found
  pub ordered : DrawsInOrder first

-- The two files hold such a register.
abbrev pub HoldsAfterRuns : Register → List (List (Command × Answer)) → Image → Type 0
HoldsAfterRuns first runs image = ∥ ((found : Register) × IsFoundAfterRuns first runs found × IsFileOf found image) ∥₁

-- Where `init` made the files, each place in the register that they hold comes from a plan that a command named, or from a draw that the register holds.
abbrev pub PlacesAfterRuns : Type 0
PlacesAfterRuns =
    (season : SeasonFacts) (runs : List (List (Command × Answer))) (image : Image) → HoldsAfterRuns (only_season season) runs image
    → ∥ ((found : Register) × (it : IsFoundAfterRuns (only_season season) runs found) × IsFileOf found image
    × ((child : ℕ) (row : PlaceRow) → get found.places child ≡ Some row → HasCause it.done found child row.place)) ∥₁

-- ---- runs over the files

-- each database that an open may read from the files has pages of this size
abbrev pub HavePagesOf : ℕ → Image → Type 0
HavePagesOf size image = (db : Trees) (held : HoldsDatabase image db) → held.0 ≡ size

module _ {D : Type 0} {g : disk.Ghosts D} where
  -- what a crash may leave of a store whose tables have the numbers that the next open gives them; or, of any store, files that hold a database which an open after a crash may find
  abbrev pub MayHold : FileStore D g → Image → Type 0
  MayHold store after = (IsTrue (view store).is_numbered × (state store).may_leave after) ⊎ ((db : Trees) × recovers store db × HoldsDatabase after db)

  -- On disks that returned what was written to them, a crash at the end of the run may leave this of the two files: what it may leave of the files that were closed; or,
  -- where the close failed, as it does on disks that fail from some call on, this of the store that remains.
  abbrev pub MayClose : Result (Files D) (Error × FileStore D g) → Image → Type 0
  MayClose (Ok files) after = AreClean g files.log files.db × outcomes g files.log files.db after
  MayClose (Err (error, store)) after = IsClean (view store) × MayHold store after

  -- On disks that returned what was written to them, a crash at the end of a run that did not open a register may leave this of files that held `before`. Not opened at all, they are as
  -- they were. Of an open of `sqlite` that failed, what it may leave: where it failed while it copied the log of a database into it, the pages that it copied have the size of the database's
  -- pages, which is assumed. Of an open that was followed by another error, files that hold a database which an open after a crash may find.
  abbrev pub MayStay : Image → Remainder D g → Image → Type 0
  MayStay before (remainder.Untouched it) after = after ≡ before
  MayStay before (remainder.Files (leftover.Files files)) after = AreClean g files.log files.db × outcomes g files.log files.db after
  MayStay before (remainder.Files (leftover.Unopened it)) after = IsTrue (state_of it).is_clean × (IsNothing before ⊎ HavePagesOf (state_of it).page_size before) × (state_of it).may_leave after
  MayStay before (remainder.Files (leftover.Store store)) after = IsTrue (view store).is_clean × (db : Trees) × recovers store db × HoldsDatabase after db
  MayStay before (remainder.Connection c) after = HasCleanDisk (file_state c) × (db : Trees) × recovers c.store db × HoldsDatabase after db

  -- What a crash at the end of a run may leave of files that held `before`, by what remains of the run: of files that were closed, or of ones that were not opened as a register.
  abbrev pub MayRemain : Image → Remains D g → Image → Type 0
  MayRemain before (Closed closed) after = MayClose closed after
  MayRemain before (Unopened rest) after = MayStay before rest after

module _ {D : Type 0} (g : disk.Ghosts D) where
  -- One run, as `run_arguments` says of it, over files that held `before`: what it returned remains, and after it, whether it ended or a crash came, they hold `after`.
  pub record RunsOver (before : Image) (run : ProgramRun g) (after : Image) : Type 0 where
    pub follows : FollowsFrom g before run.read run.around run.end
    pub left : MayRemain before run.end.remains after

  -- these runs were made one after another, each over what the one before it left of the files
  abbrev pub RunInOrder : Image → List (ProgramRun g) → Image → Type 0
  RunInOrder before [] after = after ≡ before
  RunInOrder before (run ∷ runs) after = (mid : Image) × RunsOver before run mid × RunInOrder mid runs after

  -- ---- laws

  -- `init` that succeeds leaves files of the register of its season.
  abbrev pub InitMakesFile : Type 0
  InitMakesFile =
      (before after : Image) (season : SeasonFacts) (closed : Result (Files D) (Error × FileStore D g)) → Creates before season (Ok exit.Done) closed → MayClose closed after
      → IsFileOf (only_season season) after

  -- Where the files hold the register after some runs, they hold it after one more.
  abbrev pub OneMoreRun : Type 0
  OneMoreRun =
      (first : Register) (runs : List (List (Command × Answer))) (before after : Image) (run : ProgramRun g) → HoldsAfterRuns first runs before → RunsOver before run after
      → (answered : List (Command × Answer)) × AnswersFor run.read run answered × HoldsAfterRuns first (runs ++ answered ∷ []) after

  -- Any number of runs over files of a register leave files of the one after all their commands that took effect.
  abbrev pub AllRuns : Type 0
  AllRuns =
      (first : Register) (before after : Image) (runs : List (ProgramRun g)) → IsFileOf first before → RunInOrder before runs after
      → (answered : List (List (Command × Answer))) × AreAnswered runs answered × HoldsAfterRuns first answered after

  -- A run that opens such files finds such a register.
  abbrev pub OpensAfterRuns : Type 0
  OpensAfterRuns =
      (first : Register) (runs : List (List (Command × Answer))) (image : Image) → HoldsAfterRuns first runs image
      → (desk : DeskState (Held (FileStore D g))) → IsOpened image desk → HasCleanDisk (file_state desk.conn)
      → ∥ IsFoundAfterRuns first runs desk.register ∥₁

  -- No run reports that such files hold none.
  abbrev pub NeverNoRegister : Type 0
  NeverNoRegister =
      (first : Register) (runs : List (List (Command × Answer))) (image : Image) → HoldsAfterRuns first runs image
      → (e : Result Exit Fault) (closed : Result (Files D) (Error × FileStore D g)) (it : IsNotOpened image e closed) → HasCleanDisk (file_state it.left) → ¬ IsNoRegister it.cause
