-- How a command line ends: what is done, what is reported, and the exit status.
use Rattle.std.specs.Prelude.{◌≡◌, ℕ, List, [], map, IsTrue, Result, Ok, Err}
use Rattle.std.specs.Borrow.{Bor}
use Rattle.sqlite_disk.specs.declared.Disk as disk
use Rattle.sqlite_disk.specs.declared.Files.{Files}
use Rattle.sqlite_wal.specs.Recovery.{Image}
use Rattle.sqlite_store.specs.declared.store.FileStore.{FileStore}
use Rattle.sqlite.specs.declared.error.Error.{Error}
use Rattle.adm_wire.specs.declared.streams.Output as output
use Rattle.adm_http.specs.Connections.{Errors, errors_of}
use Rattle.adm_words.specs.Lines.{ReadsArguments}
use Rattle.adm_words.specs.declared.actions.Action.{Action}
use Rattle.adm_words.specs.declared.faults.WordsFault.{WordsFault}
use Rattle.adm_host.specs.Exits.{has_many_holidays, IsCauseIn, ending_of, error_of, exit_of_result, exit_code, exit_of_arguments, fault_line}
use Rattle.adm_host.specs.Reports.{ReportsText, ReportsOutcome, ReportsArguments}
use Rattle.adm_host.specs.Found.{IsUntouched, LeavesAsFound}
use Rattle.adm_program.specs.Does.{Does, TakesByServing, file_of}
use Rattle.adm_program.specs.Given.{Around}
use Rattle.adm_program.specs.Served.{AreUntaken, IsUnlogged}
use Rattle.adm_host.specs.declared.connecting.Remainder.{Remainder}
use Rattle.adm_host.specs.declared.ended.Remains.{Remains}
use Rattle.adm_host.specs.declared.ended.Remains.TheVariants.{Closed, Unopened}
use Rattle.adm_host.specs.declared.ended.RunEnd.{RunEnd}
use Rattle.adm_host.specs.declared.exit.Exit.{Exit}
use Rattle.adm_host.specs.declared.fault.Fault.{Fault}
use Rattle.adm_host.specs.declared.fault.Fault.TheVariants.{TooManyHolidays}

-- the arguments as texts: the bytes of each
abbrev pub texts : List (Bor (List ℕ)) → List (List ℕ)
texts arguments = map (λ w. w.now) arguments

-- what the register's file that the arguments name held: nothing where they are a usage error, which names none
abbrev pub held_by_named : (List ℕ → Image) → Result Action WordsFault → Image
held_by_named held (Ok action) = held (file_of action)
held_by_named held (Err fault) = record { log = []; db = [] }

-- the arguments are a usage error, or could not be read because memory ran out, which is reported; nothing was read, written or logged, and no connection taken
pub record IsUsageError (fault : WordsFault) (around : Around) (status : ℕ) : Type 0 where
  pub unread : around.given.input.new ≡ around.given.input.old
  pub unwritten : around.given.output.new ≡ around.given.output.old
  pub untaken : AreUntaken around.given.visits
  pub unlogged : IsUnlogged around.given.visits
  pub reported : ReportsArguments fault around.errors
  pub exits : status ≡ exit_code (exit_of_arguments fault)

module _ {D : Type 0} (g : disk.Ghosts D) where
  -- the action failed before it began, for this cause, which is reported; nothing was read, written or logged, no connection was taken, and this remains of files that held the image
  pub record ActionFails (image : Image) (action : Action) (around : Around) (status : ℕ) (rest : Remainder D g) : Type 0 where
    pub cause : Fault
    pub is_cause : IsCauseIn action cause
    pub many : IsTrue (has_many_holidays action) → cause ≡ TooManyHolidays
    pub unread : around.given.input.new ≡ around.given.input.old
    pub unwritten : around.given.output.new ≡ around.given.output.old
    pub untaken : AreUntaken around.given.visits
    pub unlogged : IsUnlogged around.given.visits
    pub reported : ReportsText (fault_line cause) around.errors
    pub exits : status ≡ 1
    pub left : LeavesAsFound image rest

  -- the action was done, from the files as they were found to this close, and its end is reported and makes the status
  pub record Acts (image : Image) (action : Action) (around : Around) (status : ℕ) (closed : Result (Files D) (Error × FileStore D g)) : Type 0 where
    pub ended : Result Exit Fault
    pub does : Does image action around.given ended closed
    pub taken : TakesByServing action around.given.visits
    pub few : IsTrue (has_many_holidays action) → ⊥
    pub reported : ReportsOutcome (ending_of ended (error_of closed)) around.errors
    pub exits : status ≡ exit_code (exit_of_result (ending_of ended (error_of closed)))

  -- an action was done where the files were closed, and failed before it began where they were not opened
  abbrev pub ActsOrFails : Image → Action → Around → ℕ → Remains D g → Type 0
  ActsOrFails image action around status (Closed closed) = Acts image action around status closed
  ActsOrFails image action around status (Unopened rest) = ActionFails image action around status rest

  -- nothing remains of a close, and the files were not opened at all
  abbrev pub AreUntouched : Remains D g → Type 0
  AreUntouched (Closed closed) = ⊥
  AreUntouched (Unopened rest) = IsUntouched rest

  -- what follows from the arguments, by what they were read as: the status, what the streams got and what remains of files that held the image
  abbrev pub FollowsFrom : Image → Result Action WordsFault → Around → RunEnd D g → Type 0
  FollowsFrom image (Ok action) around end = ActsOrFails image action around end.status end.remains
  FollowsFrom image (Err fault) around end = IsUsageError fault around end.status × AreUntouched end.remains

  -- the arguments are read, and this follows from them, where the files at each path held this
  pub record ActsAround (held : List ℕ → Image) (arguments : List (Bor (List ℕ))) (around : Around) (end : RunEnd D g) : Type 0 where
    pub read : Result Action WordsFault
    pub reads : ReadsArguments (texts arguments) read
    pub follows : FollowsFrom (held_by_named held read) read around end

  -- the arguments are read, and some end with this status follows from them, whatever was logged
  abbrev pub ActsWith : (List ℕ → Image) → List (Bor (List ℕ)) → (Errors → Errors → Around) → ℕ → Type 0
  ActsWith held arguments around status =
      (before : Errors) × (after : Errors) × (end : RunEnd D g) × (end.status ≡ status) × ActsAround held arguments (around before after) end

-- the arguments are read, and this end follows from them, where the log was so before and is so now
abbrev pub ActsOn : {L D : Type 0} {g : disk.Ghosts D} → (List ℕ → Image) → Bor (List (Bor (List ℕ))) → (Errors → Errors → Around) → output.Ghosts L → L → L → RunEnd D g → Type 0
ActsOn {g} held arguments around l log log_new end = ActsAround g held arguments.now (around (errors_of l log) (errors_of l log_new)) end
