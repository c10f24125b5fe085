-- The result of an import of a file of rows.
use Rattle.std.specs.Prelude.{◌≡◌, ◌⊎◌, ◌++◌, ℕ, Bool, List, [], ◌∷◌, true, Option, Result, Ok, Err, IfOk, IfSome}
use Rattle.sqlite_disk.specs.declared.Disk as disk
use Rattle.sqlite_disk.specs.declared.Files.{Files}
use Rattle.sqlite_wal.specs.Recovery.{Image}
use Rattle.sqlite_store.specs.declared.store.FileStore.{FileStore}
use Rattle.sqlite.specs.declared.error.Error.{Error}
use Rattle.sqlite.specs.Held.{Held}
use Rattle.sqlite.specs.Files.{file_state}
use Rattle.sqlite.specs.State.{State as Left}
use Rattle.adm_types.specs.declared.commands.Command.TheVariants.{Import}
use Rattle.adm_types.specs.declared.rows.Row.{Row as ImportRow}
use Rattle.adm_csv.specs.Ended.{StopsAfter}
use Rattle.adm_csv.specs.Rows.{ReadsRows, records_of}
use Rattle.adm_csv.specs.declared.fault.Fault.TheVariants.{Read}
use Rattle.adm_csv.specs.declared.fault.RowFault.{RowFault}
use Rattle.adm_desk.specs.Lines.{answer_text}
use Rattle.adm_desk.specs.DeskState.{Handles, DeskState}
use Rattle.adm_desk.specs.declared.answer.Answer.{Answer}
use Rattle.adm_files.specs.Opened.{Opens}
use Rattle.adm_files.specs.Outcomes.{exit_of_answer}
use Rattle.adm_host.specs.Found.{Closes}
use Rattle.adm_host.specs.Texts.{Puts}
use Rattle.adm_host.specs.declared.cause.Cause.{Cause}
use Rattle.adm_host.specs.declared.exit.Exit.{Exit}
use Rattle.adm_host.specs.declared.fault.Fault.{Fault}
use Rattle.adm_host.specs.declared.fault.Fault.TheVariants as fault
use Rattle.adm_wire.specs.Streams.{Stream}

-- what the file of rows at a path held, and what remained of it
abbrev pub files : {S : Type 0} → record { remaining : S → Option (List ℕ); has_failed : S → Bool; bytes_at : S → List ℕ → Option (List ℕ) } → S → S → List ℕ → Stream
files g old new path = record { old = g.bytes_at old path; new = g.remaining new; has_failed = g.has_failed new }

-- the file gives these rows, or this error; it is Read only where a read failed
abbrev pub FileGives : Stream → Result (List ImportRow) RowFault → Type 0
FileGives file (Ok rows) = IfSome file.old (λ bytes. ReadsRows (Unit {0}) (λ xs. xs) (records_of bytes) (Ok rows))
FileGives file (Err e) = IfSome file.old (λ bytes. ReadsRows (Unit {0}) (λ xs. xs) (records_of bytes) (Err e))
    × (e.fault ≡ Read → (file.has_failed ≡ true) × StopsAfter file.old file.new e.row)

-- one command has these rows; its answer is written as a line, and makes the exit
pub record IsHandled {C : Type 0} (disk : C → Left) (old new : DeskState C) (rows : List ImportRow) (output : Stream) (e : Result Exit Fault) : Type 0 where
  pub answer : Answer
  pub handled : Handles disk old (Import rows) answer new
  pub written : Puts (answer_text answer ++ 10 ∷ []) output e
  pub exit : IfOk e (λ x. x ≡ exit_of_answer answer)

module _ {D : Type 0} {g : disk.Ghosts D} where
  -- how an import ended, from the desk as it was to the desk as it is: an error of the file changes nothing
  abbrev pub ImportsAs : DeskState (Held (FileStore D g)) → DeskState (Held (FileStore D g)) → Stream → Stream → Result Exit Fault → Type 0
  ImportsAs old new file output (Err (fault.Row f)) = FileGives file (Err f) × (new ≡ old) × (output.new ≡ output.old)
  ImportsAs old new file output e = (rows : List ImportRow) × FileGives file (Ok rows) × IsHandled file_state old new rows output e

  -- the rows of the file are imported over the desk, and then its connection is closed
  pub record Imports (desk : DeskState (Held (FileStore D g))) (file output : Stream) (e : Result Exit Fault) (closed : Result (Files D) (Error × FileStore D g)) : Type 0 where
    pub after : DeskState (Held (FileStore D g))
    pub ends : ImportsAs desk after file output e
    pub closes : Closes after.conn closed

  -- the open of the file failed, and nothing is changed or written; or its rows are imported
  abbrev pub ImportsFile : DeskState (Held (FileStore D g)) → Stream → Stream → Result Exit Fault → Result (Files D) (Error × FileStore D g) → Type 0
  ImportsFile desk file output e closed =
      ((cause : Option Cause) × (e ≡ Err (fault.NotRead cause)) × (file.has_failed ≡ true) × (output.new ≡ output.old) × Closes desk.conn closed) ⊎ Imports desk file output e closed

  -- the same over files that held this
  abbrev pub ImportsInto : Image → Stream → Stream → Result Exit Fault → Result (Files D) (Error × FileStore D g) → Type 0
  ImportsInto image file output e closed = Opens image (output.new ≡ output.old) e closed (λ desk. ImportsFile desk file output e closed)
