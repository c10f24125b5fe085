-- What a run of lines and the print of a document do to the files at a path, from the open to the close.
use Rattle.std.specs.Prelude.{◌≡◌, ℕ, List, Result}
use Rattle.sqlite_disk.specs.declared.Disk as disk
use Rattle.sqlite_disk.specs.declared.Files.{Files}
use Rattle.sqlite_wal.specs.Recovery.{Image}
use Rattle.sqlite_store.specs.declared.store.FileStore.{FileStore}
use Rattle.sqlite.specs.declared.error.Error.{Error}
use Rattle.sqlite.specs.Held.{Held}
use Rattle.adm_desk.specs.DeskState.{DeskState}
use Rattle.adm_desk.specs.Written.{EndsAs}
use Rattle.adm_desk.specs.declared.answer.LineAnswer.{LineAnswer}
use Rattle.adm_desk.specs.declared.run.Run.{Run}
use Rattle.adm_desk.specs.declared.run.RunFault.{RunFault}
use Rattle.adm_files.specs.Opened.{Opens}
use Rattle.adm_files.specs.Outcomes.{of_lines}
use Rattle.adm_host.specs.Found.{Closes}
use Rattle.adm_host.specs.Texts.{PrintsAs, document_text}
use Rattle.adm_host.specs.declared.document.Document.{Document}
use Rattle.adm_host.specs.declared.exit.Exit.{Exit}
use Rattle.adm_host.specs.declared.fault.Fault.{Fault}
use Rattle.adm_wire.specs.Streams.{Stream}

-- what one line may be answered, and what is there then
abbrev pub LineStep : Type 0 → Type 1
LineStep S = S → List ℕ → LineAnswer → S → Type 0

module _ {D : Type 0} {g : disk.Ghosts D} where
  -- the lines are run over the desk, and then its connection is closed
  pub record Runs (runs : LineStep (DeskState (Held (FileStore D g)))) (desk : DeskState (Held (FileStore D g))) (input output : Stream) (e : Result Exit Fault) (closed : Result (Files D) (Error × FileStore D g)) : Type 0 where
    pub after : DeskState (Held (FileStore D g))
    pub run : Result Run RunFault
    pub ends : EndsAs runs desk after input output run
    pub reported : e ≡ of_lines run
    pub closes : Closes after.conn closed

  -- a desk has the register that the files represented, and runs the lines; nothing is read or written before it has
  abbrev pub OpensAndRuns : LineStep (DeskState (Held (FileStore D g))) → Image → Stream → Stream → Result Exit Fault → Result (Files D) (Error × FileStore D g) → Type 0
  OpensAndRuns runs image input output e closed = Opens image ((input.new ≡ input.old) × (output.new ≡ output.old)) e closed (λ desk. Runs runs desk input output e closed)

  -- the document of the register is printed, which changes nothing
  abbrev pub Prints : Image → Document → Stream → Result Exit Fault → Result (Files D) (Error × FileStore D g) → Type 0
  Prints image wanted output e closed = Opens image (output.new ≡ output.old) e closed (λ desk. PrintsAs (document_text desk.register wanted) output e × Closes desk.conn closed)
