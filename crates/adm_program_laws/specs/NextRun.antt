-- What a run finds over what the one before it may have left of the two files.
use Rattle.std.specs.Prelude.{Option, Result}
use Rattle.sqlite_disk.specs.declared.Disk as disk
use Rattle.sqlite_disk.specs.declared.Files.{Files}
use Rattle.sqlite_wal.specs.Recovery.{Image}
use Rattle.sqlite_wal.specs.Files.{outcomes}
use Rattle.sqlite_trees.specs.View.{IsClean}
use Rattle.sqlite_store.specs.declared.store.FileStore.{FileStore}
use Rattle.sqlite_store.specs.FileStore.{state, view}
use Rattle.sqlite.specs.declared.error.Error.{Error}
use Rattle.sqlite.specs.State.{HasCleanDisk}
use Rattle.sqlite.specs.Held.{Held}
use Rattle.sqlite.specs.Files.{file_state}
use Rattle.sqlite.specs.Closing.{IsCopied}
use Rattle.adm_types.specs.declared.commands.Command.{Command}
use Rattle.adm_register.specs.State.{State as Register}
use Rattle.adm_rows.specs.Faults.{IsNoRegister}
use Rattle.adm_desk.specs.Acknowledged.{FindsAgain, LeavesAcknowledged}
use Rattle.adm_desk.specs.DeskState.{DeskState}
use Rattle.adm_files.specs.Opened.{IsNotOpened, IsOpened}
use Rattle.adm_host.specs.declared.exit.Exit.{Exit}
use Rattle.adm_host.specs.declared.fault.Fault.{Fault}

-- A run over files that held this: where it opens the register, that is the one after the acknowledged commands, or also one that the
-- command in flight leaves; and it never reports that they hold none.
pub record GoesOn {E : Type 0} (h : disk.Ghosts E) (image : Image) (r : Register) (work : Option Command) : Type 0 where
  pub opened : (desk : DeskState (Held (FileStore E h))) → IsOpened image desk → HasCleanDisk (file_state desk.conn) → ∥ FindsAgain r work desk.register ∥₁
  pub never : (e : Result Exit Fault) (closed : Result (Files E) (Error × FileStore E h)) (it : IsNotOpened image e closed) → HasCleanDisk (file_state it.left) → ¬ IsNoRegister it.cause

module _ {D : Type 0} {g : disk.Ghosts D} {E : Type 0} (h : disk.Ghosts E) (c : Held (FileStore D g)) where
  -- It goes on so over all that a crash may leave of the files where the run ended with this store.
  abbrev pub GoesOnAfterCrash : FileStore D g → Type 0
  GoesOnAfterCrash last = (r : Register) (work : Option Command) → LeavesAcknowledged r work (file_state c) → IsClean (view last)
      → (image : Image) → (state last).may_leave image → GoesOn h image r work

  -- And over all that a crash may leave of files that were closed well.
  abbrev pub GoesOnAfterClose : Type 0
  GoesOnAfterClose = (r : Register) (work : Option Command) → LeavesAcknowledged r work (file_state c)
      → (files : Files D) → IsCopied c files → (image : Image) → outcomes g files.log files.db image → GoesOn h image r work
