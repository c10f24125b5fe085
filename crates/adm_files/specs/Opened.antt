-- The result of opening a register in a file.
use Rattle.std.specs.Prelude.{◌≡◌, ◌⊎◌, false, None, Result, Ok, Err}
use Rattle.sqlite_disk.specs.declared.Disk as disk
use Rattle.sqlite_disk.specs.declared.Files.{Files}
use Rattle.sqlite_wal.specs.Recovery.{Image}
use Rattle.sqlite_store.specs.declared.store.FileStore.{FileStore}
use Rattle.sqlite.specs.declared.error.Error.{Error}
use Rattle.sqlite.specs.State.{HasCleanDisk, Survives}
use Rattle.sqlite.specs.Held.{Held}
use Rattle.sqlite.specs.Files.{file_state}
use Rattle.adm_schema.specs.declared.version.Version.TheVariants.{First}
use Rattle.adm_schema.specs.Schema.{schema_of}
use Rattle.adm_rows.specs.Represents.{LeavesOnly, LeavesNone}
use Rattle.adm_rows.specs.Causes.{HasDiskCause}
use Rattle.adm_store.specs.Migration.{IsMigrated}
use Rattle.adm_rows.specs.Faults.{IsNoRegister}
use Rattle.adm_rows.specs.FirstFault.{IsFirstFault}
use Rattle.adm_rows.specs.declared.fault.OpenFault.{OpenFault}
use Rattle.adm_rows.specs.declared.fault.OpenFault.TheVariants.{Disk}
use Rattle.adm_desk.specs.DeskState.{DeskState}
use Rattle.adm_host.specs.Exits.{of_open}
use Rattle.adm_host.specs.Found.{Closes, IsFound}
use Rattle.adm_host.specs.declared.ended.LineEnd.{LineEnd}
use Rattle.adm_host.specs.declared.exit.Exit.{Exit}
use Rattle.adm_host.specs.declared.fault.Fault.{Fault}

module _ {D : Type 0} {g : disk.Ghosts D} where
  -- the files represent no register, or could not be read, and stay as they were, or represent the same register in the second version; the first error that fits is
  -- reported, and Disk only where the disk failed or refused, or where they were of the first version
  pub record IsNotOpened (image : Image) (e : Result Exit Fault) (closed : Result (Files D) (Error × FileStore D g)) : Type 0 where
    pub found : Held (FileStore D g)
    pub is_found : IsFound image found
    pub cause : OpenFault
    pub reported : e ≡ Err (of_open cause)
    pub left : Held (FileStore D g)
    pub none : IsNoRegister cause → LeavesNone (file_state left)
    pub first : HasCleanDisk (file_state left) → IsNoRegister cause → IsFirstFault (file_state found).now cause
    pub unlimited : found.step_limit ≡ None
    pub disk : cause ≡ Disk → HasDiskCause (file_state found) (file_state left) ⊎ (found.schema ≡ schema_of First)
    pub kept : Survives (file_state found) (file_state left) (IsMigrated (file_state found))
    pub closes : Closes left closed

  -- the desk has the register that the files represented, and a crash leaves the files as they were, or in the second version for the same register
  pub record IsOpened (image : Image) (desk : DeskState (Held (FileStore D g))) : Type 0 where
    pub found : Held (FileStore D g)
    pub is_found : IsFound image found
    pub alive : desk.failed ≡ false
    pub leaves : LeavesOnly desk.register (file_state desk.conn)
    pub kept : Survives (file_state found) (file_state desk.conn) (IsMigrated (file_state found))

  -- a desk, or how the line ended without one
  abbrev pub OpensAs : Image → Result (DeskState (Held (FileStore D g))) (LineEnd D g) → Type 0
  OpensAs image (Ok desk) = IsOpened image desk
  OpensAs image (Err ended) = IsNotOpened image ended.exit ended.closed

  -- the register is not opened, and the streams stay as they were; or this follows for a desk that has it
  abbrev pub Opens : Image → Type 0 → Result Exit Fault → Result (Files D) (Error × FileStore D g) → (DeskState (Held (FileStore D g)) → Type 0) → Type 0
  Opens image Unchanged e closed Follows = (IsNotOpened image e closed × Unchanged) ⊎ ((desk : DeskState (Held (FileStore D g))) × IsOpened image desk × Follows desk)
