-- What the creation of a register does to the files at a path, from the open to the close.
use Rattle.std.specs.Prelude.{◌≡◌, ◌≢◌, Result, Ok, Err}
use Rattle.sqlite_disk.specs.declared.Disk as disk
use Rattle.sqlite_disk.specs.declared.Files.{Files}
use Rattle.sqlite_wal.specs.Recovery.{Image}
use Rattle.sqlite_store.specs.declared.store.FileStore.{FileStore}
use Rattle.sqlite.specs.declared.error.Error.{Error}
use Rattle.sqlite.specs.Held.{Held}
use Rattle.sqlite.specs.Files.{file_state}
use Rattle.sqlite.specs.State.{HasCleanDisk}
use Rattle.adm_types.specs.Seasons.{SeasonFacts}
use Rattle.adm_schema.specs.Schema.{no_schema}
use Rattle.adm_register.specs.State.{only_season}
use Rattle.adm_rows.specs.Represents.{LeavesOnly, LeavesOldOrNew}
use Rattle.adm_store.specs.declared.fault.CreateFault.{CreateFault}
use Rattle.adm_store.specs.declared.fault.CreateFault.TheVariants as create
use Rattle.adm_host.specs.Exits.{of_create}
use Rattle.adm_host.specs.Found.{Closes, IsFound}
use Rattle.adm_host.specs.declared.exit.Exit.{Exit}
use Rattle.adm_host.specs.declared.exit.Exit.TheVariants as exit
use Rattle.adm_host.specs.declared.fault.Fault.{Fault}

module _ {D : Type 0} {g : disk.Ghosts D} where
  -- what a create leaves: the register of the season, where there was no table, index or view; or what was found, or that register. InUse is reported just where
  -- there was one, and then nothing is changed.
  abbrev pub CreatesAs : SeasonFacts → Held (FileStore D g) → Held (FileStore D g) → Result Exit Fault → Type 0
  CreatesAs season found left (Ok e) = (e ≡ exit.Done) × (found.schema ≡ no_schema) × LeavesOnly (only_season season) (file_state left)
  CreatesAs season found left (Err f) = (cause : CreateFault) × (f ≡ of_create cause) × LeavesOldOrNew season (file_state found) (file_state left)
      × (cause ≡ create.InUse → (found.schema ≢ no_schema) × (left ≡ found)) × (found.schema ≢ no_schema → cause ≡ create.InUse)

  -- the register of the season is created over a connection, which is then closed; no wrong answer of the disk is forgotten
  pub record CreatesIn (found : Held (FileStore D g)) (season : SeasonFacts) (e : Result Exit Fault) (closed : Result (Files D) (Error × FileStore D g)) : Type 0 where
    pub left : Held (FileStore D g)
    pub made : CreatesAs season found left e
    pub clean : HasCleanDisk (file_state left) → HasCleanDisk (file_state found)
    pub closes : Closes left closed

  -- the same over files that held this
  pub record Creates (image : Image) (season : SeasonFacts) (e : Result Exit Fault) (closed : Result (Files D) (Error × FileStore D g)) : Type 0 where
    pub found : Held (FileStore D g)
    pub is_found : IsFound image found
    pub creates : CreatesIn found season e closed
