-- Two disks that hold a register, and what a run of commands leaves on them, whatever a crash makes of them.
use Rattle.std.specs.Prelude.{◌≡◌, ◌⊎◌, List, [], false, Option, Result, Ok, Err}
use Rattle.sqlite_disk.specs.declared.Disk.{Ghosts}
use Rattle.sqlite_disk.specs.declared.Files.{Files}
use Rattle.sqlite_wal.specs.Recovery.{Image}
use Rattle.sqlite_wal.specs.Files.{outcomes}
use Rattle.sqlite_pool.specs.Stored.{StandsAs}
use Rattle.sqlite_trees.specs.View.{IsClean}
use Rattle.sqlite_store.specs.declared.store.FileStore.{FileStore}
use Rattle.sqlite_store.specs.FileStore.{state, view, recovers}
use Rattle.sqlite_store.specs.Unopened.{state_of}
use Rattle.sqlite.specs.declared.file.Leftover.{Leftover}
use Rattle.sqlite.specs.declared.file.Leftover.TheVariants as left
use Rattle.sqlite.specs.Files.{file_state, image_of, IsCleanLeft}
use Rattle.sqlite.specs.State.{HasCleanDisk}
use Rattle.sqlite.specs.Held.{Held}
use Rattle.sqlite.specs.Tree.{Trees}
use Rattle.adm_types.specs.declared.commands.Command.{Command}
use Rattle.adm_register.specs.State.{State as Register}
use Rattle.adm_commands.specs.History.{DrawsStay}
use Rattle.adm_commands.specs.Imports.{Reaches}
use Rattle.adm_rows.specs.Represents.{Represents, LeavesOnly}
use Rattle.adm_rows.specs.Faults.{IsNoRegister}
use Rattle.adm_rows.specs.declared.fault.OpenFault.{OpenFault}
use Rattle.adm_desk.specs.declared.answer.Answer.{Answer}
use Rattle.adm_desk.specs.Acknowledged.{acknowledged, in_flight, FindsAgain}
use Rattle.adm_desk.specs.DeskState.{DeskState, Handles}
use Rattle.adm_desk.specs.Files.{IsFileOf}
use Rattle.adm_crashes.specs.declared.crashes.NotHandled.{NotHandled}
use Rattle.adm_crashes.specs.declared.crashes.NotHandled.TheVariants as unhandled
use Rattle.adm_crashes.specs.Rounds.{EachRoundRecorded, RoundRecordedOrNot}
use Rattle.adm_crashes.specs.Steps.{IsRun}

-- ---- the disks of a register

-- whatever two files a crash may leave of the disks are files of the register
abbrev pub AreDisksOf : {D : Type 0} → Ghosts D → Register → D → D → Type 0
AreDisksOf g r log db = (image : Image) → outcomes g log db image → IsFileOf r image

-- they are disks of the register, or of one that the command in flight leaves
abbrev pub AreDisksAfter : {D : Type 0} → Ghosts D → Register → Option Command → D → D → Type 0
AreDisksAfter g r work log db = (found : Register) × FindsAgain r work found × AreDisksOf g found log db

-- ---- what a run of commands keeps

-- A register that may be found after commands: the one to which the acknowledged commands lead, or one that the command in flight leaves after it. It has
-- the best outcomes of each acknowledged round; of a round in flight likewise, or nothing; and the draws from before.
pub record IsFoundAfter (r : Register) (answered : List (Command × Answer)) (found : Register) : Type 0 where
  pub kept : Register
  pub reached : Reaches r (acknowledged answered) kept
  pub again : FindsAgain kept (in_flight answered) found
  pub rounds : EachRoundRecorded r (acknowledged answered) found
  pub round : RoundRecordedOrNot kept (in_flight answered) found
  pub draws : DrawsStay r found

-- The answers are those of the desk that was opened to the commands, one after another. That desk had not failed; opened from the files of a register, on a clean
-- disk, it had that register.
pub record IsAnsweredFrom {D : Type 0} (g : Ghosts D) (files : Files D) (clean : Type 0) (commands : List Command) (answers : List Answer) : Type 0 where
  pub desk : DeskState (Held (FileStore D g))
  pub alive : (desk.failed ≡ false) × LeavesOnly desk.register (file_state desk.conn)
  pub register : (r : Register) → IsFileOf r (image_of g files) → clean → desk.register ≡ r
  pub last : DeskState (Held (FileStore D g))
  pub run : IsRun (Handles file_state) desk commands answers last

module _ {D : Type 0} {g : Ghosts D} where
  -- whatever two files a crash may leave of the store are files of a register that may be found after the commands
  abbrev pub KeepsEveryImage : Register → List (Command × Answer) → FileStore D g → Type 0
  KeepsEveryImage r answered store = (image : Image) → (state store).may_leave image → ∥ ((found : Register) × IsFileOf found image × IsFoundAfter r answered found) ∥₁

  -- After a start that failed: each thing that a crash may leave still represents the register. Of files that
  -- were not opened it is a file of the register, or has the pages of one.
  abbrev pub StillRepresents : Register → Leftover D g → Type 0
  StillRepresents r (left.Files now) = (image : Image) → outcomes g now.log now.db image → IsFileOf r image
  StillRepresents r (left.Unopened now) =
      (image : Image) → (state_of now).may_leave image → IsFileOf r image ⊎ ((before : Image) × IsFileOf r before × StandsAs (state_of now).page_size before image)
  StillRepresents r (left.Store now) = (db : Trees) → recovers now db → ∥ Represents db r ∥₁

-- No command was handled, on clean disks of the register. Where the register was not opened, the error is not NotOurs, Version or BadRow, and what a crash may
-- leave represents the register still, if it did before. Without room for the answers a crash leaves files as after no command.
abbrev pub IsUnhandled : {D : Type 0} {g : Ghosts D} → Register → Files D → NotHandled D g → Type 0
IsUnhandled {D} {g} r files (unhandled.NotOpened fault rest) = IsCleanLeft rest → (¬ IsNoRegister fault) × (AreDisksOf g r files.log files.db → StillRepresents r rest)
IsUnhandled r files (unhandled.NoRoom store) = IsClean (view store) → KeepsEveryImage r [] store

-- ---- a start after the crash

-- each database that is left represents a register that may be found after the commands
abbrev pub KeepsEachDatabase : Register → List (Command × Answer) → (Trees → Type 0) → Type 0
KeepsEachDatabase r answered left = (db : Trees) → left db → (found : Register) × Represents db found × IsFoundAfter r answered found

module _ {D : Type 0} {g : Ghosts D} where
  -- A start after a run of the commands and a crash. On a clean disk the desk has a register that may be found after the commands. Where it was not opened, what
  -- remains represents such registers, and the error is not NotOurs, Version or BadRow.
  abbrev pub IsRestartOf : Register → List (Command × Answer) → Result (DeskState (Held (FileStore D g))) (OpenFault × FileStore D g) → Type 0
  IsRestartOf r answered (Ok desk) = HasCleanDisk (file_state desk.conn) → IsFoundAfter r answered desk.register
  IsRestartOf r answered (Err (fault, store)) = IsClean (view store) → (¬ IsNoRegister fault) × KeepsEachDatabase r answered (recovers store)

  -- the disk is clean at the end of that start
  abbrev pub IsCleanStart : Result (DeskState (Held (FileStore D g))) (OpenFault × FileStore D g) → Type 0
  IsCleanStart (Ok desk) = HasCleanDisk (file_state desk.conn)
  IsCleanStart (Err (fault, store)) = IsClean (view store)
