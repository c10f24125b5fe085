-- What a connection finds in the files at a path, and what a close or an open that fails leaves of them.
use Rattle.std.specs.Prelude.{◌≡◌, ⊤, IsTrue, Result, MatchResult}
use Rattle.sqlite_disk.specs.declared.Disk as disk
use Rattle.sqlite_disk.specs.declared.Files.{Files}
use Rattle.sqlite_wal.specs.Recovery.{Image}
use Rattle.sqlite_wal.specs.Files.{outcomes}
use Rattle.sqlite_wal.specs.Reads.{AreClean}
use Rattle.sqlite_store.specs.declared.store.FileStore.{FileStore}
use Rattle.sqlite.specs.declared.error.Error.{Error}
use Rattle.sqlite.specs.Effect.{IsDatabase}
use Rattle.sqlite.specs.State.{HasCleanDisk, Survives}
use Rattle.sqlite.specs.Held.{Held}
use Rattle.sqlite.specs.Files.{image_of, file_state, IsClosed, IsCleanLeft, LeavesFiles}
use Rattle.sqlite.specs.Closing.{IsCopied}
use Rattle.sqlite.specs.Start.{FindsIn}
use Rattle.adm_store.specs.Migration.{IsMigrated}
use Rattle.adm_host.specs.declared.connecting.Remainder.{Remainder}
use Rattle.adm_host.specs.declared.connecting.Remainder.TheVariants as remains

-- the files hold this, and so does all that a crash may leave of them
pub record AreAsFound {D : Type 0} (g : disk.Ghosts D) (image : Image) (files : Files D) : Type 0 where
  pub holds : image_of g files ≡ image
  pub only : (left : Image) → outcomes g files.log files.db left → left ≡ image

module _ {D : Type 0} {g : disk.Ghosts D} where
  -- The close of a connection: on a clean disk the last commit is in the file alone, or its error says what remains.
  abbrev pub Closes : Held (FileStore D g) → Result (Files D) (Error × FileStore D g) → Type 0
  Closes c closed = MatchResult closed (λ files. AreClean g files.log files.db → IsCopied c files) (λ e. IsClosed c e.1)

  -- a connection to files that held this, which is open, and whose schema is the one that the database lists
  abbrev pub IsFound : Image → Held (FileStore D g) → Type 0
  IsFound image c = HasCleanDisk (file_state c)
      → IsTrue (file_state c).is_open × FindsIn image (file_state c) × IsDatabase (file_state c).committed × (c.schema ≡ (file_state c).committed.schema)

  -- they were not opened at all
  abbrev pub IsUntouched : Remainder D g → Type 0
  IsUntouched (remains.Untouched it) = ⊤
  IsUntouched (remains.Files left) = ⊥
  IsUntouched (remains.Connection c) = ⊥

  -- what remained of files that held this, where they were not opened as a register: they were not opened at all; or a clean disk has what an open of `sqlite` that
  -- fails leaves of such files; or they were opened, and a crash leaves them as they were, or in the second version for the same register
  abbrev pub LeavesAsFound : Image → Remainder D g → Type 0
  LeavesAsFound image (remains.Untouched it) = ⊤
  LeavesAsFound image (remains.Files left) = (files : Files D) × AreAsFound g image files × (IsCleanLeft left → LeavesFiles files left)
  LeavesAsFound image (remains.Connection c) = (found : Held (FileStore D g)) × IsFound image found × Survives (file_state found) (file_state c) (IsMigrated (file_state found))
