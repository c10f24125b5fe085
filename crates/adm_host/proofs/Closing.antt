-- What the close of a connection left, from its clauses.
use Rattle.std.proofs.Common.{Result, Ok, Err}
use Rattle.std.specs.Prelude.{IfOk, IfErr}
use Rattle.sqlite_disk.specs.declared.Disk as disk
use Rattle.sqlite_disk.specs.declared.Files.{Files}
use Rattle.sqlite_wal.specs.Reads.{AreClean}
use Rattle.sqlite_store.specs.declared.store.FileStore.{FileStore}
use Rattle.sqlite.specs.declared.error.Error.{Error}
use Rattle.sqlite.specs.Held.{Held}
use Rattle.sqlite.specs.Files.{IsClosed}
use Rattle.sqlite.specs.Closing.{IsCopied}
use Rattle.adm_host.specs.Found.{Closes}

module _ {D : Type 0} {g : disk.Ghosts D} where
  pub closes : (c : Held (FileStore D g)) (closed : Result (Files D) (Error × FileStore D g)) (More : Error × FileStore D g → Type 0)
      → IfOk closed (λ files. AreClean g files.log files.db → IsCopied c files) → IfErr closed (λ e. IsClosed c e.1 × More e) → Closes c closed
  closes c (Ok files) More ok err = ok
  closes c (Err e) More ok err = err.0
