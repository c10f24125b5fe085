-- The result of an import, from what the desk did.
use Rattle.std.proofs.Common.{List, Result, Ok, Err}
use Rattle.sqlite_disk.specs.declared.Disk as disk
use Rattle.sqlite_store.specs.declared.store.FileStore.{FileStore}
use Rattle.sqlite.specs.Held.{Held}
use Rattle.sqlite.specs.Files.{file_state}
use Rattle.adm_types.specs.declared.rows.Row.{Row as ImportRow}
use Rattle.adm_desk.specs.DeskState.{DeskState}
use Rattle.adm_wire.specs.Streams.{Stream}
use Rattle.adm_files.specs.Imports.{FileGives, IsHandled, ImportsAs}
use Rattle.adm_host.specs.declared.exit.Exit.{Exit}
use Rattle.adm_host.specs.declared.fault.Fault.{Fault}
use Rattle.adm_host.specs.declared.fault.Fault.TheVariants.{Row}

-- no answer is an error of the file
pub imports_as : {D : Type 0} {g : disk.Ghosts D} (old new : DeskState (Held (FileStore D g))) (file output : Stream) (rows : List ImportRow) (e : Result Exit Fault)
    → FileGives file (Ok rows) → IsHandled file_state old new rows output e → ImportsAs old new file output e
imports_as old new file output rows (Err (Row f)) gives handled = absurd handled.written
imports_as old new file output rows e gives handled = (rows, gives, handled)
