use Rattle.std.proofs.Common.{inr}
use Rattle.adm_files.proofs.imports.import_file.Goals as goal

pub returns-in-Ok : goal.returns-in-Ok
returns-in-Ok g c = inr (rw c.in-Ok.ensures.bytes at c.import_rows.ensures)
