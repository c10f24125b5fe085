use Rattle.std.proofs.Common.{◌∙◌, ap, sym}
use Rattle.adm_table.specs.TableRows.{table_rows}
use Rattle.adm_table.proofs.TableCopies.{no_rows}
use Rattle.adm_table.proofs.table.Table.pieces.Goals as goal

pub returns-in-None-clause-ordered : goal.returns-in-None-clause-ordered
returns-in-None-clause-ordered g c = no_rows g.K.Ord.cmp c.args.self.now (sym c.self.view_is ∙ ap table_rows c.in-None.is)
