use Rattle.std.proofs.Common.{refl, sym, subst, arith}
use Rattle.adm_schema.specs.Schema.{imported}
use Rattle.adm_schema.proofs.Texts.{asks_imported}
use Rattle.adm_rows.specs.Reads.{AsksAll}
use Rattle.adm_rows.proofs.reading.imported.ImportedReaderReader.select.Goals as goal

pub returns : goal.returns
returns c v = subst (AsksAll v imported) (sym c.select_imported.ensures) (record { project = _; order = _; asks = asks_imported v; columns = λ _. refl; few = omega arith })
