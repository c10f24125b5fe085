use Rattle.std.proofs.Common.{refl, sym, subst, arith}
use Rattle.adm_schema.specs.Schema.{application}
use Rattle.adm_schema.proofs.Texts.{asks_applications}
use Rattle.adm_rows.specs.Reads.{AsksAll}
use Rattle.adm_rows.proofs.reading.applications.ApplicationReaderReader.select.Goals as goal

pub returns : goal.returns
returns c v = subst (AsksAll v application) (sym c.select_applications.ensures) (record { project = _; order = _; asks = asks_applications v; columns = λ _. refl; few = omega arith })
