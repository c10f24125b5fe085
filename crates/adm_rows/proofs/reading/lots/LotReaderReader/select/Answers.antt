use Rattle.std.proofs.Common.{refl, sym, subst, arith}
use Rattle.adm_schema.specs.Schema.{lot}
use Rattle.adm_schema.proofs.Texts.{asks_lots}
use Rattle.adm_rows.specs.Reads.{AsksAll}
use Rattle.adm_rows.proofs.reading.lots.LotReaderReader.select.Goals as goal

pub returns : goal.returns
returns c v = subst (AsksAll v lot) (sym c.select_lots.ensures) (record { project = _; order = _; asks = asks_lots v; columns = λ _. refl; few = omega arith })
