use Rattle.std.proofs.Common.{refl, sym, subst, arith}
use Rattle.adm_schema.specs.Schema.{draw}
use Rattle.adm_schema.proofs.Texts.{asks_draws}
use Rattle.adm_rows.specs.Reads.{AsksAll}
use Rattle.adm_rows.proofs.reading.draws.DrawReaderReader.select.Goals as goal

pub returns : goal.returns
returns c v = subst (AsksAll v draw) (sym c.select_draws.ensures) (record { project = _; order = _; asks = asks_draws v; columns = λ _. refl; few = omega arith })
