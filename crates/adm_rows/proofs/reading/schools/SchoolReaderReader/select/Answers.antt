use Rattle.std.proofs.Common.{refl, sym, subst, arith}
use Rattle.adm_schema.specs.Schema.{school}
use Rattle.adm_schema.proofs.Texts.{asks_schools}
use Rattle.adm_rows.specs.Reads.{AsksAll}
use Rattle.adm_rows.proofs.reading.schools.SchoolReaderReader.select.Goals as goal

pub returns : goal.returns
returns c v = subst (AsksAll v school) (sym c.select_schools.ensures) (record { project = _; order = _; asks = asks_schools v; columns = λ _. refl; few = omega arith })
