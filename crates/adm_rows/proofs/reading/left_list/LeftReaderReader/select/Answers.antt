use Rattle.std.proofs.Common.{refl, sym, subst, arith}
use Rattle.adm_schema.specs.Schema.{left_list}
use Rattle.adm_schema.proofs.Texts.{asks_left_list}
use Rattle.adm_rows.specs.Reads.{AsksAll}
use Rattle.adm_rows.proofs.reading.left_list.LeftReaderReader.select.Goals as goal

pub returns : goal.returns
returns c v = subst (AsksAll v left_list) (sym c.select_left_list.ensures) (record { project = _; order = _; asks = asks_left_list v; columns = λ _. refl; few = omega arith })
