use Rattle.std.proofs.Common.{refl, sym, subst, arith}
use Rattle.adm_schema.specs.Schema.{child}
use Rattle.adm_schema.proofs.Texts.{asks_children}
use Rattle.adm_rows.specs.Reads.{AsksAll}
use Rattle.adm_rows.proofs.reading.children.ChildReaderReader.select.Goals as goal

pub returns : goal.returns
returns c v = subst (AsksAll v child) (sym c.select_children.ensures) (record { project = _; order = _; asks = asks_children v; columns = λ _. refl; few = omega arith })
