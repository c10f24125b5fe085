use Rattle.std.proofs.Common.{refl, sym, subst, arith}
use Rattle.adm_schema.specs.Schema.{place}
use Rattle.adm_schema.proofs.Texts.{asks_places}
use Rattle.adm_rows.specs.Reads.{AsksAll}
use Rattle.adm_rows.proofs.reading.places.PlaceReaderReader.select.Goals as goal

pub returns : goal.returns
returns c v = subst (AsksAll v place) (sym c.select_places.ensures) (record { project = _; order = _; asks = asks_places v; columns = λ _. refl; few = omega arith })
