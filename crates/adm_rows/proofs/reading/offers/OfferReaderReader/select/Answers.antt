use Rattle.std.proofs.Common.{refl, sym, subst, arith}
use Rattle.adm_schema.specs.Schema.{offer}
use Rattle.adm_schema.proofs.Texts.{asks_offers}
use Rattle.adm_rows.specs.Reads.{AsksAll}
use Rattle.adm_rows.proofs.reading.offers.OfferReaderReader.select.Goals as goal

pub returns : goal.returns
returns c v = subst (AsksAll v offer) (sym c.select_offers.ensures) (record { project = _; order = _; asks = asks_offers v; columns = λ _. refl; few = omega arith })
