use Rattle.adm_fairness.proofs.SameOrder.{same_order_same_places_law}
use Rattle.adm_fairness.proofs.rounds.same_order_same_places.Goals as goal

pub returns : goal.returns
returns c = same_order_same_places_law c.one_allotment.ensures
