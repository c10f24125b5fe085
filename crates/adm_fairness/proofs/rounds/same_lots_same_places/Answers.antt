use Rattle.adm_fairness.proofs.HeldAgain.{same_lots_same_places_law}
use Rattle.adm_fairness.proofs.rounds.same_lots_same_places.Goals as goal

pub returns : goal.returns
returns c = same_lots_same_places_law c.allotment_fits.ensures
