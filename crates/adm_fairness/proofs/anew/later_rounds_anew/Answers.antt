use Rattle.adm_fairness.proofs.LaterRounds.{later_rounds_anew_law}
use Rattle.adm_fairness.proofs.anew.later_rounds_anew.Goals as goal

pub returns : goal.returns
returns c = later_rounds_anew_law c.allotment_fits.ensures
