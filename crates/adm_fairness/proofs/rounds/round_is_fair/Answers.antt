use Rattle.adm_fairness.proofs.FairRound.{round_is_fair_law}
use Rattle.adm_fairness.proofs.rounds.round_is_fair.Goals as goal

pub returns : goal.returns
returns c = round_is_fair_law c.allotment_fits.ensures
