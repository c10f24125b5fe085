use Rattle.adm_fairness.proofs.RoundAnew.{one_round_anew_law}
use Rattle.adm_fairness.proofs.anew.one_round_anew.Goals as goal

pub returns : goal.returns
returns c = one_round_anew_law c.allotment_fits.ensures
