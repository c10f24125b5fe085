use Rattle.adm_fairness.proofs.Resumed.{rounds_anew_law}
use Rattle.adm_fairness.proofs.anew.rounds_anew.Goals as goal

pub returns : goal.returns
returns c = rounds_anew_law
