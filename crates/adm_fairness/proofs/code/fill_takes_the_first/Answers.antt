use Rattle.adm_fairness.proofs.Fills.{fill_takes_the_first_law}
use Rattle.adm_fairness.proofs.code.fill_takes_the_first.Goals as goal

pub returns : goal.returns
returns c = fill_takes_the_first_law
