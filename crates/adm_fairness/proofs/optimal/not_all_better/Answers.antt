use Rattle.adm_fairness.proofs.Better.{not_all_better_law}
use Rattle.adm_fairness.proofs.optimal.not_all_better.Goals as goal

pub returns : goal.returns
returns c = not_all_better_law c.no_group_gains.ensures
