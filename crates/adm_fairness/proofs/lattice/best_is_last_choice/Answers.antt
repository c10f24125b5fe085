use Rattle.adm_fairness.proofs.Joins.{best_is_last_choice_law}
use Rattle.adm_fairness.proofs.lattice.best_is_last_choice.Goals as goal

pub returns : goal.returns
returns c = best_is_last_choice_law
