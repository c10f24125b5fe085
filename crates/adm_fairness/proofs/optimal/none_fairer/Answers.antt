use Rattle.adm_fairness.proofs.Fairer.{none_fairer_law}
use Rattle.adm_fairness.proofs.optimal.none_fairer.Goals as goal

pub returns : goal.returns
returns c = none_fairer_law c.kinds_of_generosity.ensures c.no_loss.ensures
