use Rattle.adm_fairness.proofs.Leaving.{no_loss_by_not_applying_law}
use Rattle.adm_fairness.proofs.honesty.no_loss_by_not_applying.Goals as goal

pub returns : goal.returns
returns c = no_loss_by_not_applying_law c.kinds_of_generosity.ensures c.no_loss.ensures
