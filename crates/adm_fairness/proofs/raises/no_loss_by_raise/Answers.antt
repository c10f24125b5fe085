use Rattle.adm_fairness.proofs.MorePlaces.{no_loss_by_raise_law}
use Rattle.adm_fairness.proofs.raises.no_loss_by_raise.Goals as goal

pub returns : goal.returns
returns c = no_loss_by_raise_law c.no_loss_by_quotas.ensures
