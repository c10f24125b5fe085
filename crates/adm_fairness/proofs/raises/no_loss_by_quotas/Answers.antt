use Rattle.adm_fairness.proofs.MoreQuotas.{no_loss_by_quotas_law}
use Rattle.adm_fairness.proofs.raises.no_loss_by_quotas.Goals as goal

pub returns : goal.returns
returns c = no_loss_by_quotas_law c.kinds_of_generosity.ensures c.no_loss.ensures
