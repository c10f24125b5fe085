use Rattle.adm_fairness.proofs.Amended.{no_loss_by_amend_law}
use Rattle.adm_fairness.proofs.improvements.no_loss_by_amend.Goals as goal

pub returns : goal.returns
returns c = no_loss_by_amend_law c.no_loss_by_rank.ensures c.allotment_fits.ensures
