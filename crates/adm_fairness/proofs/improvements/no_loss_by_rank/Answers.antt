use Rattle.adm_fairness.proofs.Improved.{no_loss_by_rank_law}
use Rattle.adm_fairness.proofs.improvements.no_loss_by_rank.Goals as goal

pub returns : goal.returns
returns c = no_loss_by_rank_law
