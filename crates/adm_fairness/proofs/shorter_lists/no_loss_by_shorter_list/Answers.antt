use Rattle.adm_fairness.proofs.ShorterList.{no_loss_by_shorter_list_law}
use Rattle.adm_fairness.proofs.shorter_lists.no_loss_by_shorter_list.Goals as goal

pub returns : goal.returns
returns c = no_loss_by_shorter_list_law c.no_loss.ensures
