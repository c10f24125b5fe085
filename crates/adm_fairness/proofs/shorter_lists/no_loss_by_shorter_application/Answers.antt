use Rattle.adm_fairness.proofs.AppliedLists.{no_loss_by_shorter_application_law}
use Rattle.adm_fairness.proofs.shorter_lists.no_loss_by_shorter_application.Goals as goal

pub returns : goal.returns
returns c = no_loss_by_shorter_application_law c.no_loss_by_shorter_list.ensures c.allotment_fits.ensures
