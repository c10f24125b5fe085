use Rattle.adm_match_laws.proofs.Generous.{no_loss_by_cutting_law}
use Rattle.adm_match_laws.proofs.laws.no_loss_by_cutting.Goals as goal

pub returns : goal.returns
returns c = no_loss_by_cutting_law
