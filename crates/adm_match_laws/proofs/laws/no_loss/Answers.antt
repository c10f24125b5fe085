use Rattle.adm_match_laws.proofs.Generous.{no_loss_law}
use Rattle.adm_match_laws.proofs.laws.no_loss.Goals as goal

pub returns : goal.returns
returns c = no_loss_law
