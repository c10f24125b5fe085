use Rattle.adm_match_laws.proofs.OneBest.{one_best_law}
use Rattle.adm_match_laws.proofs.laws.one_best.Goals as goal

pub returns : goal.returns
returns c = one_best_law
