use Rattle.adm_round.proofs.OneBest.{one_allotment_law}
use Rattle.adm_round.proofs.laws.one_allotment.Goals as goal

pub returns : goal.returns
returns c = one_allotment_law
