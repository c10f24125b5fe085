use Rattle.adm_round.proofs.Faultless.{faultless}
use Rattle.adm_round.proofs.laws.posed_without_fault.Goals as goal

pub returns : goal.returns
returns c = faultless
