use Rattle.adm_waiting.proofs.SomeFirst.{one_is_first_law}
use Rattle.adm_waiting.proofs.laws.one_is_first.Goals as goal

pub returns : goal.returns
returns c = one_is_first_law
