use Rattle.adm_fairness.proofs.Ranks.{lots_part_equals_law}
use Rattle.adm_fairness.proofs.code.lots_part_equals.Goals as goal

pub returns : goal.returns
returns c = lots_part_equals_law
