use Rattle.std.proofs.Common.{arith}
use Rattle.adm_rank.proofs.Roots.{squared_below}
use Rattle.adm_rank.proofs.distances.square_of_gap.Goals as goal

pub returns-clause-upper : goal.returns-clause-upper
returns-clause-upper c = squared_below c.from-apart.result 1500000 (omega (arith, c.from-apart.ensures, c.abs_diff.ensures))
