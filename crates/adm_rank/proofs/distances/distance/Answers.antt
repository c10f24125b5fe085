use Rattle.adm_rank.proofs.Roots.{distance_is}
use Rattle.adm_rank.proofs.distances.distance.Goals as goal

pub returns-clause-value : goal.returns-clause-value
returns-clause-value c = distance_is c.args.a c.args.b c.squares_between.result c.isqrt.result c.squares_between.ensures.value c.isqrt.ensures.square_le c.isqrt.ensures.next_square_gt
