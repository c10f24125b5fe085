use Rattle.std.proofs.Common.{◌∙◌, ap, nat_lt}
use Rattle.adm_rank.specs.Distance.{distance_of}
use Rattle.adm_rank.proofs.Roots.{nearer_is}
use Rattle.adm_rank.proofs.distances.is_nearer.Goals as goal

pub returns : goal.returns
returns c =
    nearer_is c.args.a c.args.b c.squares_between.result c.from-metres.result c.squares_between.ensures.value
    ∙ ap (nat_lt (distance_of c.args.a c.args.b)) c.from-metres.ensures
