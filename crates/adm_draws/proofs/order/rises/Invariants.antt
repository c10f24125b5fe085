use Rattle.std.proofs.Common.{◌≡◌, length}
use Rattle.std.specs.Ordering.{on}
use Rattle.adm_draws.specs.Draws.{rises}
use Rattle.adm_draws.proofs.order.rises.Given as goal

abbrev pub invariant-loop-first : goal.invariant-loop-first
invariant-loop-first g l = rises (on g.V.Ordered.sort_key g.K.Ord.cmp) l.rest ≡ rises (on g.V.Ordered.sort_key g.K.Ord.cmp) l.rows

abbrev pub decreases-loop-first : goal.decreases-loop-first
decreases-loop-first g l = length l.rest
