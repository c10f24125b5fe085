use Rattle.std.proofs.Common.{◌≡◌, [], drop}
use Rattle.adm_draws.specs.Grouped.{draws_after}
use Rattle.adm_draws.proofs.gathering.gathered.Given as goal

-- the draws so far, and then those of what remains, are those of all rows
abbrev pub invariant-loop-head : goal.invariant-loop-head
invariant-loop-head l = draws_after l.draws.items (drop l.head-index l.heads) l.offers l.lots ≡ draws_after [] l.fn.heads l.fn.offers l.fn.lots
