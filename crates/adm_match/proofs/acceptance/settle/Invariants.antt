use Rattle.std.proofs.Common.{◌+◌, length}
use Rattle.adm_match.specs.Market.{market_of}
use Rattle.adm_match.specs.Turns.{turns_left}
use Rattle.adm_match.specs.Queue.{BetweenTurns}
use Rattle.adm_match.proofs.acceptance.settle.Given as goal

abbrev pub invariant-loop-index : goal.invariant-loop-index
invariant-loop-index l = BetweenTurns (market_of l.entrants l.seats) l.rows.items l.schools.items l.queue.items

abbrev pub decreases-loop-index : goal.decreases-loop-index
decreases-loop-index l = turns_left l.entrants l.rows.items + length l.queue.items
