use Rattle.std.proofs.Common.{◌≡◌, ◌++◌, map, take}
use Rattle.adm_draws.specs.Draws.{offer_row_of}
use Rattle.adm_draws.proofs.rows.push_offers.Given as goal

abbrev pub invariant-loop-outcome : goal.invariant-loop-outcome
invariant-loop-outcome l = l.rows.items ≡ l.fn.rows.items ++ map (offer_row_of l.number) (take l.outcome-index l.outcomes)
