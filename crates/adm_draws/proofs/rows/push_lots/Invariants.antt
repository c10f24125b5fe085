use Rattle.std.proofs.Common.{◌≡◌, ◌++◌, map, take}
use Rattle.adm_draws.specs.Draws.{lot_row_of}
use Rattle.adm_draws.proofs.rows.push_lots.Given as goal

abbrev pub invariant-loop-lot : goal.invariant-loop-lot
invariant-loop-lot l = l.rows.items ≡ l.fn.rows.items ++ map (lot_row_of l.number) (take l.lot-index l.lots)
