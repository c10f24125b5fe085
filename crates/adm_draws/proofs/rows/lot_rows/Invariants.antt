use Rattle.std.proofs.Common.{◌≡◌, take}
use Rattle.std.specs.List.{flat_map}
use Rattle.adm_draws.specs.Draws.{lot_rows_of}
use Rattle.adm_draws.proofs.rows.lot_rows.Given as goal

abbrev pub invariant-loop-draw : goal.invariant-loop-draw
invariant-loop-draw l = l.rows.items ≡ flat_map lot_rows_of (take l.draw-index l.draws)
