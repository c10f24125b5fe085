use Rattle.std.proofs.Common.{◌≡◌, take}
use Rattle.std.specs.Map.{values_of}
use Rattle.adm_table.specs.Pieces.{rows_of_pieces}
use Rattle.adm_register.specs.Tallies.{with_applications}
use Rattle.adm_register.proofs.tables.Tables.count_all.Given as goal

-- those of as many pieces were counted
abbrev pub invariant-loop-piece : goal.invariant-loop-piece
invariant-loop-piece l = l.tallies ≡ with_applications l.self l.fn.tallies (values_of (rows_of_pieces (take l.piece-index l.piece-items)))
