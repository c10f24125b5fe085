use Rattle.std.proofs.Common.{◌≡◌, take}
use Rattle.std.specs.Map.{values_of}
use Rattle.adm_table.specs.Pieces.{rows_of_pieces}
use Rattle.adm_table.proofs.table.Table.to_vec.Given as goal

-- the copies so far are the rows of as many pieces
abbrev pub invariant-loop-piece : goal.invariant-loop-piece
invariant-loop-piece g l = l.copies.items ≡ values_of (rows_of_pieces (take l.piece-index l.piece-items))
