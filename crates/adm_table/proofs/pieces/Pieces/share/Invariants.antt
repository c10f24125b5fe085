use Rattle.std.proofs.Common.{◌≡◌, take}
use Rattle.std.specs.List.{AllByRecursion}
use Rattle.adm_table.specs.Pieces.{StartsRight, rows_of_pieces}
use Rattle.adm_table.proofs.pieces.Pieces.share.Given as goal

-- the copies so far have the rows of as many pieces
abbrev pub invariant-loop-piece : goal.invariant-loop-piece
invariant-loop-piece g l = (rows_of_pieces l.pieces.items ≡ rows_of_pieces (take l.piece-index l.self-inside.pieces.items)) × AllByRecursion StartsRight l.pieces.items
