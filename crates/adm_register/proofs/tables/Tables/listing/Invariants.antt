use Rattle.std.proofs.Common.{◌≡◌, take}
use Rattle.std.specs.Prelude.{filter}
use Rattle.std.specs.Map.{values_of}
use Rattle.adm_table.specs.Pieces.{rows_of_pieces}
use Rattle.adm_register.specs.Waits.{lists_some}
use Rattle.adm_register.proofs.tables.Tables.listing.Given as goal

-- those so far are those of as many pieces
abbrev pub invariant-loop-piece : goal.invariant-loop-piece
invariant-loop-piece l = l.found.items ≡ filter (lists_some l.schools) (values_of (rows_of_pieces (take l.piece-index l.piece-items)))
