use Rattle.std.proofs.Common.{◌≡◌, take}
use Rattle.std.specs.Prelude.{count_by}
use Rattle.adm_register.specs.Rows.{is_counted}
use Rattle.std.specs.Map.{values_of}
use Rattle.adm_table.specs.Pieces.{rows_of_pieces}
use Rattle.adm_register.proofs.tables.Tables.count_places.Given as goal

-- the count so far is that of as many pieces
abbrev pub invariant-loop-piece : goal.invariant-loop-piece
invariant-loop-piece l = l.count ≡ count_by (is_counted l.with_plans l.code) (values_of (rows_of_pieces (take l.piece-index l.piece-items)))
