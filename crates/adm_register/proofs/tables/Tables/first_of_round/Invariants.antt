use Rattle.std.proofs.Common.{◌≡◌, take, None}
use Rattle.std.specs.Prelude.{find, nat_eq}
use Rattle.std.specs.Map.{values_of}
use Rattle.adm_table.specs.Pieces.{rows_of_pieces}
use Rattle.adm_register.proofs.tables.Tables.first_of_round.Given as goal

-- no draw of as many pieces is the round's
abbrev pub invariant-loop-piece : goal.invariant-loop-piece
invariant-loop-piece l = find (λ draw. nat_eq draw.round l.number) (values_of (rows_of_pieces (take l.piece-index l.piece-items))) ≡ None
