use Rattle.std.proofs.Common.{◌∙◌, sym, arith, ◌<◌, ◌++◌, length}
use Rattle.std.specs.Map.{values_of}
use Rattle.adm_table.proofs.PieceRows.{values-more}
use Rattle.adm_table.proofs.table.Table.to_vec.Goals as goal

pub loop-piece-preserved : goal.loop-piece-preserved
loop-piece-preserved g c =
    let pieces = c.pieces-piece-items.result.now in
    let place = c.loop-piece.piece-index in
    let within : place < length pieces = omega (arith, c.loop-piece-test.true) in
    c.in_ok-push_copies.ensures ∙ (λ i. c.loop-piece.invariant i ++ values_of (c.rows.ensures i).entries) ∙ sym (values-more place pieces c.piece-item.result within c.piece-item.is)
