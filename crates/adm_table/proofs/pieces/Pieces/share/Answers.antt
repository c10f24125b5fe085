use Rattle.std.proofs.Common.{◌∙◌, ap, arith, ◌<◌, length, get_or}
use Rattle.adm_table.proofs.PieceRuns.{copied-more}
use Rattle.adm_table.proofs.pieces.Pieces.share.Goals as goal

pub loop-piece-preserved : goal.loop-piece-preserved
loop-piece-preserved g c =
    let pieces = c.self.inside.pieces.items in
    let index = c.loop-piece.piece-index in
    let seen = c.deref-piece-items.ensures.value in
    let whole = ap length seen in
    let within : index < length pieces = omega (arith, whole, c.loop-piece-test.true) in
    copied-more index pieces c.loop-piece.pieces.items c.push.new.self.items c.piece-item.result c.in_ok-share.field-0 within (c.piece-item.is
    ∙ ap (λ ps. get_or ps index c.piece-item.result) seen) c.self.invariant.0.starts
    c.in_ok-share.ensures.0 c.in_ok-share.ensures.1 c.in_ok-push.ensures.items c.loop-piece.invariant
