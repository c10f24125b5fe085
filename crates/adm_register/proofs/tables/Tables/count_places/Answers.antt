use Rattle.std.proofs.Common.{rules, Fits, w64, ◌∙◌, ap, sym, arith, ◌+◌, ◌<◌, ◌≤◌, length}
use Rattle.std.specs.Prelude.{count_by}
use Rattle.std.specs.Map.{values_of}
use Rattle.std.proofs.lemmas.List.{take_all}
use Rattle.adm_register.specs.Rows.{is_counted}
use Rattle.adm_table.specs.Pieces.{rows_of_pieces}
use Rattle.adm_register.proofs.PieceRows.{count-more, count-within}
use Rattle.adm_register.proofs.RowLemmas.{count_rows}
use Rattle.adm_register.proofs.tables.Tables.count_places.Goals as goal

pub overflow_add-count : goal.overflow_add-count
overflow_add-count c =
    let pieces = c.pieces-piece-items.result.now in
    let place = c.loop-piece.piece-index in
    let counted = is_counted c.args.with_plans c.args.code in
    let within : place < length pieces = omega (arith, c.loop-piece-test.true) in
    let small : Fits w64 c.len-all.result = search rules in
    let more = count-more counted place pieces c.piece-item.result within c.piece-item.is in
    let few = count-within counted (place + 1) pieces in
    let rows = ap length c.pieces-piece-items.ensures.rows in
    let so_far = c.loop-piece.invariant in
    omega (arith, small, more, few, rows, so_far, c.count_in_piece-count.ensures, c.len-all.ensures.value)

pub loop-piece-preserved : goal.loop-piece-preserved
loop-piece-preserved c =
    let pieces = c.pieces-piece-items.result.now in
    let place = c.loop-piece.piece-index in
    let within : place < length pieces = omega (arith, c.loop-piece-test.true) in
    (λ i. c.loop-piece.invariant i + c.count_in_piece-count.ensures i) ∙ sym (count-more (is_counted c.args.with_plans c.args.code) place pieces c.piece-item.result within c.piece-item.is)

pub returns : goal.returns
returns c =
    let pieces = c.pieces-piece-items.result.now in
    let place = c.loop-piece.piece-index in
    let whole : length pieces ≤ place = omega (arith, c.loop-piece-test.false) in
    c.loop-piece.invariant ∙ ap (λ ps. count_by (is_counted c.args.with_plans c.args.code) (values_of (rows_of_pieces ps))) (take_all place pieces whole)
    ∙ ap (λ rows. count_by (is_counted c.args.with_plans c.args.code) (values_of rows)) c.pieces-piece-items.ensures.rows
    ∙ count_rows (is_counted c.args.with_plans c.args.code) c.args.self.now c.self.inside.course.places (ap (λ s. s.places) c.self.view_is) c.len-all.ensures.ordered
