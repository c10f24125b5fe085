use Rattle.std.proofs.Common.{◌∙◌, ap, sym, arith, ◌<◌, ◌≤◌, ◌++◌, length, take}
use Rattle.std.specs.Prelude.{filter}
use Rattle.std.specs.Map.{values_of}
use Rattle.std.specs.FinMap.{values}
use Rattle.std.specs.Cmp.{nat_cmp_total}
use Rattle.std.proofs.lemmas.List.{take_all}
use Rattle.std.proofs.lemmas.List.Elements.{filter-append}
use Rattle.adm_table.specs.Pieces.{rows_of_pieces}
use Rattle.adm_register.specs.Waits.{lists_some}
use Rattle.adm_register.proofs.PieceRows.{values-more}
use Rattle.adm_register.proofs.TableMaps.{values_rows}
use Rattle.adm_register.proofs.tables.Tables.listing.Goals as goal

pub loop-piece-preserved : goal.loop-piece-preserved
loop-piece-preserved c =
    let pieces = c.pieces-piece-items.result.now in
    let place = c.loop-piece.piece-index in
    let piece = c.piece-item.result in
    let lists = lists_some c.args.schools.now in
    let within : place < length pieces = omega (arith, c.loop-piece-test.true) in
    c.in_ok-add_listing.ensures ∙ (λ i. c.loop-piece.invariant i ++ filter lists (values_of (c.rows.ensures i).entries))
    ∙ sym (filter-append lists (values_of (rows_of_pieces (take place pieces))) (values_of piece.rows.value.entries))
    ∙ ap (filter lists) (sym (values-more place pieces piece within c.piece-item.is))

pub returns : goal.returns
returns c =
    let pieces = c.pieces-piece-items.result.now in
    let place = c.loop-piece.piece-index in
    let lists = lists_some c.args.schools.now in
    let whole : length pieces ≤ place = omega (arith, c.loop-piece-test.false) in
    c.loop-piece.invariant ∙ ap (λ ps. filter lists (values_of (rows_of_pieces ps))) (take_all place pieces whole)
    ∙ ap (λ rows. filter lists (values_of rows)) c.pieces-piece-items.ensures.rows
    ∙ ap (filter lists) (sym (values_rows nat_cmp_total c.self.inside.base.applications c.pieces-piece-items.ensures.ordered) ∙ ap (λ s. values s.applications) c.self.view_is)
