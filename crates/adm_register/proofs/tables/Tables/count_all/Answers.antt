use Rattle.std.proofs.Common.{rules, Fits, w64, ◌≡◌, ◌∙◌, ◌<◌, ◌≤◌, ℕ, ap, sym, arith, length, take}
use Rattle.std.specs.List.{list_all}
use Rattle.std.specs.Map.{values_of}
use Rattle.std.specs.FinMap.{values}
use Rattle.std.specs.Cmp.{nat_cmp_total}
use Rattle.std.proofs.lemmas.List.{take_all, length-map}
use Rattle.adm_types.specs.declared.rows.Application.{Application}
use Rattle.adm_table.specs.Pieces.{rows_of_pieces}
use Rattle.adm_register.specs.Tallies.{has_school_in_range, with_applications}
use Rattle.adm_register.proofs.PieceRows.{values-more}
use Rattle.adm_register.proofs.TableMaps.{values_rows}
use Rattle.adm_register.proofs.TallyLemmas.{in_range_after, counted_further}
use Rattle.adm_register.proofs.tables.Tables.count_all.Goals as goal

pub count_piece-requires-clause-in_range : goal.count_piece-requires-clause-in_range
count_piece-requires-clause-in_range c =
    let pieces = c.pieces-piece-items.result.now in
    let before = values_of (rows_of_pieces (take c.loop-piece.piece-index pieces)) in
    ap (list_all has_school_in_range) c.loop-piece.invariant ∙ in_range_after c.args.self.now before c.args.tallies.now ∙ c.requires.in_range

pub loop-piece-preserved : goal.loop-piece-preserved
loop-piece-preserved c =
    let s = c.args.self.now in
    let tallies = c.args.tallies.now in
    let pieces = c.pieces-piece-items.result.now in
    let place = c.loop-piece.piece-index in
    let piece = c.piece-item.result in
    let within : place < length pieces = omega (arith, c.loop-piece-test.true) in
    c.count_piece.ensures ∙ (λ i. with_applications s (c.loop-piece.invariant i) (values_of (c.rows.ensures i).entries))
    ∙ counted_further s tallies (values_of (rows_of_pieces (take place pieces))) (values_of piece.rows.value.entries)
    ∙ ap (with_applications s tallies) (sym (values-more place pieces piece within c.piece-item.is))

pub returns-clause-value : goal.returns-clause-value
returns-clause-value c =
    let s = c.args.self.now in
    let tallies = c.args.tallies.now in
    let pieces = c.pieces-piece-items.result.now in
    let place = c.loop-piece.piece-index in
    let whole : length pieces ≤ place = omega (arith, c.loop-piece-test.false) in
    c.loop-piece.invariant ∙ ap (λ ps. with_applications s tallies (values_of (rows_of_pieces ps))) (take_all place pieces whole)
    ∙ ap (λ rows. with_applications s tallies (values_of rows)) c.pieces-piece-items.ensures.rows
    ∙ ap (with_applications s tallies) (sym (values_rows nat_cmp_total c.self.inside.base.applications c.pieces-piece-items.ensures.ordered) ∙ ap (λ s. values s.applications) c.self.view_is)

pub returns-clause-room : goal.returns-clause-room
returns-clause-room c =
    let table = c.self.inside.base.applications in
    let rows = sym (values_rows nat_cmp_total table c.len-all.ensures.ordered) ∙ ap (λ s. values s.applications) c.self.view_is in
    let many : length (values_of table) ≡ length table = length-map table (λ (e : ℕ × Application). e.1) in
    let small : Fits w64 c.len-all.result = search rules in
    omega (arith, small, ap length rows, many, c.len-all.ensures.value)
