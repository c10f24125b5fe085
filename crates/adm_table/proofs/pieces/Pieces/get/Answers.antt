use Rattle.std.proofs.Common.{◌∙◌, ap, sym, drop}
use Rattle.std.specs.Map.{lookup}
use Rattle.std.specs.BTreeMap.{is_at}
use Rattle.std.proofs.lemmas.List.{drop_all}
use Rattle.adm_table.specs.Pieces.{rows_of_pieces, first_rows}
use Rattle.adm_table.proofs.PieceRuns.{lookup-at, rows-read}
use Rattle.adm_table.proofs.pieces.Pieces.get.Goals as goal

pub returns-in-Some : goal.returns-in-Some
returns-in-Some g c =
    let find = lookup (is_at (g.K.Ord.cmp c.args.key.now)) in
    let seen = c.deref.result.now in
    let again = c.deref-2.result.now in
    let index = c.index_of-index.result in
    c.get-in-Some.ensures.value ∙ ap (λ m. find m.entries) c.deref-in-Some.ensures
    ∙ ap find (sym (rows-read index again c.in-Some.piece.now c.in-Some.ensures.lookup.3.0 c.in-Some.ensures.lookup.1))
    ∙ ap (λ ps. find (first_rows (drop index ps))) (c.deref-2.ensures.value ∙ sym c.deref.ensures.value)
    ∙ sym (lookup-at g.met.K.Ord.total index seen c.args.key.now c.index_of-index.ensures.below c.index_of-index.ensures.above)
    ∙ ap (λ ps. find (rows_of_pieces ps)) c.deref.ensures.value ∙ ap find c.self.view_is

pub returns-in-None : goal.returns-in-None
returns-in-None g c =
    let find = lookup (is_at (g.K.Ord.cmp c.args.key.now)) in
    let seen = c.deref.result.now in
    let again = c.deref-2.result.now in
    let index = c.index_of-index.result in
    ap (λ ps. find (first_rows ps)) (sym (drop_all index again c.in-None.ensures.lookup.3))
    ∙ ap (λ ps. find (first_rows (drop index ps))) (c.deref-2.ensures.value ∙ sym c.deref.ensures.value)
    ∙ sym (lookup-at g.met.K.Ord.total index seen c.args.key.now c.index_of-index.ensures.below c.index_of-index.ensures.above)
    ∙ ap (λ ps. find (rows_of_pieces ps)) c.deref.ensures.value ∙ ap find c.self.view_is
