use Rattle.std.proofs.Common.{◌≡◌, ◌∙◌, ap, [], ◌∷◌, ◌++◌, rules}
use Rattle.adm_store.proofs.LoopLemmas.{written_more}
use Rattle.adm_store.proofs.to_rows.to_rows.Goals as goal

pub values-preserved : goal.values-preserved
values-preserved g c =
    let items : c.push.new.self.items ≡ c.values.rows.items ++ c.in_ok-to_row.field-0 ∷ [] = search rules in
    written_more g.T.ToRow.columns g.T.ToRow.row_of c.args.values.now c.values.value-index c.value-item.result _ _ _ c.values-test.true c.value-item.is c.values.invariant
    items (c.in_ok-to_row.ensures ∙ ap g.T.ToRow.row_of c.as_ref.ensures)
