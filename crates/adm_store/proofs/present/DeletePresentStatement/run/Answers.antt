use Rattle.std.proofs.Common.{◌≡◌, ◌∙◌, List, [], ◌∷◌, length, sym, ap, subst}
use Rattle.std.proofs.lemmas.Bool.{eqb-true}
use Rattle.std.proofs.lemmas.List.{nil_from_length}
use Rattle.sqlite.specs.Held.{state}
use Rattle.sqlite.specs.Order.{Row}
use Rattle.sqlite.specs.State.{Shown}
use Rattle.adm_schema.specs.RowTexts.{find_present}
use Rattle.adm_rows.specs.Present.{moved_key}
use Rattle.adm_store.proofs.MigrationLemmas.{later_ok}
use Rattle.adm_store.proofs.PresentStatements.{drops_child, drops_nothing}
use Rattle.adm_store.proofs.present.DeletePresentStatement.run.Goals as goal

pub returns-in-None-clause-writes : goal.returns-in-None-clause-writes
returns-in-None-clause-writes g c =
    let old = state g.S.Store c.args.tx.now.conn.now in
    let mid = state g.S.Store c.found.new.tx.conn.now in
    let none : c.in_ok-rows.rows.items ≡ [] = sym c.as_slice.ensures.value ∙ nil_from_length c.as_slice.result.now c.in-None.ensures.cases in
    drops_nothing old mid c.args.child.now c.found.ensures.survives.clean
    (λ clean. subst (λ (rows : List Row). Shown find_present (moved_key c.args.child.now) old mid rows) none (c.in_ok-rows.ensures.shown clean))

pub returns-in-Some-clause-writes : goal.returns-in-Some-clause-writes
returns-in-Some-clause-writes g c =
    let old = state g.S.Store c.args.tx.now.conn.now in
    let mid = state g.S.Store c.found.new.tx.conn.now in
    let row = c.in-Some.row.now in
    let others : c.in-Some.others.now ≡ [] = nil_from_length c.in-Some.others.now (eqb-true (length c.in-Some.others.now) 0 (sym c.is_empty.ensures ∙ c.if-is_empty.true)) in
    let one : c.in_ok-rows.rows.items ≡ row ∷ [] = sym c.as_slice.ensures.value ∙ c.in-Some.ensures.cases.0 ∙ ap (λ more. row ∷ more) others in
    later_ok c.cut_found.result _ _ _ (rw (c.delete_present.ensures) at c.cut_found.ensures.runs) (λ cuts.
    drops_child old mid (state g.S.Store c.cut_found.new.tx.conn.now) c.args.child.now row c.found.ensures.survives.clean c.cut_found.ensures.survives.clean
    (λ clean. subst (λ (rows : List Row). Shown find_present (moved_key c.args.child.now) old mid rows) one (c.in_ok-rows.ensures.shown clean)) cuts)
