use Rattle.std.proofs.Common.{◌≡◌, ◌∙◌, List, [], ◌∷◌, length, sym, ap, subst}
use Rattle.std.proofs.lemmas.Bool.{eqb-true}
use Rattle.std.proofs.lemmas.List.{nil_from_length}
use Rattle.sqlite.specs.Held.{state}
use Rattle.sqlite.specs.Order.{Row}
use Rattle.sqlite.specs.State.{Shown}
use Rattle.adm_schema.specs.RowTexts.{find_school}
use Rattle.adm_store.specs.Schools.{code_row}
use Rattle.adm_store.proofs.MigrationLemmas.{later_ok}
use Rattle.adm_store.proofs.SchoolLemmas.{replaces_school_row}
use Rattle.adm_store.proofs.schools.replace_school.Goals as goal

pub returns-in-Some-clause-writes : goal.returns-in-Some-clause-writes
returns-in-Some-clause-writes g c =
    let old = state g.S.Store c.args.tx.now.conn.now in
    let mid = state g.S.Store c.found.new.tx.conn.now in
    let shown = c.in-Some.shown.now in
    let others : c.in-Some.others.now ≡ [] = nil_from_length c.in-Some.others.now (eqb-true (length c.in-Some.others.now) 0 (sym c.is_empty.ensures ∙ c.if-is_empty.true)) in
    let one : c.in_ok-rows.rows.items ≡ shown ∷ [] = sym c.as_slice.ensures.value ∙ c.in-Some.ensures.cases.0 ∙ ap (λ more. shown ∷ more) others in
    later_ok c.write_found.result _ _ _ c.write_found.ensures.runs (λ writes.
    replaces_school_row old mid (state g.S.Store c.write_found.new.tx.conn.now) c.args.row.now shown c.found.ensures.survives.clean c.write_found.ensures.survives.clean
    (λ clean. subst (λ (rows : List Row). Shown find_school (code_row c.args.row.now.code) old mid rows) one (c.in_ok-rows.ensures.shown clean)) writes)
