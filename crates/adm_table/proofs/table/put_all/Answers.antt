use Rattle.std.proofs.Common.{◌∙◌, ap, sym, cond, arith, ◌+◌, ◌<◌, ◌∷◌, drop, length, Some}
use Rattle.std.specs.BTreeMap.{is_at}
use Rattle.std.proofs.lemmas.List.{drop_more}
use Rattle.adm_table.specs.TableRows.{row_at, put_at}
use Rattle.adm_table.proofs.table.put_all.Goals as goal

pub loop-row-preserved : goal.loop-row-preserved
loop-row-preserved g c q =
    let R = g.K.Ord.cmp in
    let key = g.V.Keyed.key in
    let put = c.args.put.now in
    let row = c.row-item.result in
    let there = row_at R c.loop-row.all q in
    let rest = drop (c.loop-row.row-index + 1) put in
    let within : c.loop-row.row-index < length put = omega (arith, c.loop-row-test.true) in
    let left = drop_more put c.loop-row.row-index row within ∙ ap (λ first. first ∷ rest) (sym c.row-item.is) in
    let copied = g.met.V.Exact.clones_are_equal _ _ c.in_ok-clone.ensures.cases in
    ap (put_at R key rest q) (c.in_ok-all.ensures.at q ∙ (λ i. cond (is_at (R (c.key.ensures i)) q) (Some (copied i)) there))
    ∙ ap (λ rows. put_at R key rows q there) (sym left) ∙ c.loop-row.invariant q
