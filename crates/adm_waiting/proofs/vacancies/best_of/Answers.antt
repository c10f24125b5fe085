use Rattle.std.proofs.Common.{◌≡◌, ◌∙◌, sym, ap, refl, get_or, arith, Some}
use Rattle.adm_types.specs.declared.rows.Child.{Child}
use Rattle.adm_waiting.specs.Ranks.{ranked_child_of, better, best_of}
use Rattle.adm_waiting.proofs.Lots.{best_more, whole}
use Rattle.adm_waiting.proofs.vacancies.best_of.Goals as goal

pub loop-index-preserved : goal.loop-index-preserved
loop-index-preserved c =
    let school = c.args.school.now in
    let child = c.index-children-index.result in
    let lot = get_or c.args.lots.now c.loop-index.index 0 in
    let next : c.ranked_child_of-next.result ≡ ranked_child_of school (child, lot) = c.ranked_child_of-next.ensures ∙ ap (λ (one : Child). ranked_child_of school (one, lot)) c.as_ref.ensures in
    ap Some c.better.ensures ∙ (λ i. Some (better (c.loop-index.invariant i) (next i)))
    ∙ sym (best_more school c.args.children.now c.args.lots.now c.loop-index.index child lot (omega arith) (omega arith) c.index-children-index.is refl)

pub returns : goal.returns
returns c =
    c.loop-index.invariant ∙ ap best_of (whole c.args.school.now c.args.children.now c.args.lots.now c.loop-index.index (omega arith))
