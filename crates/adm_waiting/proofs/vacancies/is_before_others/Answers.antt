use Rattle.std.proofs.Common.{◌≡◌, ◌∙◌, ◌+◌, sym, ap, refl, get_or, arith}
use Rattle.std.proofs.lemmas.Bool.{and_from, and_right}
use Rattle.adm_types.specs.declared.rows.Child.{Child}
use Rattle.adm_waiting.specs.Ranks.{ranked_child_of, is_before, is_before_others}
use Rattle.adm_waiting.proofs.Lots.{before_more, before_not, whole}
use Rattle.adm_waiting.proofs.vacancies.is_before_others.Goals as goal

pub returns-then-not-is_before : goal.returns-then-not-is_before
returns-then-not-is_before c =
    let lot = get_or c.args.lots.now c.loop-index.index 0 in
    let other : c.ranked_child_of-other.result ≡ ranked_child_of c.args.school.now (c.index-children-index.result, lot) =
    c.ranked_child_of-other.ensures ∙ ap (λ (child : Child). ranked_child_of c.args.school.now (child, lot)) c.as_ref.ensures in
    sym (before_not c.args.school.now c.args.children.now c.args.lots.now (c.loop-index.index + 1) c.args.one.now
    (before_more c.args.school.now c.args.children.now c.args.lots.now c.loop-index.index c.index-children-index.result lot c.args.one.now (omega arith) (omega arith) c.index-children-index.is refl
    ∙ and_right _ _ (ap (is_before c.args.one.now) (sym other) ∙ sym c.is_before.ensures ∙ c.if-not-is_before.true)))

pub loop-index-preserved : goal.loop-index-preserved
loop-index-preserved c =
    let lot = get_or c.args.lots.now c.loop-index.index 0 in
    let other : c.ranked_child_of-other.result ≡ ranked_child_of c.args.school.now (c.index-children-index.result, lot) =
    c.ranked_child_of-other.ensures ∙ ap (λ (child : Child). ranked_child_of c.args.school.now (child, lot)) c.as_ref.ensures in
    before_more c.args.school.now c.args.children.now c.args.lots.now c.loop-index.index c.index-children-index.result lot c.args.one.now (omega arith) (omega arith) c.index-children-index.is refl
    ∙ and_from _ _ c.loop-index.invariant (ap (is_before c.args.one.now) (sym other) ∙ sym c.is_before.ensures ∙ c.if-not-is_before.false)

pub returns : goal.returns
returns c =
    sym c.loop-index.invariant ∙ ap (λ all. is_before_others all c.args.one.now) (whole c.args.school.now c.args.children.now c.args.lots.now c.loop-index.index (omega arith))
