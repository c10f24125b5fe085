use Rattle.std.proofs.Common.{◌∙◌, ap, sym, [], ◌∷◌, ◌++◌, append_assoc}
use Rattle.adm_table.proofs.table.push_copies.Goals as goal

pub loop-row-preserved : goal.loop-row-preserved
loop-row-preserved g c =
    let copies = c.loop-row.copies.items in
    let rest = c.next.new.self in
    ap (λ items. items ++ rest) c.in_ok-push.ensures.items
    ∙ append_assoc copies (c.in_ok-clone.field-0 ∷ []) rest
    ∙ ap (λ v. copies ++ (v ∷ rest)) (g.met.V.Exact.clones_are_equal _ _ c.in_ok-clone.ensures.cases)
    ∙ ap (λ values. copies ++ values) (sym c.in-Some.ensures.steps)
    ∙ c.loop-row.invariant
