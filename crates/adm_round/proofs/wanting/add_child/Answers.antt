use Rattle.std.proofs.Common.{List, ℕ, ◌++◌, ◌∷◌, [], ◌∙◌, ap}
use Rattle.adm_round.proofs.Wants.{items_of, taken_out, child_added}
use Rattle.adm_round.proofs.wanting.add_child.Goals as goal

pub returns : goal.returns
returns c =
    child_added c.args.wanting.now c.remove.new.self c.insert.new.self c.args.school c.args.child c.push.new.self c.remove.ensures.updates c.in_ok-insert.ensures.updates
    (c.in_ok-push.ensures.items
    ∙ ap (λ (xs : List ℕ). xs ++ c.args.child ∷ [])
    (ap (λ v. v.items) c.unwrap_or-children.ensures ∙ taken_out c.remove.result c.new.result c.new.ensures.items ∙ ap items_of c.remove.ensures.value))
