use Rattle.std.proofs.Common.{◌∙◌, ap}
use Rattle.adm_view.specs.Children.{child_data}
use Rattle.adm_view.proofs.Walks.{one_more}
use Rattle.adm_view.proofs.children.each_child.Goals as goal

pub child-requires-clause-waits : goal.child-requires-clause-waits
child-requires-clause-waits c = record { each = λ school there waiting. c.requires.waits.each school there }

pub loop-index-preserved : goal.loop-index-preserved
loop-index-preserved c =
    let form = child_data c.args.register.now in
    one_more form c.args.children.now c.loop-index.index c.index-children-index.result c.loop-index.made.items c.push.new.self.items c.in_ok-child.field-0
    c.index-children-index.is c.loop-index-test.true c.loop-index.invariant (c.in_ok-child.ensures ∙ ap form c.as_ref.ensures) c.in_ok-push.ensures.items
