use Rattle.std.proofs.Common.{◌∙◌}
use Rattle.adm_match.proofs.Coded.{answer_as, children_twice}
use Rattle.adm_match.proofs.faults.repeats_child.Goals as goal

pub returns : goal.returns
returns c = answer_as c.has_repeat.result _ _ (children_twice c.args.entrants.now c.deref.result.now (c.deref.ensures.value ∙ c.in_ok-children.ensures)) c.has_repeat.ensures
