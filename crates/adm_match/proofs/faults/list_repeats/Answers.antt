use Rattle.std.proofs.Common.{◌∙◌}
use Rattle.adm_match.proofs.Coded.{answer_as, schools_twice}
use Rattle.adm_match.proofs.faults.list_repeats.Goals as goal

pub returns : goal.returns
returns c = answer_as c.has_repeat.result _ _ (schools_twice c.args.list.now c.deref.result.now (c.deref.ensures.value ∙ c.in_ok-schools.ensures)) c.has_repeat.ensures
