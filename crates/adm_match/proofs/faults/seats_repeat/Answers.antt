use Rattle.std.proofs.Common.{◌∙◌}
use Rattle.adm_match.proofs.Coded.{answer_as, codes_twice}
use Rattle.adm_match.proofs.faults.seats_repeat.Goals as goal

pub returns : goal.returns
returns c = answer_as c.has_repeat.result _ _ (codes_twice c.args.seats.now c.deref.result.now (c.deref.ensures.value ∙ c.in_ok-codes.ensures)) c.has_repeat.ensures
