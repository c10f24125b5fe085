use Rattle.adm_fairness.proofs.LookedAfter.{looked_after_first_law}
use Rattle.adm_fairness.proofs.code.looked_after_first.Goals as goal

pub returns : goal.returns
returns c = looked_after_first_law c.round_is_fair.ensures
