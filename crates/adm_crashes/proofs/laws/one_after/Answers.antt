use Rattle.adm_crashes.proofs.CommandLemmas.{one_after_lem}
use Rattle.adm_crashes.proofs.laws.one_after.Goals as goal

pub returns : goal.returns
returns c = one_after_lem c.one_step.ensures
