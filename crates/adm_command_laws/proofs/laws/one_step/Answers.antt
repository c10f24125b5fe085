use Rattle.adm_command_laws.proofs.OneStep.{one_step_lem}
use Rattle.adm_command_laws.proofs.laws.one_step.Goals as goal

pub returns : goal.returns
returns c = one_step_lem c.one_allotment.ensures
