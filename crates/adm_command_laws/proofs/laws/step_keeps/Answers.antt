use Rattle.adm_command_laws.proofs.StepKeeps.{step_keeps_lem}
use Rattle.adm_command_laws.proofs.laws.step_keeps.Goals as goal

pub returns : goal.returns
returns c = step_keeps_lem c.allotment_fits.ensures
