use Rattle.adm_command_laws.proofs.SomeStep.{some_step_lem}
use Rattle.adm_command_laws.proofs.laws.some_step.Goals as goal

pub returns : goal.returns
returns c = some_step_lem (record { some_best = c.one_best.ensures; faultless = c.posed_without_fault.ensures; some_first = c.one_is_first.ensures }) c.allotment_fits.ensures
