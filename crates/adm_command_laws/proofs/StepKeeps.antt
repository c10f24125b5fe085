-- An accepted command of a well-formed register leaves a well-formed register.
use Rattle.std.proofs.Common.{sym, subst}
use Rattle.adm_round.specs.Outcomes.{AllotmentFits}
use Rattle.adm_register.specs.WellFormed.{WellFormed}
use Rattle.adm_register.proofs.Fits.{after-keeps}
use Rattle.adm_command_laws.specs.Steps.{StepKeeps}
use Rattle.adm_commands.proofs.EachCommand.{shows}

pub step_keeps_lem : AllotmentFits → StepKeeps
step_keeps_lem law old new command kept well step =
    let effect = step.1.1 in
    let fits = (shows command).fits old kept well law step.1.0 effect.0 step.0 effect.1 in
    subst WellFormed (sym effect.2) (after-keeps old effect.0 well fits)
