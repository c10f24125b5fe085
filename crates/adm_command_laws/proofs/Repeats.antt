-- A command that follows itself at once leaves a register as it was.
use Rattle.std.proofs.Common.{◌∙◌, ap, Ok, Err}
use Rattle.adm_commands.specs.Commands.{refused}
use Rattle.adm_command_laws.specs.Steps.{RepeatSafe}
use Rattle.adm_commands.proofs.EachCommand.{shows}

pub repeat_safe_lem : RepeatSafe
repeat_safe_lem old mid new command (Ok first) (Ok second) well step next =
    let effect = next.1 in
    effect.2 ∙ (shows command).again old mid step.1.0 first well step.0 step.1.1 step.1.2 next.0 effect.0 second effect.1
repeat_safe_lem old mid new command (Ok first) (Err refusal) well step next = next.1
repeat_safe_lem old mid new command (Err refusal) (Err other) well step next = next.1
repeat_safe_lem old mid new command (Err refusal) (Ok second) well step next =
    let stays = ap (λ s. refused s command) step.1 in
    cc (stays, step.0, next.0)
