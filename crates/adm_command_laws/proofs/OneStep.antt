-- A command has at most one result.
use Rattle.std.proofs.Common.{◌∙◌, ap, sym, Ok, Err}
use Rattle.std.proofs.lemmas.Option.{none-some, same_Some}
use Rattle.adm_round.specs.Outcomes.{OneAllotment}
use Rattle.adm_register.specs.Change.{after}
use Rattle.adm_command_laws.specs.Steps.{OneStep}
use Rattle.adm_commands.proofs.EachCommand.{shows}

pub one_step_lem : OneAllotment → OneStep
one_step_lem law old a b command (Ok reply) (Ok second) x y =
    let one = x.1 in
    let other = y.1 in
    let change = (shows command).one_change law old one.0 other.0 reply second one.1 other.1 in
    let answer = (shows command).one_reply law old one.0 other.0 reply second one.1 other.1 in
    (ap Ok answer, one.2 ∙ ap (after old) change ∙ sym other.2)
one_step_lem law old a b command (Ok reply) (Err refusal) x y = absurd (none-some refusal (sym x.0 ∙ y.0))
one_step_lem law old a b command (Err refusal) (Ok reply) x y = absurd (none-some refusal (sym y.0 ∙ x.0))
one_step_lem law old a b command (Err refusal) (Err second) x y = (ap Err (same_Some refusal second (sym x.0 ∙ y.0)), x.1 ∙ sym y.1)
