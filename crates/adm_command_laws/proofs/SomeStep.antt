-- Each command has a result on each well-formed register.
use Rattle.std.proofs.Common.{◌≡◌, refl, Option, None, Some, Ok, Err}
use Rattle.std.specs.Prelude.{Result}
use Rattle.adm_types.specs.declared.commands.Reply.{Reply}
use Rattle.adm_round.specs.Outcomes.{AllotmentFits}
use Rattle.adm_register.specs.State.{State}
use Rattle.adm_register.specs.Change.{after}
use Rattle.adm_register.specs.WellFormed.{WellFormed}
use Rattle.adm_register.proofs.Fits.{after-keeps}
use Rattle.adm_commands.specs.declared.command_result.RowRefusal.{RowRefusal}
use Rattle.adm_commands.specs.Commands.{refused, KeptByTypes}
use Rattle.adm_commands.specs.Steps.{Step}
use Rattle.adm_command_laws.specs.Steps.{SomeStep}
use Rattle.adm_commands.proofs.EachCommand.{shows}
use Rattle.adm_commands.proofs.Shows.{Laws}

pub some_step_lem : Laws → AllotmentFits → SomeStep
some_step_lem laws law old command well = by (refused old command) refl
  where
    by : (why : Option RowRefusal) → refused old command ≡ why
        → (answer : Result Reply RowRefusal) × (new : State) × Step old command answer new × (KeptByTypes command → WellFormed new)
    by None accepted =
        let made = (shows command).some laws old well accepted in (
          Ok made.1,
          after old made.0,
          (accepted, (made.0, made.2, refl)),
          λ kept. after-keeps old made.0 well ((shows command).fits old kept well law accepted made.0 made.1 made.2),
        )
    by (Some why) is = (Err why, old, (is, refl), λ kept. well)
