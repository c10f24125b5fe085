-- What rounds leave stays: draws are kept, and the draw of a round is recorded.
use Rattle.std.proofs.Common.{◌∙◌, ap}
use Rattle.std.specs.Cmp.{nat_cmp_total}
use Rattle.std.specs.FinMap.{get}
use Rattle.adm_register.specs.Change.{after}
use Rattle.adm_commands.specs.Commands.Round as round
use Rattle.adm_commands.specs.History.{recorded_draw}
use Rattle.adm_command_laws.specs.History.{DrawsKept, RoundIsRecorded}
use Rattle.adm_commands.proofs.EachCommand.{shows}
use Rattle.adm_commands.proofs.PutAgain.{get-insert_same}

pub draws_kept_lem : DrawsKept
draws_kept_lem old new command ordered step =
    let effect = step.1.1 in
    (shows command).draws old new effect.0 step.0 ordered step.1.0 effect.1 effect.2

pub round_is_recorded_lem : RoundIsRecorded
unfolding round.change_of
round_is_recorded_lem old new draw day numbers step =
    let effect = step.1.1 in
    let held = effect.1 in
    (held.0, held.1, ap (λ s. get s.draws draw) (effect.2 ∙ ap (after old) held.2) ∙ get-insert_same nat_cmp_total old.draws draw (recorded_draw old draw day numbers held.0))
