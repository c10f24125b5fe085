-- Which lots pose a problem of the next round on a register (the order of the tests is this profile's).
use Rattle.std.specs.Prelude.{◌≡◌, ℕ, List, Option, None, Some, if◌then◌else◌}
use Rattle.adm_register.specs.State.{State}
use Rattle.adm_commands.specs.Commands.Round.{is_lot_count, are_lots_apart}
use Rattle.adm_commands.specs.declared.problems.DrawFault.{DrawFault}
use Rattle.adm_commands.specs.declared.problems.DrawFault.TheVariants.{LotCount, LotsRepeated}

-- the first of a round's two tests of its lots that fails
abbrev pub lots_fault : State → List ℕ → Option DrawFault
lots_fault s numbers =
    if is_lot_count s numbers then (if are_lots_apart s numbers then None else Some LotsRepeated)
    else Some LotCount
