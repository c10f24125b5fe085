use Rattle.adm_types.proofs.Calendar.{epoch_day_range, epoch_day_upper}
use Rattle.std.proofs.Common.{arith}
use Rattle.std.proofs.lemmas.Int.{ints}
use Rattle.adm_types.proofs.seasons.day_of.Goals as goal

pub on-requires : goal.on-requires
on-requires c =
    let year = c.in-Ok.ensures.value.0 in
    let inside = c.requires.year in
    epoch_day_range c.in-Ok.date (omega (arith, ints, year, inside)) (omega (arith, ints, year, inside))

pub returns-clause-upper : goal.returns-clause-upper
returns-clause-upper c =
    let year = c.in-Ok.ensures.value.0 in
    let inside = c.requires.year in
    let upper = epoch_day_upper c.in-Ok.date (omega (arith, ints, year, inside)) in
    omega (arith, ints, upper, c.on.ensures)
