use Rattle.std.proofs.Common.{◌-◌, sym, arith}
use Rattle.adm_types.specs.Numbers.{last_day}
use Rattle.adm_types.specs.Seasons.{national_day_of, is_working_day}
use Rattle.adm_view.specs.Season.{offer_day_of}
use Rattle.adm_days.proofs.Dates.{first_is}
use Rattle.adm_view.proofs.season.offer_day.Goals as goal

pub returns : goal.returns
unfolding offer_day_of
returns c =
    let season = c.args.season.now in
    let first = national_day_of season.phase season.year in
    let is = c.offer_day-day.ensures in
    sym (first_is (is_working_day season.holidays) (last_day - first) first c.offer_day-day.result is.not_before (omega (arith, c.number-number.ensures.in_range)) is.working is.first)
