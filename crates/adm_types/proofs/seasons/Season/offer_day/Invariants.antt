use Rattle.std.proofs.Common.{◌≡◌, ◌+◌, ◌≤◌, ◌<◌, ℕ, false}
use Rattle.adm_types.specs.Seasons.{national_day_of, is_working_day}
use Rattle.adm_types.proofs.WorkingDays.{wait_left}
use Rattle.adm_types.proofs.seasons.Season.offer_day.Given as goal

-- no working day has passed, and the next is near
abbrev pub invariant-loop-day : goal.invariant-loop-day
invariant-loop-day l = record {
  from : national_day_of l.self.phase l.self.year ≤ l.day;
  passed : (earlier : ℕ) → national_day_of l.self.phase l.self.year ≤ earlier → earlier < l.day → is_working_day l.self.holidays earlier ≡ false;
  near : l.day + wait_left l.self.holidays l.day ≤ 48122;
}

abbrev pub decreases-loop-day : goal.decreases-loop-day
decreases-loop-day l = wait_left l.self.holidays l.day
