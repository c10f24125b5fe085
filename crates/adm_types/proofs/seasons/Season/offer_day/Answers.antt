use Rattle.std.proofs.Common.{◌≡◌, ◌≤◌, ap, sym, subst, false, arith, length}
use mathlib.Core.Logic.{⊎_elim}
use Rattle.std.proofs.lemmas.Bool.{cases_lt}
use Rattle.adm_types.specs.Seasons.{is_working_day}
use Rattle.adm_types.proofs.WorkingDays.{wait_left, wait_left-first, wait_left-falls}
use Rattle.adm_types.proofs.seasons.Season.offer_day.Goals as goal

pub loop-day-init : goal.loop-day-init
loop-day-init c =
    let value = c.national_day-day.ensures.value in
    let upper = c.national_day-day.ensures.upper in
    let few : length c.args.self.now.holidays ≤ 40 = subst (λ s. length s.holidays ≤ 40) c.self.view_is c.self.invariant.few in
    let wait = wait_left-first c.args.self.now.holidays c.national_day-day.result few in
    record { from = omega (arith, value); passed = λ earlier from before. absurd (omega (arith, value, from, before)); near = omega (arith, upper, wait) }

pub loop-day-smaller : goal.loop-day-smaller
loop-day-smaller c =
    let falls = wait_left-falls c.args.self.now.holidays c.loop-day.day (sym c.loop-day-test.ensures) in
    let next = ap (wait_left c.args.self.now.holidays) c.next-day.ensures in
    omega (arith, falls, next)

pub loop-day-preserved : goal.loop-day-preserved
loop-day-preserved c =
    let falls = wait_left-falls c.args.self.now.holidays c.loop-day.day (sym c.loop-day-test.ensures) in
    let next = ap (wait_left c.args.self.now.holidays) c.next-day.ensures in
    let inside = c.loop-day.invariant in
    record {
      from = omega (arith, c.next-day.ensures, inside.from);
      passed = λ earlier from before. ⊎_elim (λ less. inside.passed earlier from less)
          (λ most. let is : c.loop-day.day ≡ earlier = omega (arith, c.next-day.ensures, before, most) in
          subst (λ d. is_working_day c.args.self.now.holidays d ≡ false) is (sym c.loop-day-test.ensures)) (cases_lt earlier c.loop-day.day);
      near = omega (arith, falls, next, c.next-day.ensures, inside.near);
    }
