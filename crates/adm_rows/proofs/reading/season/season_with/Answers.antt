use Rattle.std.proofs.Common.{◌≡◌, true, false, length, ap, arith, sym, ◌∙◌}
use Rattle.std.proofs.lemmas.Result.{err_from_is_err_and}
use Rattle.adm_rows.specs.Forms.{days_of}
use Rattle.adm_rows.proofs.SeasonRows.{days_read, no_days_read, text_again}
use Rattle.adm_rows.proofs.reading.season.season_with.Goals as goal

pub returns-in_err-days-clause-bad : goal.returns-in_err-days-clause-bad
returns-in_err-days-clause-bad c =
    let p = err_from_is_err_and c.from_residual.result c.from_residual.ensures.1 in
    rw (p.1, p.2) (λ structural season formed year is. no_days_read c.deref.result.now season formed (c.deref.ensures ∙ is) (c.in_err-days.ensures.bad structural))

pub returns-in_err-season-clause-bad : goal.returns-in_err-season-clause-bad
returns-in_err-season-clause-bad c =
    let p = err_from_is_err_and c.from_residual-in_err-season.result c.from_residual-in_err-season.ensures.1 in
    rw (p.1, p.2) (λ structural season formed year is.
    let days = c.as_slice.ensures.value ∙ days_read c.deref.result.now c.in_ok-days.days.items season formed (c.deref.ensures ∙ is) c.in_ok-days.ensures.ok in
    c.in_err-season.ensures.bad structural (omega (arith, year, formed.year.0)) (omega (arith, year, formed.year.1)) (omega (arith, ap length days, formed.few)))

pub returns-clause-bad : goal.returns-clause-bad
returns-clause-bad c structural season formed year is =
    let there = ap days_of (c.deref-2.ensures ∙ sym c.deref.ensures) ∙ c.in_ok-days.ensures.ok in
    let again = text_again c.deref-2.result.now c.in_ok-days.days.items c.holidays.result.now c.in_ok-season.season season formed c.holidays.ensures.season (c.deref-2.ensures ∙ is) there
    (rw c.as_slice.ensures.value at c.in_ok-season.ensures.ok.2) c.holidays.ensures.value in
    let same = c.in_ok-same.ensures.ok.1 again in
    let wrong : true ≡ false = sym same ∙ c.if-same.false in
    cc
