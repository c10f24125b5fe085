use Rattle.std.proofs.Common.{◌≡◌, true, false, sym, ◌∙◌}
use Rattle.std.proofs.lemmas.Result.{err_from_is_err_and}
use Rattle.adm_rows.proofs.SchoolRows.{no_criteria_read, criteria_text_again}
use Rattle.adm_rows.proofs.reading.schools.criteria_in.Goals as goal

pub returns-in_err-criteria-clause-bad : goal.returns-in_err-criteria-clause-bad
returns-in_err-criteria-clause-bad c =
    let p = err_from_is_err_and c.from_residual.result c.from_residual.ensures.1 in
    rw (p.1, p.2) (λ structural criteria fit is. no_criteria_read c.args.text.now criteria fit is (c.in_err-criteria.ensures.bad structural))

pub returns-else-same-clause-bad : goal.returns-else-same-clause-bad
returns-else-same-clause-bad c structural criteria fit is =
    let again = criteria_text_again c.args.text.now c.in_ok-criteria.criteria.items c.as_slice.result.now criteria fit is c.in_ok-criteria.ensures.ok c.as_slice.ensures.value in
    let same = c.in_ok-same.ensures.ok.1 again in
    let wrong : true ≡ false = sym same ∙ c.if-same.false in
    cc
