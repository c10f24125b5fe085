use Rattle.std.proofs.lemmas.Result.{err_from_is_err_and}
use Rattle.adm_rows.proofs.DrawRows.{readable}
use Rattle.adm_rows.proofs.RowLemmas.{unread}
use Rattle.adm_rows.proofs.reading.codes.code_or_null_at.Goals as goal

pub returns-in_err-value-clause-bad : goal.returns-in_err-value-clause-bad
returns-in_err-value-clause-bad c =
    let p = err_from_is_err_and c.from_residual.result c.from_residual.ensures.1 in
    rw (p.1, p.2) (λ structural school form is. unread _ _ structural c.in_err-value.ensures.bad (readable _ school form is))
