use Rattle.std.proofs.lemmas.Result.{err_from_is_err_and}
use Rattle.adm_rows.proofs.CodeLemmas.{both_utf8}
use Rattle.adm_rows.proofs.RowLemmas.{unread}
use Rattle.adm_rows.proofs.reading.codes.two_lists_at.Goals as goal

pub returns-in_err-text-clause-bad : goal.returns-in_err-text-clause-bad
returns-in_err-text-clause-bad c =
    let p = err_from_is_err_and c.from_residual.result c.from_residual.ensures.1 in
    rw (p.1, p.2) (λ structural lists fit is. unread _ _ structural c.in_err-text.ensures.bad (_, is, both_utf8 lists fit.0 fit.1))
