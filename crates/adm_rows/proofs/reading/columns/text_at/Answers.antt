use Rattle.std.proofs.lemmas.Result.{err_from_is_err_and}
use Rattle.std.proofs.lemmas.Str.{IsUtf8-from_is_utf8}
use Rattle.adm_rows.proofs.RowLemmas.{unread}
use Rattle.adm_rows.proofs.reading.columns.text_at.Goals as goal

pub returns-in_err-text-clause-bad : goal.returns-in_err-text-clause-bad
returns-in_err-text-clause-bad c =
    let p = err_from_is_err_and c.from_residual.result c.from_residual.ensures.1 in
    rw (p.1, p.2) (λ structural text form is. unread _ _ structural c.in_err-text.ensures.bad (text, is, IsUtf8-from_is_utf8 text form))
