use Rattle.std.proofs.lemmas.Result.{err_from_is_err_and}
use Rattle.adm_desk.proofs.desk.Desk.open.Goals as goal

pub returns-in_err-store-clause-bad : goal.returns-in_err-store-clause-bad
returns-in_err-store-clause-bad g c =
    let p = err_from_is_err_and c.from_residual.result c.from_residual.ensures.1 in
    rw (p.1, p.2) c.in_err-store.ensures.bad

pub returns-in_err-store-clause-disk : goal.returns-in_err-store-clause-disk
returns-in_err-store-clause-disk g c =
    let p = err_from_is_err_and c.from_residual.result c.from_residual.ensures.1 in
    rw (p.1, p.2) c.in_err-store.ensures.disk
