use Rattle.std.proofs.lemmas.Result.{err_from_is_err_and}
use Rattle.adm_fields.specs.Records.{import_values}
use Rattle.adm_rows.proofs.ChildRows.{home_fit}
use Rattle.adm_rows.proofs.reading.imported.ImportedReaderReader.read.Goals as goal

pub returns-in_err-values-clause-bad : goal.returns-in_err-values-clause-bad
returns-in_err-values-clause-bad c =
    let p = err_from_is_err_and c.from_residual.result c.from_residual.ensures.1 in
    rw (p.1, p.2) (λ structural x fit is. c.in_err-values.ensures.bad structural (import_values x) (home_fit x.child fit.child (fit.application.day, (fit.application.codes, tt))) is)
