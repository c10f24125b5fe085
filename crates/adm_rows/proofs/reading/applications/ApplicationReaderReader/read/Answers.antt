use Rattle.std.proofs.lemmas.Result.{err_from_is_err_and}
use Rattle.adm_fields.specs.Records.{application_values}
use Rattle.adm_rows.proofs.reading.applications.ApplicationReaderReader.read.Goals as goal

pub returns-in_err-values-clause-bad : goal.returns-in_err-values-clause-bad
returns-in_err-values-clause-bad c =
    let p = err_from_is_err_and c.from_residual.result c.from_residual.ensures.1 in
    rw (p.1, p.2) (λ structural x fit is. c.in_err-values.ensures.bad structural (application_values x) (fit.number_form, (fit.day, (fit.codes, tt))) is)
