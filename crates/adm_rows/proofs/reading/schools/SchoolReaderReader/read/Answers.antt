use Rattle.std.proofs.lemmas.Result.{err_from_is_err_and}
use Rattle.adm_rows.specs.Forms.{criteria_text}
use Rattle.adm_rows.proofs.SchoolRows.{has_school_columns}
use Rattle.adm_rows.proofs.reading.schools.SchoolReaderReader.read.Goals as goal

pub returns-in_err-columns-clause-bad : goal.returns-in_err-columns-clause-bad
returns-in_err-columns-clause-bad c =
    let p = err_from_is_err_and c.from_residual.result c.from_residual.ensures.1 in
    rw (p.1, p.2) (λ structural school fits is.
    c.in_err-columns.ensures.bad structural school.code school.name (criteria_text school.criteria) school.pan school.at.east school.at.north
    (has_school_columns c.args.row.now school fits is))
