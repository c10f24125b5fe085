use Rattle.std.proofs.lemmas.Result.{err_from_is_err_and}
use Rattle.adm_rows.specs.Forms.{days_text}
use Rattle.adm_rows.proofs.CauseLemmas.{bad_rows}
use Rattle.adm_rows.proofs.SeasonRows.{has_season_columns}
use Rattle.adm_rows.proofs.reading.season.season_in.Goals as goal

pub returns-in_err-columns-clause-bad : goal.returns-in_err-columns-clause-bad
returns-in_err-columns-clause-bad c =
    let p = err_from_is_err_and c.from_residual-in_err-columns.result c.from_residual-in_err-columns.ensures.1 in
    rw (p.1, p.2) (λ structural v season draws formed few is.
    c.in_err-columns.ensures.bad (bad_rows _ structural) season.phase season.year draws (days_text season.holidays)
    (has_season_columns v c.in_ok-version.version c.in_ok-version.size c.args.row.now season draws formed few c.in_ok-version.ensures.ok is))
