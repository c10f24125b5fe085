use Rattle.std.proofs.Common.{rules}
use Rattle.adm_rows.proofs.RowLemmas.{columns_are}
use Rattle.adm_rows.proofs.reading.schools.school_columns.Goals as goal

pub returns-clause-ok : goal.returns-clause-ok
returns-clause-ok c = columns_are c.args.row.now _ (search rules) (
  c.in_ok-code.ensures.ok,
  (c.in_ok-name.ensures.ok, (c.in_ok-pan.ensures.ok, (c.in_ok-east.ensures.ok, (c.in_ok-north.ensures.ok, (c.in_ok-criteria.ensures.ok, tt))))),
)
