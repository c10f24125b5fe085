use Rattle.std.proofs.Common.{◌≤◌}
use Rattle.adm_csv.specs.Remaining.{IsPlain, remaining_of}
use Rattle.adm_csv.specs.Rows.{most_rows}
use Rattle.adm_csv.proofs.RowLemmas.{HasRows}
use Rattle.adm_csv.proofs.rows.rows_from.Given as goal

abbrev pub invariant-loop-record : goal.invariant-loop-record
invariant-loop-record l =
    IsPlain l.record-iterator × (l.number ≤ most_rows) × HasRows l.fn.width (remaining_of l.fn.records) l.number (remaining_of l.record-iterator) l.rows.items
