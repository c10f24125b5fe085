use Rattle.std.proofs.Common.{◌≡◌, drop}
use Rattle.adm_table.specs.TableRows.{row_at, put_at}
use Rattle.adm_table.proofs.table.put_all.Given as goal

-- with the rows that remain put too, the rows are those after all are put
abbrev pub invariant-loop-row : goal.invariant-loop-row
invariant-loop-row g l = (q : g.row.K.Denot) → put_at g.K.Ord.cmp g.V.Keyed.key (drop l.row-index l.put) q
    (row_at g.K.Ord.cmp l.all q) ≡ put_at g.K.Ord.cmp g.V.Keyed.key l.put q (row_at g.K.Ord.cmp l.fn.rows q)
