use Rattle.std.proofs.Common.{◌≡◌, drop}
use Rattle.adm_table.specs.TableRows.{row_at, cut_at}
use Rattle.adm_table.proofs.table.cut_all.Given as goal

-- with the keys that remain cut too, the rows are those after the whole cut
abbrev pub invariant-loop-key : goal.invariant-loop-key
invariant-loop-key g l = (q : g.row.K.Denot) → cut_at g.K.Ord.cmp (drop l.key-index l.cut) q (row_at g.K.Ord.cmp l.left q) ≡ cut_at g.K.Ord.cmp l.cut q (row_at g.K.Ord.cmp l.fn.rows q)
