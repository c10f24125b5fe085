use Rattle.std.proofs.Common.{take}
use Rattle.std.specs.List.Sorted.{IsPermutation}
use Rattle.adm_rows.specs.Joins.{left_rows}
use Rattle.adm_rows.proofs.reading.joined.by_child.Given as goal

-- the rows so far are those that remain
abbrev pub invariant-loop-row : goal.invariant-loop-row
invariant-loop-row l = IsPermutation (take l.row-index l.rows) (left_rows l.left)
