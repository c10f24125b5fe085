use Rattle.std.proofs.Common.{◌≡◌, ◌++◌}
use Rattle.std.specs.Map.{values_of}
use Rattle.adm_table.proofs.table.push_copies.Given as goal

-- the copies so far, and then what remains, are those that were there and the values
abbrev pub invariant-loop-row : goal.invariant-loop-row
invariant-loop-row g l = l.copies.items ++ l.row-iterator ≡ l.fn.copies.items ++ values_of l.rows.entries
