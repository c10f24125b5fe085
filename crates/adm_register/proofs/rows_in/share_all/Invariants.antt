use Rattle.std.proofs.Common.{◌≡◌, ◌++◌}
use Rattle.adm_register.proofs.rows_in.share_all.Given as goal

-- the rows so far, and then what remains, are the rows
abbrev pub invariant-loop-row : goal.invariant-loop-row
invariant-loop-row g l = l.shared.items ++ l.row-iterator.rest.items ≡ l.fn.rows.items
