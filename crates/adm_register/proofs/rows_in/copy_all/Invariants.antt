use Rattle.std.proofs.Common.{◌≡◌, take}
use Rattle.adm_register.proofs.rows_in.copy_all.Given as goal

-- the copies so far are the first rows
abbrev pub invariant-loop-row : goal.invariant-loop-row
invariant-loop-row g l = l.copies.items ≡ take l.row-index l.rows
