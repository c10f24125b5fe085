use Rattle.std.proofs.Common.{◌≡◌, ◌++◌, map, take, drop}
use Rattle.adm_register.specs.Tallies.{with_application}
use Rattle.adm_register.proofs.tables.Tables.count.Given as goal

-- the tallies before the index have the child, and the others are as they were
abbrev pub invariant-loop-index : goal.invariant-loop-index
invariant-loop-index l = l.tallies ≡ map (with_application l.self l.application) (take l.index l.fn.tallies) ++ drop l.index l.fn.tallies
