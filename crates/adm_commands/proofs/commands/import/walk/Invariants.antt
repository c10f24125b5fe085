use Rattle.std.proofs.Common.{◌≡◌, ◌+◌, ◌++◌, length}
use Rattle.std.specs.List.{AllByRecursion}
use Rattle.adm_commands.specs.KeptByTypes.{KeptByImportRow}
use Rattle.adm_commands.proofs.ImportWalked.{IsWalkedTo}
use Rattle.adm_commands.proofs.commands.import.walk.Given as goal

-- the rows so far keep what their types do, and were gone through up to the first that was refused
abbrev pub invariant-loop-row : goal.invariant-loop-row
invariant-loop-row l = record {
  split : l.yielded ++ l.row-iterator.rest.items ≡ l.fn.rows;
  kept : AllByRecursion KeptByImportRow l.yielded;
  number : l.number ≡ length l.yielded + 1;
  walked : IsWalkedTo l.walked l.old l.fn.rows l.added.entries l.number l.row-iterator.rest.items;
}
