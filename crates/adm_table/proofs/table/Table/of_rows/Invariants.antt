use Rattle.std.proofs.Common.{◌≡◌, ◌++◌, map}
use Rattle.std.specs.Map.{keys_of, values_of}
use Rattle.std.specs.List.Sorted.{IsPermutation, IsStrictlySortedBy}
use Rattle.adm_table.proofs.table.Table.of_rows.Given as goal

-- the table has the rows so far, each at its own key
abbrev pub invariant-loop-row : goal.invariant-loop-row
invariant-loop-row g l = record {
  split : l.yielded ++ l.row-iterator.rest.items ≡ l.fn.rows.items;
  permuted : IsPermutation l.yielded (values_of l.all);
  keyed : map g.V.Keyed.key (values_of l.all) ≡ keys_of l.all;
  ordered : IsStrictlySortedBy g.K.Ord.cmp (keys_of l.all);
}
