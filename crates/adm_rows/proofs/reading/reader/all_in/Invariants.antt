use Rattle.std.proofs.Common.{◌≡◌, map, take}
use Rattle.std.specs.List.{AllByRecursion}
use Rattle.adm_rows.proofs.reading.reader.all_in.Given as goal

-- the values of the rows so far
abbrev pub invariant-rows : goal.invariant-rows
invariant-rows g l = record {
  read : map g.R.Reader.row_of l.all.items ≡ take l.row-index l.rows;
  again : AllByRecursion g.R.Reader.IsRead l.all.items;
}
