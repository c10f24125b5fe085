use Rattle.std.proofs.Common.{◌≡◌, map, take}
use Rattle.adm_store.proofs.to_rows.to_rows.Given as goal

-- the rows so far
abbrev pub invariant-values : goal.invariant-values
invariant-values g l = map g.T.ToRow.columns l.rows.items ≡ map g.T.ToRow.row_of (take l.value-index l.values)
