use Rattle.std.proofs.Common.{◌≡◌, length}
use Rattle.sqlite.specs.Held.{state}
use Rattle.adm_store.proofs.LoopWrites.{SoFar}
use Rattle.adm_store.proofs.statement.run_all.Given as goal

-- what the items before the rest write
abbrev pub invariant-eights : goal.invariant-eights
invariant-eights g l = record {
  same_reference : l.tx.conn.ghost_name ≡ l.fn.tx.conn.ghost_name;
  so_far : SoFar g.W.Statement.kind g.W.Statement.table g.W.Statement.row_of l.items l.rest (state g.S.Store l.fn.tx.conn.now) (state g.S.Store l.tx.conn.now);
}

abbrev pub decreases-eights : goal.decreases-eights
decreases-eights g l = length l.rest
