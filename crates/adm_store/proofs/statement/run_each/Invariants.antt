use Rattle.std.proofs.Common.{◌≡◌, [], ◌∷◌, take}
use Rattle.sqlite.specs.Held.{state}
use Rattle.sqlite.specs.State.{Survives}
use Rattle.adm_store.specs.Writes.{write_of, Writes}
use Rattle.adm_store.proofs.statement.run_each.Given as goal

-- what the items so far write
abbrev pub invariant-items : goal.invariant-items
invariant-items g l = record {
  same_reference : l.tx.conn.ghost_name ≡ l.fn.tx.conn.ghost_name;
  writes : Writes (write_of g.W.Statement.kind g.W.Statement.table g.W.Statement.row_of (take l.item-index l.items) ∷ []) (state g.S.Store l.fn.tx.conn.now) (state g.S.Store l.tx.conn.now);
  survives : Survives (state g.S.Store l.fn.tx.conn.now) (state g.S.Store l.tx.conn.now) (λ _. ⊥);
}
