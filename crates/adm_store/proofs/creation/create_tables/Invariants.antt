use Rattle.std.proofs.Common.{◌≡◌, IsTrue}
use Rattle.sqlite.specs.Held.{state}
use Rattle.sqlite.specs.State.{HasCleanDisk, Survives}
use Rattle.adm_schema.specs.Effects.{SeesNoRows}
use Rattle.adm_schema.specs.Schema.{no_schema}
use Rattle.adm_schema.specs.Creations.{schema_after}
use Rattle.adm_store.proofs.creation.create_tables.Given as goal

-- so many tables are made
abbrev pub invariant-tables : goal.invariant-tables
invariant-tables g l = record {
  same_reference : l.tx.conn.ghost_name ≡ l.fn.tx.conn.ghost_name;
  made : HasCleanDisk (state g.S.Store l.tx.conn.now) → (IsTrue (state g.S.Store l.fn.tx.conn.now).is_open → SeesNoRows no_schema (state g.S.Store l.fn.tx.conn.now))
      → IsTrue (state g.S.Store l.tx.conn.now).is_open → SeesNoRows (schema_after l.at) (state g.S.Store l.tx.conn.now);
  survives : Survives (state g.S.Store l.fn.tx.conn.now) (state g.S.Store l.tx.conn.now) (λ _. ⊥);
}
