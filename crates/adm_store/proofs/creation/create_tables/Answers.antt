use Rattle.std.proofs.Common.{◌≡◌, ◌∙◌, subst, arith}
use Rattle.sqlite.specs.Held.{state}
use Rattle.sqlite.specs.State.{HasCleanDisk}
use Rattle.adm_schema.specs.Effects.{SeesNoRows}
use Rattle.adm_schema.specs.Creations.{schema_after}
use Rattle.adm_schema.proofs.Inside.{survives_on}
use Rattle.adm_schema.proofs.Creation.{creation_at}
use Rattle.adm_store.proofs.creation.create_tables.Goals as goal

pub tables-preserved : goal.tables-preserved
tables-preserved g c =
    let start = state g.S.Store c.args.tx.now.conn.now in
    let mid = state g.S.Store c.tables.tx.conn.now in
    let now = state g.S.Store c.create_table.new.tx.conn.now in
    record {
      same_reference = c.create_table.ensures.same_reference ∙ c.tables.invariant.same_reference;
      made = λ clean begun live.
          let early : HasCleanDisk mid = omega (arith, c.create_table.ensures.survives.clean) in
          let step = creation_at c.tables.at _ c.creation.ensures in
          c.in_ok-create_table.ensures.made clean _ _ step.0 step.1 (c.tables.invariant.made early begun);
      survives = survives_on start mid now c.tables.invariant.survives c.create_table.ensures.survives;
    }

pub returns-clause-made : goal.returns-clause-made
returns-clause-made g c clean begun live =
    let whole : c.tables.at ≡ 11 = omega (arith, c.tables.auto.at-end, c.tables-test.false) in
    subst (λ n. SeesNoRows (schema_after n) (state g.S.Store c.tables.tx.conn.now)) whole (c.tables.invariant.made clean begun live)
