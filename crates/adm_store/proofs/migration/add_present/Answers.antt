use Rattle.sqlite.specs.Held.{state}
use Rattle.adm_schema.proofs.Inside.{is_inside}
use Rattle.adm_schema.proofs.Migration.{adds_table}
use Rattle.adm_store.proofs.migration.add_present.Goals as goal

pub returns-clause-made : goal.returns-clause-made
returns-clause-made g c clean has =
    let old = state g.S.Store c.args.tx.now.conn.now in
    let new = state g.S.Store c.execute.new.self.conn.now in
    let ran = rw (c.create_present.ensures) at c.in_ok-execute.ensures.runs clean (is_inside _ _ _ _ c.in_ok-execute.ensures.ended) in
    adds_table old new c.in_ok-execute.field-0 (has ran.1.was_open) ran
