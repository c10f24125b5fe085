use Rattle.sqlite.specs.Held.{state}
use Rattle.adm_schema.proofs.Inside.{is_inside}
use Rattle.adm_schema.proofs.Migration.{marks_second}
use Rattle.adm_store.proofs.migration.mark_second.Goals as goal

pub returns-clause-marked : goal.returns-clause-marked
returns-clause-marked g c clean has =
    let old = state g.S.Store c.args.tx.now.conn.now in
    let new = state g.S.Store c.execute.new.self.conn.now in
    let ran = rw (c.mark_version.ensures) at c.in_ok-execute.ensures.runs clean (is_inside _ _ _ _ c.in_ok-execute.ensures.ended) in
    let seen = has ran.1.was_open in
    marks_second old new c.in_ok-execute.field-0 seen.0 seen.1 ran
