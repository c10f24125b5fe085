use Rattle.sqlite.specs.Held.{state}
use Rattle.adm_schema.proofs.Inside.{is_inside}
use Rattle.adm_store.proofs.WriteLemmas.{cuts_application_out}
use Rattle.adm_store.proofs.applications.DeleteApplicationStatement.run.Goals as goal

pub returns-clause-writes : goal.returns-clause-writes
returns-clause-writes g c =
    cuts_application_out (state g.S.Store c.args.tx.now.conn.now) (state g.S.Store c.execute.new.self.conn.now) c.in_ok-execute.field-0 c.args.child.now c.execute.ensures.survives.clean
    (λ clean. rw (c.delete_application.ensures, c.params-to_sql.ensures, c.get-number.ensures.value) at c.in_ok-execute.ensures.runs clean (is_inside _ _ _ _ c.in_ok-execute.ensures.ended))
