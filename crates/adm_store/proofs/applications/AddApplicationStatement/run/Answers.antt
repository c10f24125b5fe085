use Rattle.std.proofs.lemmas.Result.{on_ok_weaker}
use Rattle.sqlite.specs.Held.{state}
use Rattle.adm_store.proofs.WriteLemmas.{adds_application}
use Rattle.adm_store.proofs.applications.AddApplicationStatement.run.Goals as goal

pub returns-clause-writes : goal.returns-clause-writes
returns-clause-writes g c =
    on_ok_weaker c.run_row.result (adds_application (state g.S.Store c.args.tx.now.conn.now)
    (state g.S.Store c.run_row.new.tx.conn.now) c.args.row.now c.run_row.ensures.survives.clean) (rw (c.insert_application.ensures) at c.run_row.ensures.runs)
