use Rattle.std.proofs.lemmas.Result.{on_ok_weaker}
use Rattle.sqlite.specs.Held.{state}
use Rattle.adm_store.proofs.DrawWrites.{adds_lots}
use Rattle.adm_store.proofs.lots.AddLotEightRows.run_eight.Goals as goal

pub returns-clause-writes : goal.returns-clause-writes
returns-clause-writes g c =
    on_ok_weaker c.run_rows.result (adds_lots (state g.S.Store c.args.tx.now.conn.now)
    (state g.S.Store c.run_rows.new.tx.conn.now) c.args.rows.now c.requires c.run_rows.ensures.survives.clean) (rw (c.insert_lots.ensures) at c.run_rows.ensures.runs)
