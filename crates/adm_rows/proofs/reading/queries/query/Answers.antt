use Rattle.sqlite.specs.Held.{state}
use Rattle.adm_schema.proofs.Queries.{shows_all, shows_unchanged, never_refused, fails_alone}
use Rattle.adm_rows.proofs.FirstFaultLemmas.{answered, not_asked}
use Rattle.adm_rows.proofs.CauseLemmas.{disk_cause, disk_or_unanswered}
use Rattle.adm_rows.proofs.ReadingLemmas.{few_trees, table_shown}
use Rattle.adm_rows.proofs.reading.queries.query.Goals as goal

pub returns-in-Ok-clause-ok : goal.returns-in-Ok-clause-ok
returns-in-Ok-clause-ok g c v t asks clean has =
    let old = state g.S.Store c.args.tx.now.conn.now in
    table_shown v t c.args.text.now asks old.now.trees c.in-Ok.rows.items
    (shows_all asks.asks old (state g.S.Store c.query_all.new.self.conn.now) c.in-Ok.rows.items (few_trees t.tree asks.few) has (c.in-Ok.ensures.ok clean))

pub returns-in-Ok-clause-same : goal.returns-in-Ok-clause-same
returns-in-Ok-clause-same g c v t asks clean has = (shows_unchanged asks.asks (state g.S.Store c.args.tx.now.conn.now)
    (state g.S.Store c.query_all.new.self.conn.now) c.in-Ok.rows.items has (c.in-Ok.ensures.ok clean)).0.now_is

pub returns-in-Err-clause-bad : goal.returns-in-Err-clause-bad
returns-in-Err-clause-bad g c structural v t asks clean has =
    let text = (c.query_fault.ensures.missing structural).1 in
    never_refused asks.asks (state g.S.Store c.args.tx.now.conn.now) (state g.S.Store c.query_all.new.self.conn.now) c.in-Err.error text.0 has text.1 (c.in-Err.ensures.err clean)

pub returns-in-Ok-clause-answered : goal.returns-in-Ok-clause-answered
returns-in-Ok-clause-answered g c clean = answered c.args.text.now (state g.S.Store c.args.tx.now.conn.now)
    (state g.S.Store c.query_all.new.self.conn.now) c.in-Ok.rows.items (c.in-Ok.ensures.ok clean)

pub returns-in-Err-clause-refused : goal.returns-in-Err-clause-refused
returns-in-Err-clause-refused g c clean structural =
    let text = c.query_fault.ensures.missing structural in
    (text.2, not_asked c.args.text.now (state g.S.Store c.args.tx.now.conn.now) (state g.S.Store c.query_all.new.self.conn.now) c.in-Err.error text.1.0 text.1.1 (c.in-Err.ensures.err clean))

pub returns-in-Err-clause-disk : goal.returns-in-Err-clause-disk
returns-in-Err-clause-disk g c missing is v t asks clean live unlimited has =
    let other = c.query_fault.ensures.disk missing is in
    let old = state g.S.Store c.args.tx.now.conn.now in
    let new = state g.S.Store c.query_all.new.self.conn.now in
    disk_cause old new c.in-Err.error live other.0 (fails_alone asks.asks old new c.in-Err.error has unlimited other.1 (c.in-Err.ensures.err clean))

pub returns-in-Err-clause-unanswered : goal.returns-in-Err-clause-unanswered
returns-in-Err-clause-unanswered g c missing is clean live =
    let other = c.query_fault.ensures.disk missing is in
    disk_or_unanswered c.args.text.now (state g.S.Store c.args.tx.now.conn.now) (state g.S.Store c.query_all.new.self.conn.now) c.in-Err.error live other.0 other.1 (c.in-Err.ensures.err clean)
