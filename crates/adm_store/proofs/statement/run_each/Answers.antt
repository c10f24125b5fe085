use Rattle.std.proofs.Common.{◌≡◌, arith, refl, subst, ◌∙◌, ap, [], ◌∷◌, length, take, take_all}
use Rattle.sqlite.specs.Held.{state}
use Rattle.adm_schema.proofs.Inside.{survives_same, survives_on}
use Rattle.adm_store.specs.Writes.{write_of, Writes}
use Rattle.adm_store.proofs.LoopWrites.{writes_none, writes_more}
use Rattle.adm_store.proofs.statement.run_each.Goals as goal

pub items-init : goal.items-init
items-init g c = record {
  same_reference = refl;
  writes = writes_none g.W.Statement.kind g.W.Statement.table g.W.Statement.row_of (state g.S.Store c.args.tx.now.conn.now);
  survives = survives_same (state g.S.Store c.args.tx.now.conn.now);
}

pub items-preserved : goal.items-preserved
items-preserved g c =
    let start = state g.S.Store c.args.tx.now.conn.now in
    let mid = state g.S.Store c.items.tx.conn.now in
    let now = state g.S.Store c.run.new.tx.conn.now in
    record {
      same_reference = c.run.ensures.same_reference ∙ c.items.invariant.same_reference;
      writes = writes_more g.W.Statement.kind g.W.Statement.table g.W.Statement.row_of c.args.items.now c.items.item-index c.item-item.result start mid now
          c.items-test.true c.item-item.is c.items.invariant.survives c.run.ensures.survives c.items.invariant.writes c.in_ok-run.ensures.writes;
      survives = survives_on start mid now c.items.invariant.survives c.run.ensures.survives;
    }

pub returns-clause-writes : goal.returns-clause-writes
returns-clause-writes g c =
    let whole : c.items.item-index ≡ length c.args.items.now = omega (arith, c.items.auto.item-index-end, c.items-test.false) in
    subst (λ xs. Writes (write_of g.W.Statement.kind g.W.Statement.table g.W.Statement.row_of xs ∷ []) (state g.S.Store c.args.tx.now.conn.now)
    (state g.S.Store c.items.tx.conn.now)) (ap (λ i. take i c.args.items.now) whole ∙ take_all (length c.args.items.now) c.args.items.now (omega (arith))) c.items.invariant.writes
