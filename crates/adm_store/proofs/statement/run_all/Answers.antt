use Rattle.std.proofs.Common.{refl, ◌∙◌}
use Rattle.sqlite.specs.Held.{state}
use Rattle.adm_store.proofs.CommitLemmas.{on_ok}
use Rattle.adm_store.proofs.LoopWrites.{none_so_far, more_so_far, all_so_far}
use Rattle.adm_store.proofs.statement.run_all.Goals as goal

pub eights-init : goal.eights-init
eights-init g c = record {
  same_reference = refl;
  so_far = none_so_far g.W.Statement.kind g.W.Statement.table g.W.Statement.row_of c.args.items.now (state g.S.Store c.args.tx.now.conn.now);
}

pub eights-preserved : goal.eights-preserved
eights-preserved g c =
    let start = state g.S.Store c.args.tx.now.conn.now in
    let mid = state g.S.Store c.eights.tx.conn.now in
    let now = state g.S.Store c.run_eight.new.tx.conn.now in
    record {
      same_reference = c.run_eight.ensures.same_reference ∙ c.eights.invariant.same_reference;
      so_far = more_so_far g.W.Statement.kind g.W.Statement.table g.W.Statement.row_of c.args.items.now c.eights.rest.now c.split_at.result.0.now c.split_at.result.1.now start mid now
          c.split_at.ensures.by_index.0 c.eights.invariant.so_far c.run_eight.ensures.survives c.in_ok-run_eight.ensures.writes;
    }

pub returns-clause-writes : goal.returns-clause-writes
returns-clause-writes g c =
    on_ok c.run_each.result _ _ (λ last. all_so_far g.W.Statement.kind g.W.Statement.table g.W.Statement.row_of c.args.items.now c.eights.rest.now
    (state g.S.Store c.args.tx.now.conn.now) (state g.S.Store c.eights.tx.conn.now) (state g.S.Store c.run_each.new.tx.conn.now)
    c.eights.invariant.so_far c.run_each.ensures.survives last) c.run_each.ensures.writes
