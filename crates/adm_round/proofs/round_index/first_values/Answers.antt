use Rattle.adm_round.proofs.Walks.{first_more}
use Rattle.adm_round.proofs.round_index.first_values.Goals as goal

pub loop-back-preserved : goal.loop-back-preserved
loop-back-preserved g c =
    first_more g.K.Ord.cmp c.args.rows.now c.loop-back.back c.index-rows-rows.result c.loop-back.values c.insert.new.self
    c.loop-back-test.true c.index-rows-rows.is c.loop-back.invariant c.in_ok-insert.ensures.updates
