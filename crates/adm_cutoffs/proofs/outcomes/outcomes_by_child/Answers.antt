use Rattle.adm_cutoffs.proofs.MapLemmas.{outcome_more}
use Rattle.adm_cutoffs.proofs.outcomes.outcomes_by_child.Goals as goal

pub loop-back-preserved : goal.loop-back-preserved
loop-back-preserved c =
    outcome_more c.args.outcomes.now c.loop-back.back c.index-outcomes-outcomes.result c.loop-back.by_child c.insert.new.self
    c.loop-back-test.true c.index-outcomes-outcomes.is c.loop-back.invariant c.in_ok-insert.ensures.updates
