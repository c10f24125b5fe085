use Rattle.adm_letters.specs.Reports.{outcome_text}
use Rattle.adm_letters.proofs.Joined.{next_line}
use Rattle.adm_letters.proofs.reports.put_outcomes.Goals as goal

pub loop-outcome-preserved : goal.loop-outcome-preserved
loop-outcome-preserved c =
    next_line outcome_text c.args.outcomes.now c.loop-outcome.outcome-index c.outcome-item.result _ _ _ c.loop-outcome-test.true c.outcome-item.is c.loop-outcome.invariant c.in_ok-put_outcome.ensures
