use Rattle.adm_fairness.proofs.Plans.{plan_is_kept_law}
use Rattle.adm_fairness.proofs.season.plan_is_kept.Goals as goal

pub returns : goal.returns
returns c = plan_is_kept_law c.allotment_fits.ensures
