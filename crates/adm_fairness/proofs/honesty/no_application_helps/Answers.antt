use Rattle.adm_fairness.proofs.Honest.{no_application_helps_law}
use Rattle.adm_fairness.proofs.honesty.no_application_helps.Goals as goal

pub returns : goal.returns
returns c = no_application_helps_law c.allotment_fits.ensures c.no_group_gains.ensures
