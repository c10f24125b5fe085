use Rattle.adm_fairness.proofs.Honest.{no_applications_help_law}
use Rattle.adm_fairness.proofs.honesty.no_applications_help.Goals as goal

pub returns : goal.returns
returns c = no_applications_help_law c.allotment_fits.ensures c.no_group_gains.ensures
