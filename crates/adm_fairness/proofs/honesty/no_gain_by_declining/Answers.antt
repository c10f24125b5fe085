use Rattle.adm_fairness.proofs.Declining.{no_gain_by_declining_law}
use Rattle.adm_fairness.proofs.honesty.no_gain_by_declining.Goals as goal

pub returns : goal.returns
returns c = no_gain_by_declining_law c.allotment_fits.ensures c.no_group_gains.ensures
