use Rattle.adm_fairness.proofs.Explaining.{round_is_explained_law}
use Rattle.adm_fairness.proofs.cutoffs.round_is_explained.Goals as goal

pub returns : goal.returns
returns c = round_is_explained_law c.allotment_fits.ensures
