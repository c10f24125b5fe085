use Rattle.adm_fairness.proofs.Envy.{no_new_envy_law}
use Rattle.adm_fairness.proofs.season.no_new_envy.Goals as goal

pub returns : goal.returns
returns c = no_new_envy_law c.allotment_fits.ensures
