use Rattle.adm_fairness.proofs.Envy.{envy_has_cause_law}
use Rattle.adm_fairness.proofs.season.envy_has_cause.Goals as goal

pub returns : goal.returns
returns c = envy_has_cause_law c.allotment_fits.ensures
