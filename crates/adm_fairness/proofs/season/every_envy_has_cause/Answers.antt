use Rattle.adm_fairness.proofs.Begun.{every_envy_has_cause_law}
use Rattle.adm_fairness.proofs.season.every_envy_has_cause.Goals as goal

pub returns : goal.returns
returns c = every_envy_has_cause_law c.allotment_fits.ensures
