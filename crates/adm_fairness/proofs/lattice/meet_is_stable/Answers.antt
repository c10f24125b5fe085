use Rattle.adm_fairness.proofs.Meets.{meet_is_stable_law}
use Rattle.adm_fairness.proofs.lattice.meet_is_stable.Goals as goal

pub returns : goal.returns
returns c = meet_is_stable_law c.same_schools_fill.ensures
