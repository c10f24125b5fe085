use Rattle.adm_fairness.proofs.Joins.{join_is_stable_law}
use Rattle.adm_fairness.proofs.lattice.join_is_stable.Goals as goal

pub returns : goal.returns
returns c = join_is_stable_law c.same_schools_fill.ensures
