use Rattle.adm_fairness.proofs.Waiters.{standing_is_listed_law}
use Rattle.adm_fairness.proofs.code.standing_is_listed.Goals as goal

pub returns : goal.returns
returns c = standing_is_listed_law
