use Rattle.adm_fairness.proofs.NoPriority.{ranks_by_rule_law}
use Rattle.adm_fairness.proofs.code.ranks_by_rule.Goals as goal

pub returns : goal.returns
returns c = ranks_by_rule_law
