use Rattle.adm_fairness.proofs.NoPriority.{list_gives_no_priority_law}
use Rattle.adm_fairness.proofs.code.list_gives_no_priority.Goals as goal

pub returns : goal.returns
returns c = list_gives_no_priority_law
