use Rattle.adm_fairness.proofs.NoPriority.{day_gives_no_priority_law}
use Rattle.adm_fairness.proofs.code.day_gives_no_priority.Goals as goal

pub returns : goal.returns
returns c = day_gives_no_priority_law
