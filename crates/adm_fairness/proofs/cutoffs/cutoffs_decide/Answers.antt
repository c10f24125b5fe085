use Rattle.adm_fairness.proofs.CutoffLemmas.{cutoffs_decide_law}
use Rattle.adm_fairness.proofs.cutoffs.cutoffs_decide.Goals as goal

pub returns : goal.returns
returns c = cutoffs_decide_law
