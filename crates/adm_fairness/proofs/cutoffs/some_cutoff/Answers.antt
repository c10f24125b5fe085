use Rattle.adm_fairness.proofs.CutoffLemmas.{some_cutoff_law}
use Rattle.adm_fairness.proofs.cutoffs.some_cutoff.Goals as goal

pub returns : goal.returns
returns c = some_cutoff_law
