use Rattle.adm_fairness.proofs.CutoffLemmas.{same_cutoffs_same_places_law}
use Rattle.adm_fairness.proofs.cutoffs.same_cutoffs_same_places.Goals as goal

pub returns : goal.returns
returns c = same_cutoffs_same_places_law
