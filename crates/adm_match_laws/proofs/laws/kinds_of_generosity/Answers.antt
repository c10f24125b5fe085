use Rattle.adm_match_laws.proofs.Generous.{kinds_of_generosity_law}
use Rattle.adm_match_laws.proofs.laws.kinds_of_generosity.Goals as goal

pub returns : goal.returns
returns c = kinds_of_generosity_law
