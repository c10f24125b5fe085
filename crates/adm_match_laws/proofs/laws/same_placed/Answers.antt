use Rattle.adm_match_laws.proofs.FullSchools.{same_placed_law}
use Rattle.adm_match_laws.proofs.laws.same_placed.Goals as goal

pub returns : goal.returns
returns c = same_placed_law
