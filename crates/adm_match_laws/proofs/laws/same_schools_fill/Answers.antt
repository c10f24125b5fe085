use Rattle.adm_match_laws.proofs.FullSchools.{same_schools_fill_law}
use Rattle.adm_match_laws.proofs.laws.same_schools_fill.Goals as goal

pub returns : goal.returns
returns c = same_schools_fill_law
