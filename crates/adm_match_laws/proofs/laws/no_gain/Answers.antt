use Rattle.adm_match.proofs.Relisted.{no_gain_law}
use Rattle.adm_match_laws.proofs.laws.no_gain.Goals as goal

pub returns : goal.returns
returns c = no_gain_law
