use Rattle.adm_match_laws.proofs.GroupGains.{no_group_gains_law}
use Rattle.adm_match_laws.proofs.laws.no_group_gains.Goals as goal

pub returns : goal.returns
returns c = no_group_gains_law
