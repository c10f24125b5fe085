use Rattle.adm_command_laws.proofs.Sizes.{season_stays_lem}
use Rattle.adm_command_laws.proofs.laws.season_stays.Goals as goal

pub returns : goal.returns
returns c = season_stays_lem
