use Rattle.adm_commands.proofs.Posed.{posed}
use Rattle.adm_command_laws.proofs.laws.round_is_posed.Goals as goal

pub returns : goal.returns
returns c = posed
