use Rattle.adm_command_laws.proofs.History.{round_is_recorded_lem}
use Rattle.adm_command_laws.proofs.laws.round_is_recorded.Goals as goal

pub returns : goal.returns
returns c = round_is_recorded_lem
