use Rattle.adm_command_laws.proofs.Repeats.{repeat_safe_lem}
use Rattle.adm_command_laws.proofs.laws.repeat_safe.Goals as goal

pub returns : goal.returns
returns c = repeat_safe_lem
