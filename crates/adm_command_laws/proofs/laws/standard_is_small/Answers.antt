use Rattle.adm_command_laws.proofs.Sizes.{standard_is_small_lem}
use Rattle.adm_command_laws.proofs.laws.standard_is_small.Goals as goal

pub returns : goal.returns
returns c = standard_is_small_lem
