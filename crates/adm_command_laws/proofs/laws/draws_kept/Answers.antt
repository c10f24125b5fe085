use Rattle.adm_command_laws.proofs.History.{draws_kept_lem}
use Rattle.adm_command_laws.proofs.laws.draws_kept.Goals as goal

pub returns : goal.returns
returns c = draws_kept_lem
