use Rattle.adm_command_laws.proofs.Imports.{import_once_lem}
use Rattle.adm_command_laws.proofs.laws.import_once.Goals as goal

pub returns : goal.returns
returns c = import_once_lem
