use Rattle.adm_command_laws.proofs.NoBetterList.{no_better_list_lem}
use Rattle.adm_command_laws.proofs.laws.no_better_list.Goals as goal

pub returns : goal.returns
returns c = no_better_list_lem c.posed_without_fault.ensures c.no_gain.ensures
