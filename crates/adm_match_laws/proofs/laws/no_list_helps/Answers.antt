use Rattle.adm_match_laws.proofs.AnyList.{no_list_helps_law}
use Rattle.adm_match_laws.proofs.laws.no_list_helps.Goals as goal

pub returns : goal.returns
returns c = no_list_helps_law
