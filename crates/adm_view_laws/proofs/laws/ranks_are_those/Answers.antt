use Rattle.adm_view_laws.proofs.Waiting.{ranks_same}
use Rattle.adm_view_laws.proofs.laws.ranks_are_those.Goals as goal

pub returns : goal.returns
returns c = ranks_same
