use Rattle.adm_view_laws.proofs.Waiting.{waits_same}
use Rattle.adm_view_laws.proofs.laws.waits_are_shown.Goals as goal

pub returns : goal.returns
returns c = waits_same
