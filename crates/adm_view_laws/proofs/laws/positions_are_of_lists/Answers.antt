use Rattle.adm_view_laws.proofs.Entries.{positions}
use Rattle.adm_view_laws.proofs.laws.positions_are_of_lists.Goals as goal

pub returns : goal.returns
returns c = positions
