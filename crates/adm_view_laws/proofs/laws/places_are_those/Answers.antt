use Rattle.adm_view_laws.proofs.Entries.{places_same}
use Rattle.adm_view_laws.proofs.laws.places_are_those.Goals as goal

pub returns : goal.returns
returns c = places_same
