use Rattle.adm_command_laws.proofs.Places.{places_have_cause_lem}
use Rattle.adm_command_laws.proofs.laws.places_have_cause.Goals as goal

pub returns : goal.returns
returns c = places_have_cause_lem
