use Rattle.adm_crashes.proofs.RoundLemmas.{rounds_stay_lem}
use Rattle.adm_crashes.proofs.laws.rounds_stay.Goals as goal

pub returns : goal.returns
returns c = rounds_stay_lem c.draws_kept.ensures
