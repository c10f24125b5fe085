use Rattle.adm_crashes.proofs.RoundLemmas.{rounds_are_recorded_lem}
use Rattle.adm_crashes.proofs.laws.rounds_are_recorded.Goals as goal

pub returns : goal.returns
returns c = rounds_are_recorded_lem c.draws_kept.ensures c.round_is_recorded.ensures
