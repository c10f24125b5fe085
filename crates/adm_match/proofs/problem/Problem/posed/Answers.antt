use Rattle.std.proofs.Common.{sym}
use Rattle.adm_match.proofs.Ready.{ready_seated}
use Rattle.adm_match.proofs.problem.Problem.posed.Goals as goal

pub places_of-requires : goal.places_of-requires
places_of-requires c = ready_seated c.args.entrants.items c.deref.result.now c.args.seats.items c.deref-2.result.now c.requires c.deref.ensures.value c.deref-2.ensures.value
