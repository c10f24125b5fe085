use Rattle.adm_match.proofs.Ready.{ready_distinct, ready_seated, still_placed}
use Rattle.adm_match.proofs.acceptance.offers.Goals as goal

pub allot-requires-clause-distinct : goal.allot-requires-clause-distinct
allot-requires-clause-distinct c = ready_distinct c.problem.inside.entrants.items c.deref.result.now c.problem.inside.seats.items c.deref-2.result.now c.problem.invariant.0
    c.deref.ensures.value c.deref-2.ensures.value

pub allot-requires-clause-seated : goal.allot-requires-clause-seated
allot-requires-clause-seated c = ready_seated c.problem.inside.entrants.items c.deref.result.now c.problem.inside.seats.items c.deref-2.result.now c.problem.invariant.0
    c.deref.ensures.value c.deref-2.ensures.value

pub allot-requires-clause-placed : goal.allot-requires-clause-placed
allot-requires-clause-placed c = still_placed c.problem.inside.entrants.items c.deref.result.now c.problem.inside.seats.items c.deref-2.result.now c.problem.inside.places.items
    c.deref-3.result.now c.problem.invariant.1 c.deref.ensures.value c.deref-2.ensures.value c.deref-3.ensures.value
