use Rattle.adm_http.specs.Connections.{PrintsAccepts, errors_of}
use Rattle.adm_http.proofs.arrivals.Arrivals.next.Given as goal

abbrev pub invariant-loop-turn : goal.invariant-loop-turn
invariant-loop-turn g l = PrintsAccepts (errors_of g.E.Output l.fn.errors) (errors_of g.E.Output l.errors)
