use Rattle.adm_http.specs.Connections.{PrintsAccepts, errors_of}
use Rattle.adm_http.proofs.arrivals.accept.Given as goal

abbrev pub invariant-loop-attempt : goal.invariant-loop-attempt
invariant-loop-attempt g l = PrintsAccepts (errors_of g.E.Output l.fn.errors) (errors_of g.E.Output l.errors)
