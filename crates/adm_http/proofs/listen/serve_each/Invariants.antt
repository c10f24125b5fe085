use Rattle.adm_http.specs.Connections.{IsIdle, ServesEach, moment}
use Rattle.adm_http.proofs.listen.serve_each.Given as goal

abbrev pub invariant-loop-turn : goal.invariant-loop-turn
invariant-loop-turn g l = record {
  idle : IsIdle (g.N.Connections.traffic l.connections);
  serves : ServesEach g.A.RequestHandler.runs g.A.RequestHandler.shows l.turn
      (moment g.E.Output (g.A.RequestHandler.view l.fn.desk) (g.N.Connections.traffic l.fn.connections) l.fn.errors)
      (moment g.E.Output (g.A.RequestHandler.view l.desk) (g.N.Connections.traffic l.connections) l.errors);
}
