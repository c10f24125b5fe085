use Rattle.std.proofs.Common.{ℕ, suc, sym, subst, add-one}
use Rattle.adm_http.specs.Connections.{Moment, ServesEach, moment}
use Rattle.adm_http.proofs.listen.serve_each.Goals as goal

pub loop-turn-preserved : goal.loop-turn-preserved
loop-turn-preserved g c =
    let old : Moment g.A.RequestHandler.View = moment g.E.Output (g.A.RequestHandler.view c.args.desk.now) (g.N.Connections.traffic c.args.connections.now) c.args.errors.now in
    let mid : Moment g.A.RequestHandler.View = moment g.E.Output (g.A.RequestHandler.view c.loop-turn.desk) (g.N.Connections.traffic c.loop-turn.connections) c.loop-turn.errors in
    let new : Moment g.A.RequestHandler.View =
    moment g.E.Output (g.A.RequestHandler.view c.serve_next.new.desk) (g.N.Connections.traffic c.serve_next.new.connections) c.serve_next.new.errors in
    let each : ℕ → Type 0 = λ n. ServesEach g.A.RequestHandler.runs g.A.RequestHandler.shows n old new in
    let serves : each (suc c.loop-turn.turn) = (mid, c.loop-turn.invariant.serves, c.serve_next.ensures.serves) in
    record { idle = c.serve_next.ensures.idle; serves = subst each (sym (add-one c.loop-turn.turn)) serves }
