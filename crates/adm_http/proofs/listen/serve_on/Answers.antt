use Rattle.sqlite.specs.Held.{state}
use Rattle.adm_http.specs.Connections.{moment}
use Rattle.adm_http.specs.Purposes.{RunsBody}
use Rattle.adm_http.specs.Shows.{Shows}
use Rattle.adm_http.proofs.ConnectionLemmas.{answers_up_to}
use Rattle.adm_http.proofs.listen.serve_on.Goals as goal

pub returns-then-is_none-clause-desk : goal.returns-then-is_none-clause-desk
returns-then-is_none-clause-desk g c =
    answers_up_to (RunsBody (state g.S.Store)) Shows c.args.count (moment g.E.Output c.args.desk.now (g.N.Connections.traffic c.args.connections.now) c.args.errors.now)
    (moment g.E.Output c.serve_each.new.desk (g.N.Connections.traffic c.serve_each.new.connections) c.serve_each.new.errors) c.serve_each.ensures.serves

pub returns-else-is_none-clause-desk : goal.returns-else-is_none-clause-desk
returns-else-is_none-clause-desk g c =
    answers_up_to (RunsBody (state g.S.Store)) Shows c.args.count (moment g.E.Output c.args.desk.now (g.N.Connections.traffic c.args.connections.now) c.args.errors.now)
    (moment g.E.Output c.serve_each.new.desk (g.N.Connections.traffic c.serve_each.new.connections) c.serve_each.new.errors) c.serve_each.ensures.serves
