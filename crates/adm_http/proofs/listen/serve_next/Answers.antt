use Rattle.std.proofs.Common.{ℕ, List, ◌∙◌, subst}
use Rattle.adm_http.specs.Connections.{Errors, Moment, PrintsExactly, errors_of, moment}
use Rattle.adm_http.proofs.ConnectionLemmas.{ends_idle, answered_turn, failed_turn, put_prints}
use Rattle.adm_http.proofs.listen.serve_next.Goals as goal

-- the request was answered

pub returns-in_default-serve_connection-clause-idle : goal.returns-in_default-serve_connection-clause-idle
returns-in_default-serve_connection-clause-idle g c =
    let served = c.in_default-serve_connection.ensures in
    ends_idle (g.N.Connections.traffic c.next.new.self) (g.N.Connections.traffic c.serve_connection.new.connections) _ served.3

pub returns-in_default-serve_connection-clause-serves : goal.returns-in_default-serve_connection-clause-serves
returns-in_default-serve_connection-clause-serves g c =
    let old : Moment g.A.RequestHandler.View = moment g.E.Output (g.A.RequestHandler.view c.args.desk.now) (g.N.Connections.traffic c.args.connections.now) c.args.errors.now in
    let new : Moment g.A.RequestHandler.View =
    moment g.E.Output (g.A.RequestHandler.view c.serve_connection.new.desk) (g.N.Connections.traffic c.serve_connection.new.connections) c.next.new.errors in
    answered_turn g.A.RequestHandler.runs g.A.RequestHandler.shows old new (g.N.Connections.traffic c.next.new.self) (g.N.Connection.Input.remaining c.in-Some.connection)
    (g.N.Connection.Input.has_failed c.in-Some.connection) c.in_default-serve_connection.field-0 c.in-Some.ensures.taken c.in-Some.ensures.unfailed c.in_default-serve_connection.ensures

-- the request was not served to its end, and its error was printed

pub returns-in-Err-clause-serves : goal.returns-in-Err-clause-serves
returns-in-Err-clause-serves g c =
    let old : Moment g.A.RequestHandler.View = moment g.E.Output (g.A.RequestHandler.view c.args.desk.now) (g.N.Connections.traffic c.args.connections.now) c.args.errors.now in
    let new : Moment g.A.RequestHandler.View =
    moment g.E.Output (g.A.RequestHandler.view c.serve_connection.new.desk) (g.N.Connections.traffic c.serve_connection.new.connections) c.put.new.self in
    let between : Errors = errors_of g.E.Output c.next.new.errors in
    let printed = put_prints between new.errors c.as_bytes.result.now c.put.result c.put.ensures.bytes c.put.ensures.fails in
    failed_turn g.A.RequestHandler.runs g.A.RequestHandler.shows old new (g.N.Connections.traffic c.next.new.self) between (g.N.Connection.Input.remaining c.in-Some.connection)
    (g.N.Connection.Input.has_failed c.in-Some.connection) c.in-Err.fault c.in-Some.ensures.taken c.in-Some.ensures.unfailed c.in-Err.ensures
    (subst (λ (text : List ℕ). PrintsExactly between new.errors text) (c.as_bytes.ensures.value ∙ c.fault_line.ensures) printed)
