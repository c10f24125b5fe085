use Rattle.std.proofs.Common.{Result, Ok, sym, refl, subst}
use Rattle.adm_wire.specs.Streams.{Stream}
use Rattle.adm_http.specs.Connections.{errors_of}
use Rattle.adm_program.specs.Served.{ServesAs, Visits}
use Rattle.adm_host.specs.declared.exit.Exit.{Exit}
use Rattle.adm_host.specs.declared.fault.Fault.{Fault}
use Rattle.adm_program.proofs.Logging.{each_turn, prints_nothing}
use Rattle.adm_program.proofs.Served.{exit_served, not_printed, not_ready, takes_turns}
use Rattle.adm_program.proofs.serving.serve_connections.Goals as goal

-- connections were served
pub returns-in-Ok-put_serving-clause-serves : goal.returns-in-Ok-put_serving-clause-serves
returns-in-Ok-put_serving-clause-serves g c =
    let visits : Visits = record { old = g.P.Connections.traffic c.args.ports.now; coming = g.P.Ports.traffic_at c.args.ports.now; may_refuse = g.P.Ports.may_refuse c.args.ports.now; new = g.P.Connections.traffic c.serve_on-status.new.connections; log_before = errors_of g.L.Output c.args.log.now; log_after = errors_of g.L.Output c.serve_on-status.new.errors } in
    let output : Stream = record { old = g.O.Output.contents c.args.output.now; new = g.O.Output.contents c.put_serving.new.output; has_failed = g.O.Output.has_failed c.put_serving.new.output } in
    let exit = exit_served c.serve_on-status.new.desk.failed c.serve_on-status.result c.of_served.result c.serve_on-status.ensures.status c.of_served.ensures in
    let turns = takes_turns c.args.count c.args.port c.args.desk c.serve_on-status.new.desk _ visits c.in-Ok.ensures.taken c.serve_on-status.ensures.serves in
    let ends : ServesAs c.args.desk c.serve_on-status.new.desk c.args.port c.args.count visits output (Ok c.of_served.result) =
    (c.in-Ok-put_serving.ensures, turns, exit) in
    record {
      after = c.serve_on-status.new.desk;
      ends = subst (λ (e : Result Exit Fault). ServesAs c.args.desk c.serve_on-status.new.desk c.args.port c.args.count visits output e) (sym c.close.ensures.exit) ends;
      closes = c.close.ensures.closes;
    }

-- the line was not printed
pub returns-in-Ok-clause-serves : goal.returns-in-Ok-clause-serves
returns-in-Ok-clause-serves g c =
    let visits : Visits = record { old = g.P.Connections.traffic c.args.ports.now; coming = g.P.Ports.traffic_at c.args.ports.now; may_refuse = g.P.Ports.may_refuse c.args.ports.now; new = g.P.Connections.traffic c.listen.new.ports; log_before = errors_of g.L.Output c.args.log.now; log_after = errors_of g.L.Output c.args.log.now } in
    let output : Stream = record { old = g.O.Output.contents c.args.output.now; new = g.O.Output.contents c.put_serving.new.output; has_failed = g.O.Output.has_failed c.put_serving.new.output } in
    let ends = not_printed (Unit {0}) c.args.desk c.args.port c.args.count visits output c.in-Err-put_serving.fault c.in-Err-put_serving.ensures c.in-Ok.ensures.taken refl in
    record {
      after = c.args.desk;
      ends = subst (λ (e : Result Exit Fault). ServesAs c.args.desk c.args.desk c.args.port c.args.count visits output e) (sym c.close-in-Err-put_serving.ensures.exit) ends;
      closes = c.close-in-Err-put_serving.ensures.closes;
    }

-- no connection could be waited for
pub returns-clause-serves : goal.returns-clause-serves
returns-clause-serves g c =
    let visits : Visits = record { old = g.P.Connections.traffic c.args.ports.now; coming = g.P.Ports.traffic_at c.args.ports.now; may_refuse = g.P.Ports.may_refuse c.args.ports.now; new = g.P.Connections.traffic c.listen.new.ports; log_before = errors_of g.L.Output c.args.log.now; log_after = errors_of g.L.Output c.args.log.now } in
    let output : Stream = record { old = g.O.Output.contents c.args.output.now; new = g.O.Output.contents c.args.output.now; has_failed = g.O.Output.has_failed c.args.output.now } in
    let ends = not_ready c.args.desk c.args.port c.args.count visits output c.in-Err.fault c.in-Err.ensures.err refl c.in-Err.ensures.left refl in
    record {
      after = c.args.desk;
      ends = subst (λ (e : Result Exit Fault). ServesAs c.args.desk c.args.desk c.args.port c.args.count visits output e) (sym c.close-in-Err.ensures.exit) ends;
      closes = c.close-in-Err.ensures.closes;
    }

-- ---- what was printed of connections

pub returns-in-Ok-put_serving-clause-log : goal.returns-in-Ok-put_serving-clause-log
returns-in-Ok-put_serving-clause-log g c = each_turn _ _ _ _ _ c.serve_on-status.ensures.serves

pub returns-in-Ok-clause-log : goal.returns-in-Ok-clause-log
returns-in-Ok-clause-log g c = prints_nothing _

pub returns-clause-log : goal.returns-clause-log
returns-clause-log g c = prints_nothing _
