use Rattle.std.specs.Prelude.{codes}
use Rattle.adm_http.specs.Connections.{Errors, errors_of}
use Rattle.adm_http.proofs.ConnectionLemmas.{put_prints, accept_printed}
use Rattle.adm_http.proofs.arrivals.accept.Goals as goal

pub loop-attempt-preserved : goal.loop-attempt-preserved
loop-attempt-preserved g c =
    let old : Errors = errors_of g.E.Output c.args.errors.now in
    let mid : Errors = errors_of g.E.Output c.loop-attempt.errors in
    let new : Errors = errors_of g.E.Output c.put.new.self in
    accept_printed old mid new c.loop-attempt.invariant (put_prints mid new (codes "fault: Accept\n") c.put.result c.put.ensures.bytes c.put.ensures.fails)
