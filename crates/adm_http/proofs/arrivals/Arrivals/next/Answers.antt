use Rattle.adm_http.specs.Connections.{errors_of}
use Rattle.adm_http.proofs.ConnectionLemmas.{accepts_more}
use Rattle.adm_http.proofs.arrivals.Arrivals.next.Goals as goal
use Rattle.adm_http.proofs.arrivals.Arrivals.next.Goals.{then-is_empty+in_ok-arrival+else-len-capacity, else-is_empty}

pub returns-in_err-arrival : goal.returns-in_err-arrival
returns-in_err-arrival g c =
    accepts_more (errors_of g.E.Output c.args.errors.now) (errors_of g.E.Output c.loop-turn.errors) (errors_of g.E.Output c.accept.new.errors) c.loop-turn.invariant c.accept.ensures

pub returns-then-len-capacity : goal.returns-then-len-capacity
returns-then-len-capacity g c =
    accepts_more (errors_of g.E.Output c.args.errors.now) (errors_of g.E.Output c.loop-turn.errors) (errors_of g.E.Output c.accept.new.errors) c.loop-turn.invariant c.accept.ensures

pub returns-in-Some : goal.returns-in-Some
returns-in-Some g c =
    elim c.if-is_empty.branch [
      | then-is_empty+in_ok-arrival+else-len-capacity w ↦
          rw w.errors-is
          (accepts_more (errors_of g.E.Output c.args.errors.now) (errors_of g.E.Output c.loop-turn.errors) (errors_of g.E.Output w.accept.new.errors) c.loop-turn.invariant w.accept.ensures)
      | else-is_empty w ↦ rw w.errors-is c.loop-turn.invariant
    ]

pub loop-turn-preserved : goal.loop-turn-preserved
loop-turn-preserved g c =
    elim c.if-is_empty.branch [
      | then-is_empty+in_ok-arrival+else-len-capacity w ↦
          rw w.errors-is
          (accepts_more (errors_of g.E.Output c.args.errors.now) (errors_of g.E.Output c.loop-turn.errors) (errors_of g.E.Output w.accept.new.errors) c.loop-turn.invariant w.accept.ensures)
      | else-is_empty w ↦ rw w.errors-is c.loop-turn.invariant
    ]
