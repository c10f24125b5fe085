use Rattle.adm_match.proofs.Coded.{codes_more}
use Rattle.adm_match.proofs.faults.codes_of.Goals as goal

pub loop-index-preserved : goal.loop-index-preserved
loop-index-preserved c = codes_more c.args.seats.now c.loop-index.codes c.insert.new.self c.loop-index.index c.index-seats-index.result c.loop-index-test.true
    c.index-seats-index.is c.loop-index.invariant c.in_ok-insert.ensures.updates
