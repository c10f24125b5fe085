use Rattle.std.proofs.Common.{length}
use Rattle.adm_match.proofs.QueueLemmas.{line_more}
use Rattle.adm_match.proofs.acceptance.queue_of.Goals as goal

pub loop-index-preserved : goal.loop-index-preserved
loop-index-preserved c = line_more (length c.args.entrants.now) c.loop-index.index c.loop-index.queue.items c.push_back.new.self.items c.loop-index-test.true
    c.loop-index.invariant c.in_ok-push_back.ensures.items
