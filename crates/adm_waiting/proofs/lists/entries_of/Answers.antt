use Rattle.adm_waiting.proofs.Positions.{entries_more}
use Rattle.adm_waiting.proofs.lists.entries_of.Goals as goal

pub loop-index-preserved : goal.loop-index-preserved
loop-index-preserved c =
    entries_more c.args.ranks.now c.loop-index.index c.index-ranks-index.result c.count_ahead.result c.loop-index.list.items c.push.new.self.items c.loop-index-test.true
    c.index-ranks-index.is c.count_ahead.ensures.value c.loop-index.invariant c.in_ok-push.ensures.items
