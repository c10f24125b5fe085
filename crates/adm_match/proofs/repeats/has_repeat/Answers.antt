use Rattle.adm_match.proofs.RepeatedElements.{seen_more, seen_twice}
use Rattle.adm_match.proofs.repeats.has_repeat.Goals as goal

pub returns-then-not-added : goal.returns-then-not-added
returns-then-not-added g c = seen_twice g.K.Ord.cmp c.args.keys.now c.loop-index.seen c.loop-index.index c.index-keys-index.result c.in_ok-added.added
    c.loop-index-test.true c.index-keys-index.is c.loop-index.invariant c.in_ok-added.ensures.added c.if-not-added.true

pub loop-index-preserved : goal.loop-index-preserved
loop-index-preserved g c = seen_more g.K.Ord.cmp c.args.keys.now c.loop-index.seen c.insert.new.self c.loop-index.index c.index-keys-index.result c.in_ok-added.added
    c.loop-index-test.true c.index-keys-index.is c.loop-index.invariant c.in_ok-added.ensures.updates c.in_ok-added.ensures.added c.if-not-added.false
