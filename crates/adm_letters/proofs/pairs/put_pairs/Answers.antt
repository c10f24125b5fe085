use Rattle.adm_letters.specs.Pairs.{pair_text}
use Rattle.adm_letters.proofs.Joined.{next_line}
use Rattle.adm_letters.proofs.pairs.put_pairs.Goals as goal

pub loop-pair-preserved : goal.loop-pair-preserved
loop-pair-preserved c =
    next_line pair_text c.args.pairs.now c.loop-pair.pair-index c.pair-item.result _ _ _ c.loop-pair-test.true c.pair-item.is c.loop-pair.invariant c.in_ok-put_pair.ensures
