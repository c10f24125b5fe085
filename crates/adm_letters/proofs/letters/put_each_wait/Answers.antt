use Rattle.adm_letters.specs.Letters.{wait_line}
use Rattle.adm_letters.proofs.Joined.{next_line}
use Rattle.adm_letters.proofs.letters.put_each_wait.Goals as goal

pub loop-wait-preserved : goal.loop-wait-preserved
loop-wait-preserved c =
    next_line (wait_line c.args.register.now) c.args.waits.now c.loop-wait.wait-index c.wait-item.result _ _ _ c.loop-wait-test.true c.wait-item.is c.loop-wait.invariant c.in_ok-put_wait.ensures
