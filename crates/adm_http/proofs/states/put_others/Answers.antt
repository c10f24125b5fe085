use Rattle.adm_http.specs.States.{after_comma}
use Rattle.adm_http.proofs.StateLemmas.{next_text}
use Rattle.adm_http.proofs.states.put_others.Goals as goal

pub loop-wait-preserved : goal.loop-wait-preserved
loop-wait-preserved c =
    next_text after_comma c.args.others.now c.loop-wait.wait-index c.wait-item.result _ _ _ c.loop-wait-test.true c.wait-item.is c.loop-wait.invariant c.in_ok-put_wait.ensures
