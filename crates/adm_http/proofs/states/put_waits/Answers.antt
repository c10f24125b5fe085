use Rattle.std.proofs.Common.{codes}
use Rattle.adm_http.specs.States.{wait_json}
use Rattle.adm_http.proofs.StateLemmas.{joined_text}
use Rattle.adm_http.proofs.states.put_waits.Goals as goal

pub returns : goal.returns
returns c =
    joined_text wait_json (codes ",") c.args.waits.now c.in-Some.others.now c.in-Some.first.now _ _ _ c.put_others.result c.in-Some.ensures.cases.0 c.in_ok-put_wait.ensures c.put_others.ensures
