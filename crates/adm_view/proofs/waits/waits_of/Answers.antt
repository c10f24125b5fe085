use Rattle.std.proofs.Common.{◌∙◌}
use Rattle.std.proofs.lemmas.Result.{IfOk-weaker}
use Rattle.adm_view.proofs.Positions.{has_waits_of}
use Rattle.adm_view.proofs.waits.waits_of.Goals as goal

pub returns : goal.returns
returns c =
    IfOk-weaker c.waits_at.result _ _
    (λ waits all. has_waits_of c.args.register.now c.args.child c.deref.result.now waits (c.deref.ensures.value ∙ c.in_ok-wanted.ensures) all) c.waits_at.ensures
