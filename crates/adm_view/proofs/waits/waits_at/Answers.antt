use Rattle.std.proofs.Common.{subst}
use Rattle.std.specs.Prelude.{All}
use Rattle.std.proofs.lemmas.List.{take_all}
use Rattle.adm_view.specs.Waits.{HasRanksAt}
use Rattle.adm_view.proofs.Positions.{ranks_added}
use Rattle.adm_view.proofs.waits.waits_at.Goals as goal

pub loop-code-preserved : goal.loop-code-preserved
loop-code-preserved c =
    ranks_added c.args.register.now c.args.codes.now c.loop-code.code-index c.code-item.result c.loop-code.waits c.put_ranks_at.new.waits c.loop-code-test.true
    c.code-item.is c.in_ok-put_ranks_at.ensures c.loop-code.invariant

pub returns : goal.returns
returns c = subst (All (HasRanksAt c.args.register.now c.loop-code.waits)) (take_all c.loop-code.code-index c.args.codes.now c.loop-code-test.false) c.loop-code.invariant
