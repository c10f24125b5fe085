use Rattle.std.proofs.Common.{◌∙◌, ap, sym}
use Rattle.std.specs.Ordering.{on}
use Rattle.std.proofs.lemmas.Cmp.{on_total}
use Rattle.adm_draws.specs.Draws.{rises}
use Rattle.adm_draws.proofs.Rising.{rises_on}
use Rattle.adm_draws.proofs.order.rises.Goals as goal

pub loop-first-preserved : goal.loop-first-preserved
loop-first-preserved g c =
    sym (rises_on (on_total g.V.Ordered.sort_key g.met.K.Ord.total) c.in-Some.first.now c.in-Some.others.now (sym c.comes_first.ensures ∙ c.if-not-comes_first.false))
    ∙ ap (rises (on g.V.Ordered.sort_key g.K.Ord.cmp)) (sym c.in-Some.ensures.cases.0) ∙ c.loop-first.invariant
