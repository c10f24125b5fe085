use Rattle.std.proofs.Common.{sym, subst, List}
use Rattle.std.specs.Ordering.{eq_by_cmp}
use Rattle.std.specs.List.{IsDistinct}
use Rattle.adm_draws.specs.declared.keys.DrawnLot.{DrawnLot}
use Rattle.adm_draws.proofs.RepeatedLots.{drawn_cmp, not_repeated, repeated}
use Rattle.adm_draws.proofs.repeats.has_repeated_lot.Goals as goal

pub returns-in_default : goal.returns-in_default
returns-in_default c =
    sym (repeated c.args.lots.now (subst (λ (drawn : List DrawnLot). IsDistinct (eq_by_cmp drawn_cmp) drawn → ⊥) c.in_ok-drawn.ensures c.in_default.ensures.repeated))

pub returns : goal.returns
returns c =
    sym (not_repeated c.args.lots.now (subst (λ (drawn : List DrawnLot). IsDistinct (eq_by_cmp drawn_cmp) drawn) c.in_ok-drawn.ensures c.in-Some.ensures.distinct))
