use Rattle.std.proofs.Common.{◌≡◌, ◌∙◌, ap, subst, Some, None}
use Rattle.std.specs.Prelude.{if◌then◌else◌}
use Rattle.adm_register.specs.State.{State as Register}
use Rattle.adm_register.specs.WellFormed.{WellFormed}
use Rattle.adm_crashes.proofs.crashes.has_draws_in_order.Goals as goal

same_Some : (x y : Register) → Some x ≡ Some y → x ≡ y
same_Some x y e = cc

pub returns-in-Some : goal.returns-in-Some
returns-in-Some g c = λ alive.
    let is = same_Some c.in-Some.register.now c.args.desk.now.register (c.in-Some.ensures.register ∙ ap (λ b. if b then None else Some c.args.desk.now.register) alive) in
    let well = subst WellFormed is c.season-season.ensures.well_formed in
    record { own = λ number draw there. (well.draws.each number draw there).own_number; in_order = well.draws.in_order }
