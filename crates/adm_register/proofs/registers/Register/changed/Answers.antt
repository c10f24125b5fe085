use Rattle.std.proofs.Common.{◌≡◌, ◌∙◌, ap, sym, subst}
use Rattle.adm_register.specs.Change.{after}
use Rattle.adm_register.specs.Difference.{IsDifference}
use Rattle.adm_register.specs.Draws.{count_draws, are_in_order, draws_so_far}
use Rattle.adm_register.specs.Extends.{Extends, KeepsSchools}
use Rattle.adm_register.specs.Fits.{Fit}
use Rattle.adm_register.specs.WellFormed.{WellFormed}
use Rattle.adm_register.proofs.Exactly.{differing_is}
use Rattle.adm_register.proofs.Fits.{after-keeps, after-so_far, after-extends, after-keeps_schools}
use Rattle.adm_register.proofs.registers.Register.changed.Goals as goal

pub with_draws-so_far-requires-clause-in_order : goal.with_draws-so_far-requires-clause-in_order
with_draws-so_far-requires-clause-in_order c =
    let old = c.self.inside.tables in
    let fit = subst (λ s. Fit s c.args.change) (sym c.self.view_is) c.requires in
    (old.season, (λ i. are_in_order old.season (c.self.invariant.1 i) (c.as_slice.ensures i)) ∙ fit.draws.in_order)

pub invariant_of-result : goal.invariant_of-result
invariant_of-result c =
    let old = c.self.inside.tables in
    let change = c.args.change in
    let fit = subst (λ s. Fit s change) (sym c.self.view_is) c.requires in
    let counted = c.with_draws-so_far.ensures.value ∙ (λ i. count_draws (c.self.invariant.1 i) (c.as_slice.ensures i)) in (
      subst WellFormed (sym c.in_ok-tables.ensures) (after-keeps old change c.self.invariant.0 fit),
      counted ∙ sym (after-so_far old change c.self.invariant.0 fit) ∙ ap draws_so_far (sym c.in_ok-tables.ensures),
      c.with_draws-so_far.ensures.within,
    )

pub returns-clause-after : goal.returns-clause-after
returns-clause-after c =
    let fit = subst (λ s. Fit s c.args.change) (sym c.self.view_is) c.requires in (
      subst (λ s. c.in_ok-tables.tables ≡ after s c.args.change) c.self.view_is c.in_ok-tables.ensures,
      subst WellFormed (sym c.in_ok-tables.ensures) (after-keeps c.self.inside.tables c.args.change c.self.invariant.0 fit),
    )

pub returns-clause-extends : goal.returns-clause-extends
returns-clause-extends c =
    let old = c.self.inside.tables in
    let fit = subst (λ s. Fit s c.args.change) (sym c.self.view_is) c.requires in
    subst (λ s. Extends s c.in_ok-tables.tables) c.self.view_is (subst (Extends old) (sym c.in_ok-tables.ensures) (after-extends old c.args.change c.self.invariant.0 fit))

pub returns-clause-schools : goal.returns-clause-schools
returns-clause-schools c =
    let old = c.self.inside.tables in
    let fit = subst (λ s. Fit s c.args.change) (sym c.self.view_is) c.requires in
    subst (λ s. KeepsSchools s c.in_ok-tables.tables) c.self.view_is (subst (KeepsSchools old) (sym c.in_ok-tables.ensures) (after-keeps_schools old c.args.change fit.base))

pub returns-clause-difference : goal.returns-clause-difference
returns-clause-difference c =
    let old = c.self.inside.tables in
    let change = c.args.change in
    let found = c.differing_from-difference.result in
    let found_is = c.differing_from-difference.ensures in
    let fit = subst (λ s. Fit s change) (sym c.self.view_is) c.requires in
    subst (λ s. IsDifference s c.in_ok-tables.tables found) c.self.view_is
    (subst (λ n. IsDifference old n found) (sym c.in_ok-tables.ensures) (subst (IsDifference old (after old change)) (sym found_is) (differing_is old change c.self.invariant.0 fit.tidy)))
