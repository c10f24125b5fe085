use Rattle.std.proofs.Common.{◌∙◌, ap, sym, subst, refl, map, length, [], ◌∷◌, List}
use Rattle.std.specs.Prelude.{is_some}
use Rattle.std.specs.Option.{option_copied}
use Rattle.std.specs.Ordering.{nat_cmp}
use Rattle.std.specs.Cmp.{unsigned_Decides}
use Rattle.std.specs.List.Sorted.{IsStrictlySortedBy}
use Rattle.std.proofs.lemmas.Bool.{false≢true}
use Rattle.adm_types.specs.declared.rows.Child.{Child}
use Rattle.adm_round.specs.declared.applicants.Pair.{Pair}
use Rattle.adm_round.specs.Round.{lots_of}
use Rattle.adm_waiting.specs.Waiting.{first_by_lot}
use Rattle.adm_commands.specs.Commands.Fill as fill
use Rattle.adm_commands.specs.Rules.{without_row}
use Rattle.adm_register.proofs.WaitLemmas.{waiters_rise, waiters_fit}
use Rattle.adm_commands.proofs.FillFit.{school_there, each_has_lot}
use Rattle.adm_commands.proofs.commands.fill.evaluate.Goals as goal

pub unreachable-requires : goal.unreachable-requires
unreachable-requires c =
    let there = school_there c.args.old.now c.args.draw c.args.school c.args.day c.args.lots.now (sym c.refusal_of-why.ensures ∙ c.in_default.is) in
    false≢true (ap is_some (ap option_copied (sym c.in_default-school.is) ∙ c.school.ensures) ∙ there)

pub first_by_lot-requires-clause-school : goal.first_by_lot-requires-clause-school
first_by_lot-requires-clause-school c = (c.requires.well_formed.base.schools_fit c.args.school c.in-Some-school.row.now (sym c.school.ensures ∙ ap option_copied c.in-Some-school.is)).in_range

pub first_by_lot-requires-clause-children : goal.first_by_lot-requires-clause-children
first_by_lot-requires-clause-children c = waiters_fit c.args.old.now c.requires.well_formed c.args.school c.deref-3.result.now (c.deref-3.ensures.value ∙ c.in_ok-waiting.ensures)

pub first_by_lot-requires-clause-numbers : goal.first_by_lot-requires-clause-numbers
first_by_lot-requires-clause-numbers c =
    subst (λ (children : List Child). IsStrictlySortedBy nat_cmp (map (λ (child : Child). child.no) children)) (sym (c.deref-3.ensures.value ∙ c.in_ok-waiting.ensures))
    (waiters_rise c.args.old.now c.requires.well_formed c.args.school)

pub unreachable-requires-in_default-first_by_lot : goal.unreachable-requires-in_default-first_by_lot
unreachable-requires-in_default-first_by_lot c =
    let children = c.deref-3.ensures.value ∙ c.in_ok-waiting.ensures in
    let one = each_has_lot c.args.old.now c.args.draw c.args.school c.args.day c.args.lots.now (sym c.refusal_of-why.ensures
    ∙ c.in_default.is) c.deref-3.result.now c.as_slice-2.result.now children c.as_slice-2.ensures in
    false≢true (ap is_some (sym c.in_default-first_by_lot.is) ∙ c.first_by_lot.ensures.some one.0 one.1 one.2)

pub returns : goal.returns
unfolding fill.change_of
returns c =
    let passes = sym c.refusal_of-why.ensures ∙ c.in_default.is in
    let children = c.deref-3.ensures.value ∙ c.in_ok-waiting.ensures in
    let there = sym c.school.ensures ∙ ap option_copied c.in-Some-school.is in
    let first = (λ i. first_by_lot c.in-Some-school.row.now (sym children i) (sym c.as_slice-2.ensures i)) ∙ sym c.first_by_lot.ensures.first ∙ c.in-Some-first_by_lot.is in
    let waiting = c.deref.ensures.value ∙ c.in_ok-waiting.ensures in
    let each = each_has_lot c.args.old.now c.args.draw c.args.school c.args.day c.args.lots.now passes c.deref.result.now c.as_slice.result.now waiting c.as_slice.ensures in
    let counted = (unsigned_Decides (length c.as_slice.result.now) (length c.deref.result.now)).1 each.1 in
    let lots = c.in_ok-drawn.ensures counted ∙ (λ i. lots_of (map {A = Child} {B = Pair} (λ child. record { school = c.args.school; child = child.no }) (waiting i)) (c.as_slice.ensures i)) in
    let none = c.none-change.ensures in
    let child = c.in-Some-first_by_lot.child in
    let draws = c.in_ok-change-2.ensures ∙ (λ i. fill.draw_of_fill c.args.draw c.args.school c.args.day child (lots i) ∷ []) in
    (ap without_row passes, (c.in-Some-school.row.now, there, child, first, λ i. record (none i) { places = c.in_ok-change.ensures i; draws = draws i }, refl))
