use Rattle.std.proofs.Common.{◌∙◌, ap, sym, subst, Some}
use Rattle.std.specs.Prelude.{IsSorted}
use Rattle.std.specs.Option.{option_copied}
use Rattle.std.proofs.lemmas.Option.{same_Some, none-some}
use Rattle.adm_view.specs.Waits.{AreRanks, rank_cmp}
use Rattle.adm_view.proofs.Rows.{school_in_range, child_in_range}
use Rattle.adm_view.proofs.Positions.{ranks_there, standing_is}
use Rattle.adm_view.proofs.waits.standing.Goals as goal

pub returns-in_default-get : goal.returns-in_default-get
returns-in_default-get c =
    let there = sym c.school.ensures ∙ ap option_copied c.in-Some.is in
    let found =
    ranks_there c.args.register.now c.args.child.now.no c.args.waits.now c.args.code c.in-Some.school.now c.tables-tables.ensures.well_formed c.requires.waits
    (sym c.waits.ensures ∙ c.if-not-waits.false) there in
    absurd (none-some found.0 (sym (ap option_copied c.in_default-get.is) ∙ c.get.ensures.value ∙ found.1))

pub standing_among-requires-clause-school : goal.standing_among-requires-clause-school
standing_among-requires-clause-school c =
    school_in_range c.args.register.now c.tables-tables.ensures.well_formed c.args.code c.in-Some.school.now (sym c.school.ensures ∙ ap option_copied c.in-Some.is)

pub standing_among-requires-clause-child : goal.standing_among-requires-clause-child
standing_among-requires-clause-child c = child_in_range c.args.register.now c.tables-tables.ensures.well_formed c.args.child.now.no c.args.child.now c.requires.child

pub standing_among-requires-clause-sorted : goal.standing_among-requires-clause-sorted
standing_among-requires-clause-sorted c =
    let there = sym c.school.ensures ∙ ap option_copied c.in-Some.is in
    let found =
    ranks_there c.args.register.now c.args.child.now.no c.args.waits.now c.args.code c.in-Some.school.now c.tables-tables.ensures.well_formed c.requires.waits
    (sym c.waits.ensures ∙ c.if-not-waits.false) there in
    let same = c.deref.ensures.value ∙ ap (λ v. v.items) (same_Some c.in-Some-get.ranks.now found.0 (sym (ap option_copied c.in-Some-get.is) ∙ c.get.ensures.value ∙ found.1)) in
    subst (IsSorted rank_cmp) (sym same) found.2.sorted

pub returns : goal.returns
returns c =
    let there = sym c.school.ensures ∙ ap option_copied c.in-Some.is in
    let found =
    ranks_there c.args.register.now c.args.child.now.no c.args.waits.now c.args.code c.in-Some.school.now c.tables-tables.ensures.well_formed c.requires.waits
    (sym c.waits.ensures ∙ c.if-not-waits.false) there in
    let same = c.deref.ensures.value ∙ ap (λ v. v.items) (same_Some c.in-Some-get.ranks.now found.0 (sym (ap option_copied c.in-Some-get.is) ∙ c.get.ensures.value ∙ found.1)) in
    ap Some c.standing_among.ensures
    ∙ standing_is c.args.register.now c.in-Some.school.now c.deref.result.now (subst (AreRanks c.args.register.now c.in-Some.school.now) (sym same) found.2) c.args.child.now c.args.code found.3
    (sym c.waits.ensures ∙ c.if-not-waits.false) there c.requires.child
