use Rattle.std.proofs.Common.{◌∙◌, ap, sym, true, false}
use Rattle.adm_types.specs.Limits.{is_listed}
use Rattle.adm_types.specs.declared.rows.School.{School}
use Rattle.adm_register.specs.Wanted.{wanted_of}
use Rattle.adm_register.proofs.TallyLemmas.{counted_if}
use Rattle.adm_register.proofs.tables.Tables.count_at.Goals as goal

pub count-requires-clause-child : goal.count-requires-clause-child
count-requires-clause-child c = (c.requires.well_formed.base.children_fit c.args.application.now.child c.args.child.now (sym c.requires.child)).in_range

pub returns-then-wants_above : goal.returns-then-wants_above
returns-then-wants_above c =
    let s = c.args.self.now in
    let application = c.args.application.now in
    c.count.ensures
    ∙ counted_if s application c.args.tally.now c.args.child.now c.requires.held c.requires.child true
    (sym c.if-wants_above.true ∙ c.wants_above.ensures ∙ ap (λ (school : School). is_listed (wanted_of s application) school.code) c.as_ref-school.ensures)

pub returns-else-wants_above : goal.returns-else-wants_above
returns-else-wants_above c =
    let s = c.args.self.now in
    let application = c.args.application.now in
    counted_if s application c.args.tally.now c.args.child.now c.requires.held c.requires.child false
    (sym c.if-wants_above.false ∙ c.wants_above.ensures ∙ ap (λ (school : School). is_listed (wanted_of s application) school.code) c.as_ref-school.ensures)
