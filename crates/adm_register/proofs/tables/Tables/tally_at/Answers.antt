use Rattle.std.proofs.Common.{◌∙◌, ap, sym}
use Rattle.std.specs.Option.{option_copied}
use Rattle.adm_types.specs.Limits.{is_school_in_range}
use Rattle.adm_register.proofs.tables.Tables.tally_at.Goals as goal

pub new-requires-clause-school : goal.new-requires-clause-school
new-requires-clause-school c =
    ap is_school_in_range c.in_ok-shared.ensures.cases ∙ (c.requires.base.schools_fit c.args.school c.in-Some.row.now (sym c.shared_school.ensures ∙ ap option_copied c.in-Some.is)).in_range

pub new-requires-clause-child : goal.new-requires-clause-child
new-requires-clause-child c = (c.requires.base.children_fit c.args.child c.in-Some-child.one.now (sym c.child.ensures ∙ ap option_copied c.in-Some-child.is)).in_range
