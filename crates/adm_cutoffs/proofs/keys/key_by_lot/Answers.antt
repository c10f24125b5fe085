use Rattle.std.proofs.Common.{◌∙◌, ap, sym}
use Rattle.std.specs.Option.{option_copied}
use Rattle.adm_cutoffs.proofs.keys.key_by_lot.Goals as goal

pub key-requires-clause-school : goal.key-requires-clause-school
key-requires-clause-school c =
    (c.tables-tables.ensures.well_formed.base.schools_fit c.args.lot.now.school c.in-Some.school.now (sym c.school.ensures ∙ ap option_copied c.in-Some.is)).in_range

pub key-requires-clause-child : goal.key-requires-clause-child
key-requires-clause-child c =
    (c.tables-tables.ensures.well_formed.base.children_fit c.args.lot.now.child c.in-Some-child.child.now (sym c.child.ensures ∙ ap option_copied c.in-Some-child.is)).in_range
