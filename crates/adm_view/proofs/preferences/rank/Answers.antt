use Rattle.std.proofs.Common.{◌∙◌, sym, ap, option_copied}
use Rattle.adm_view.proofs.Rows.{school_in_range, child_in_range}
use Rattle.adm_view.proofs.preferences.rank.Goals as goal

pub rank_at-requires-clause-school : goal.rank_at-requires-clause-school
rank_at-requires-clause-school c =
    school_in_range c.args.register.now c.tables-tables.ensures.well_formed c.args.school c.in-Some.school.now (sym c.school.ensures ∙ ap option_copied c.in-Some.is)

pub rank_at-requires-clause-child : goal.rank_at-requires-clause-child
rank_at-requires-clause-child c = child_in_range c.args.register.now c.tables-tables.ensures.well_formed c.args.child.now.no c.args.child.now c.requires
