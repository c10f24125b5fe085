use Rattle.std.proofs.Common.{◌∙◌, ap, sym}
use Rattle.std.specs.FinMap as rows
use Rattle.std.specs.Option.{option_copied}
use Rattle.adm_view.proofs.Rows.{child_number}
use Rattle.adm_view.proofs.entries.child_entry_text.Goals as goal

pub known_child_text-requires : goal.known_child_text-requires
known_child_text-requires c =
    let there = sym c.child.ensures ∙ ap option_copied c.in-Some.is in
    ap (rows.get c.args.register.now.children) (child_number c.args.register.now c.tables-tables.ensures.well_formed c.args.number c.in-Some.child.now there) ∙ there
