use Rattle.std.proofs.Common.{◌∙◌, ap, sym}
use Rattle.std.specs.FinMap as rows
use Rattle.std.specs.Option.{option_copied}
use Rattle.adm_view.proofs.Rows.{school_code}
use Rattle.adm_view.proofs.entries.school_entry_text.Goals as goal

pub known_school_text-requires : goal.known_school_text-requires
known_school_text-requires c =
    let there = sym c.school.ensures ∙ ap option_copied c.in-Some.is in
    ap (rows.get c.args.register.now.schools) (school_code c.args.register.now c.tables-tables.ensures.well_formed c.args.code c.in-Some.school.now there) ∙ there
