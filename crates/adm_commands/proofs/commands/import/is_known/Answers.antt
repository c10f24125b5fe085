use Rattle.std.proofs.Common.{◌∙◌, ap, sym}
use Rattle.std.specs.Option.{option_copied}
use Rattle.adm_commands.specs.Commands.Import.{is_same_as}
use Rattle.adm_commands.proofs.ImportBeside.{known_beside}
use Rattle.adm_commands.proofs.commands.import.is_known.Goals as goal

pub returns-in-None : goal.returns-in-None
returns-in-None c seen beside =
    sym (known_beside c.args.old.now c.args.added.now.entries seen beside c.args.row.now
    ∙ ap (λ o. is_same_as o c.args.row.now) (sym c.kept_row.ensures ∙ ap option_copied c.in-None.is))

pub returns-in-Some : goal.returns-in-Some
returns-in-Some c seen beside =
    c.is_same.ensures ∙ sym (known_beside c.args.old.now c.args.added.now.entries seen beside c.args.row.now
    ∙ ap (λ o. is_same_as o c.args.row.now) (sym c.kept_row.ensures ∙ ap option_copied c.in-Some.is))
