use Rattle.std.proofs.Common.{codes}
use Rattle.clap.specs.Words.{App, new_app, with_rule}
use Rattle.adm_words.specs.Program.{file_rule, draw_rule}
use Rattle.adm_words.proofs.subcommands.show_command.Goals as goal

pub returns : goal.returns
returns c =
    let named : App = with_rule (new_app (codes "show")) file_rule in
    c.with_arg.ensures named draw_rule c.file_command.ensures c.draw.ensures
