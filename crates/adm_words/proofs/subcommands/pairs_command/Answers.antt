use Rattle.std.proofs.Common.{codes}
use Rattle.clap.specs.Words.{App, new_app, with_rule}
use Rattle.adm_words.specs.Program.{file_rule, school_rule}
use Rattle.adm_words.proofs.subcommands.pairs_command.Goals as goal

pub returns : goal.returns
returns c =
    let named : App = with_rule (new_app (codes "pairs")) file_rule in
    c.with_arg.ensures named school_rule c.file_command.ensures c.school.ensures
