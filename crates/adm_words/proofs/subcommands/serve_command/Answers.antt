use Rattle.std.proofs.Common.{codes}
use Rattle.clap.specs.Words.{App, new_app, with_rule}
use Rattle.adm_words.specs.Program.{file_rule, port_rule, count_rule}
use Rattle.adm_words.proofs.subcommands.serve_command.Goals as goal

pub returns : goal.returns
returns c =
    let named : App = with_rule (new_app (codes "serve")) file_rule in
    let first = c.with_arg-serve.ensures named port_rule c.file_command.ensures c.port.ensures in
    c.with_arg.ensures (with_rule named port_rule) count_rule first c.count.ensures
