use Rattle.clap.specs.Words.{new_app, with_rule}
use Rattle.adm_words.specs.Program.{file_rule, required_rule}
use Rattle.adm_words.proofs.subcommands.pair_command.Goals as goal

pub returns : goal.returns
returns c =
    let pair = c.args.pair.now in
    c.with_arg.ensures (with_rule (new_app pair.name.now) file_rule) (required_rule pair.id.now) c.file_command.ensures c.required-argument.ensures
