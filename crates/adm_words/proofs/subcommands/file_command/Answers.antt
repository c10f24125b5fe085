use Rattle.clap.specs.Words.{new_app}
use Rattle.adm_words.specs.Program.{file_rule}
use Rattle.adm_words.proofs.subcommands.file_command.Goals as goal

pub returns : goal.returns
returns c = c.with_arg.ensures (new_app c.args.name.now) file_rule c.named.ensures c.file.ensures
