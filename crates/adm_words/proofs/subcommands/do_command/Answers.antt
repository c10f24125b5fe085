use Rattle.adm_words.proofs.subcommands.do_command.Goals as goal

pub returns : goal.returns
returns c = c.file_command.ensures
