use Rattle.clap.specs.Words.{App, with_subcommand}
use Rattle.adm_words.specs.Program.{import_app, serve_app}
use Rattle.adm_words.proofs.command.with_takers.Goals as goal

pub returns : goal.returns
returns c = λ app is.
    let a : App = with_subcommand app import_app.top in
    let first = c.with-program.ensures app import_app is c.pair_command.ensures in
    c.with.ensures a serve_app first c.serve_command.ensures
