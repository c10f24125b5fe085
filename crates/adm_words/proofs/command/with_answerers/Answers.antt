use Rattle.clap.specs.Words.{App, with_subcommand}
use Rattle.adm_words.specs.Program.{init_app, do_app, what_if_app}
use Rattle.adm_words.proofs.command.with_answerers.Goals as goal

pub returns : goal.returns
returns c = λ app is.
    let q = c.init_command.ensures in
    let a : App = with_subcommand app (init_app q.0).top in
    let b : App = with_subcommand a do_app.top in
    let first = c.with-program.ensures app (init_app q.0) is q.2 in
    let second = c.with-program-2.ensures a do_app first c.do_command.ensures in
    (q.0, q.1, c.with.ensures b what_if_app second c.what_if_command.ensures)
