use Rattle.clap.specs.Words.{App, with_subcommand}
use Rattle.adm_words.specs.Program.{letter_app, list_app, report_app, pairs_app, show_app}
use Rattle.adm_words.proofs.command.with_readers.Goals as goal

pub returns : goal.returns
returns c = λ app is.
    let a : App = with_subcommand app letter_app.top in
    let b : App = with_subcommand a list_app.top in
    let d : App = with_subcommand b report_app.top in
    let e : App = with_subcommand d pairs_app.top in
    let first = c.with-program.ensures app letter_app is c.pair_command.ensures in
    let second = c.with-program-2.ensures a list_app first c.pair_command-2.ensures in
    let third = c.with-program-3.ensures b report_app second c.pair_command-3.ensures in
    let fourth = c.with-program-4.ensures d pairs_app third c.pairs_command.ensures in
    c.with.ensures e show_app fourth c.show_command.ensures
