use Rattle.adm_words.specs.Program.{top_app, with_answerers, with_takers}
use Rattle.adm_words.proofs.Building.{app_is, is_local, wants_subcommand}
use Rattle.adm_words.proofs.command.program.Goals as goal

pub returns-clause-app : goal.returns-clause-app
returns-clause-app c =
    let q = c.with_answerers-program.ensures top_app c.top.ensures in
    let taking = c.with_takers.ensures (with_answerers q.0 top_app) q.2 in
    app_is q.0 _ q.1 (c.with_readers.ensures (with_takers (with_answerers q.0 top_app)) taking)

pub returns-clause-local : goal.returns-clause-local
returns-clause-local c =
    let q = c.with_answerers-program.ensures top_app c.top.ensures in
    let taking = c.with_takers.ensures (with_answerers q.0 top_app) q.2 in
    is_local q.0 _ (c.with_readers.ensures (with_takers (with_answerers q.0 top_app)) taking)

pub returns-clause-required : goal.returns-clause-required
returns-clause-required c =
    let q = c.with_answerers-program.ensures top_app c.top.ensures in
    let taking = c.with_takers.ensures (with_answerers q.0 top_app) q.2 in
    wants_subcommand q.0 _ (c.with_readers.ensures (with_takers (with_answerers q.0 top_app)) taking)
