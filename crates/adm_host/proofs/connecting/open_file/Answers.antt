use Rattle.std.proofs.Common.{ap}
use Rattle.sqlite.specs.Effect.{Database}
use Rattle.adm_host.proofs.Fresh.{if_some}
use Rattle.adm_host.proofs.connecting.open_file.Goals as goal

pub remains_of-requires : goal.remains_of-requires
remains_of-requires g c = if_some _ _ c.in-Err.left (λ left it. (it.0, it.1, it.2, λ clean. (it.3 clean).1)) c.in-Err.ensures.cause

pub returns-in-Ok-clause-found : goal.returns-in-Ok-clause-found
returns-in-Ok-clause-found g c = λ clean.
    let opened = c.in-Ok.ensures.opened clean in
    (opened.0.is_open, c.in-Ok.ensures.found clean, (opened.1 opened.0.is_open).1, ap (λ (db : Database). db.schema) opened.0.clean)
