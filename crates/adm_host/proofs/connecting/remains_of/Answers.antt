use Rattle.std.proofs.Common.{true, false, ap₂}
use Rattle.adm_host.proofs.Fresh.{image, of_some, seen, stays}
use Rattle.adm_host.proofs.connecting.remains_of.Goals as goal

pub returns-in-Some : goal.returns-in-Some
returns-in-Some g c =
    let (files, log, db, unharmed) = of_some _ c.args.left c.in-Some.left c.in-Some.is c.requires in
    let first = g.S.Start in (
      files,
      record {
        holds = ap₂ image (ap₂ (seen first.log first.db) log.0 log.1) (ap₂ (seen first.log first.db) db.0 db.1);
        only = λ left out. ap₂ image (stays first.log first.db first.is_mixing true _ _ _ left.log log.0 log.1 out.0) (stays first.log first.db first.is_mixing false _ _ _ left.db db.0 db.1 out.1);
      },
      unharmed,
    )
