use Rattle.std.proofs.Common.{arith}
use Rattle.std.proofs.lemmas.Result.{err_from_is_err_and}
use Rattle.sqlite.specs.Held.{state}
use Rattle.sqlite.specs.State.{HasCleanDisk}
use Rattle.adm_desk.proofs.OpenLemmas.{each_represents, finds_it, holds_none}
use Rattle.adm_crashes.proofs.restart.restart.Goals as goal

pub returns-in_err-conn-clause-left : goal.returns-in_err-conn-clause-left
returns-in_err-conn-clause-left g c =
    let left = c.in_err-conn.ensures.left in
    let p = err_from_is_err_and c.from_residual.result c.from_residual.ensures.1 in
    rw (p.1, p.2) (λ clean. (left.clean clean, λ db may. (db, left.outcomes db may, λ r was. was)))

pub returns-in-Ok-clause-finds : goal.returns-in-Ok-clause-finds
returns-in-Ok-clause-finds g c clean =
    let conn = c.in_ok-conn.conn in
    let desk = c.in-Ok.desk in
    let kept = c.in-Ok.ensures.kept in
    let early : HasCleanDisk (state g.S.Store conn) = omega (arith, kept.clean, clean) in
    let from = c.in_ok-conn.ensures.from early in
    let stays = g.met.S.Store.stays conn.store (c.in_ok-conn.ensures.started early) in (
      from.clean,
      (
        (state g.S.Store conn).committed.trees,
        from.found,
        finds_it c.one_register.ensures (state g.S.Store conn) (state g.S.Store desk.conn) kept clean from.only stays (g.met.S.Store.survives desk.conn.store clean) desk.register
            c.in-Ok.ensures.opened.1,
      ),
    )

pub returns-in-Err-clause-left : goal.returns-in-Err-clause-left
returns-in-Err-clause-left g c late =
    let conn = c.in_ok-conn.conn in
    let after = c.in-Err.conn in
    let kept = c.in-Err.ensures.left in
    let quiet = c.into_store.ensures.quiet in
    let clean : HasCleanDisk (state g.S.Store after) = omega (arith, quiet.clean, late) in
    let early : HasCleanDisk (state g.S.Store conn) = omega (arith, kept.clean, clean) in
    let from = c.in_ok-conn.ensures.from early in
    let stays = g.met.S.Store.stays conn.store (c.in_ok-conn.ensures.started early) in (
      from.clean,
      λ db may. (
        (state g.S.Store conn).committed.trees,
        from.found,
        λ r was.
            each_represents c.one_register.ensures (state g.S.Store conn) (state g.S.Store after) kept clean from.only stays (g.met.S.Store.survives after.store clean) r was db
            (quiet.outcomes db may),
      ),
    )

pub returns-in-Err-clause-never : goal.returns-in-Err-clause-never
returns-in-Err-clause-never g c late bad =
    let conn = c.in_ok-conn.conn in
    let after = c.in-Err.conn in
    let kept = c.in-Err.ensures.left in
    let clean : HasCleanDisk (state g.S.Store after) = omega (arith, c.into_store.ensures.quiet.clean, late) in
    let early : HasCleanDisk (state g.S.Store conn) = omega (arith, kept.clean, clean) in
    let from = c.in_ok-conn.ensures.from early in
    let stays = g.met.S.Store.stays conn.store (c.in_ok-conn.ensures.started early) in (
      (state g.S.Store conn).committed.trees,
      from.found,
      holds_none c.one_register.ensures (state g.S.Store conn) (state g.S.Store after) kept clean from.only stays (g.met.S.Store.survives after.store clean) (c.in-Err.ensures.bad bad),
    )
