use Rattle.std.proofs.Common.{arith}
use Rattle.std.proofs.lemmas.Result.{err_from_is_err_and}
use Rattle.sqlite.specs.Held.{state}
use Rattle.sqlite.specs.State.{HasCleanDisk}
use Rattle.adm_rows.specs.Reads.{HoldsFirst}
use Rattle.adm_rows.specs.Represents.{HoldsRegister, HoldsRows}
use Rattle.adm_rows.proofs.CauseLemmas.{failed_in}
use Rattle.adm_rows.proofs.ReadingLemmas.{still, seen_before, seen_after}
use Rattle.adm_rows.proofs.reading.rows_in.Goals as goal

pub returns-clause-ok : goal.returns-clause-ok
returns-clause-ok g c clean has season =
    let old = state g.S.Store c.args.tx.now.conn.now in
    let mid = state g.S.Store c.first_tables.new.tx.conn.now in
    let v = c.args.first.version in
    let early : HasCleanDisk mid = omega (arith, c.with_presents.ensures.survives.clean, clean) in
    let same = c.in_ok-rows.ensures.same v in
    let first = c.in_ok-rows.ensures.ok early has season in
    seen_before v old mid same early has (λ db. HoldsRows v db c.in_ok-all.all)
    (c.in_ok-all.ensures.ok clean (still v old mid same early has) (seen_after v old mid same early has (λ db. HoldsFirst v c.in_ok-rows.rows db) first))

pub returns-in_err-rows-clause-bad : goal.returns-in_err-rows-clause-bad
returns-in_err-rows-clause-bad g c =
    let p = err_from_is_err_and c.from_residual.result c.from_residual.ensures.1 in
    rw (p.1, p.2) (λ structural r same clean has season. c.in_err-rows.ensures.bad structural r same clean has)

pub returns-in_err-rows-clause-disk : goal.returns-in_err-rows-clause-disk
returns-in_err-rows-clause-disk g c =
    let p = err_from_is_err_and c.from_residual.result c.from_residual.ensures.1 in
    rw (p.1, p.2) (λ is. c.in_err-rows.ensures.disk is c.args.first.version)

pub returns-in_err-all-clause-bad : goal.returns-in_err-all-clause-bad
returns-in_err-all-clause-bad g c =
    let p = err_from_is_err_and c.from_residual-in_err-all.result c.from_residual-in_err-all.ensures.1 in
    rw (p.1, p.2) (λ structural r of_season clean has season held.
    let old = state g.S.Store c.args.tx.now.conn.now in
    let mid = state g.S.Store c.first_tables.new.tx.conn.now in
    let v = c.args.first.version in
    let early : HasCleanDisk mid = omega (arith, c.with_presents.ensures.survives.clean, clean) in
    let same = c.in_ok-rows.ensures.same v in
    let first = c.in_ok-rows.ensures.ok early has season in
    c.in_err-all.ensures.bad structural c.in_ok-rows.ensures.again r clean (still v old mid same early has)
    (seen_after v old mid same early has (λ db. HoldsFirst v c.in_ok-rows.rows db) first) (seen_after v old mid same early has (λ db. HoldsRegister v db r) held))

pub returns-in_err-all-clause-disk : goal.returns-in_err-all-clause-disk
returns-in_err-all-clause-disk g c =
    let p = err_from_is_err_and c.from_residual-in_err-all.result c.from_residual-in_err-all.ensures.1 in
    rw (p.1, p.2) (λ is. failed_in (state g.S.Store c.args.tx.now.conn.now) (state g.S.Store c.first_tables.new.tx.conn.now)
    (state g.S.Store c.with_presents.new.tx.conn.now) c.args.first.version c.first_tables.ensures.survives c.with_presents.ensures.survives
    (c.in_ok-rows.ensures.same c.args.first.version) (c.in_err-all.ensures.disk is))
