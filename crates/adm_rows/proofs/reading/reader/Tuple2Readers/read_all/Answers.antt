use Rattle.std.proofs.Common.{◌∙◌, arith}
use Rattle.std.proofs.lemmas.Result.{err_from_is_err_and}
use Rattle.sqlite.specs.Held.{state}
use Rattle.sqlite.specs.State.{HasCleanDisk}
use Rattle.adm_rows.proofs.CauseLemmas.{bad_rows, only_bad, rows_never_disk, failed_after}
use Rattle.adm_rows.proofs.ReadingLemmas.{held, held_as, still, seen_before, seen_after}
use Rattle.adm_rows.proofs.reading.reader.Tuple2Readers.read_all.Goals as goal

pub returns-clause-ok : goal.returns-clause-ok
returns-clause-ok g c v clean has =
    let old = state g.S.Store c.args.tx.now.conn.now in
    let early : HasCleanDisk (state g.S.Store c.query.new.tx.conn.now) = omega (arith, c.read_all.ensures.survives.clean, clean) in
    let same = c.in_ok-rows.ensures.same v _ (c.select.ensures v) in (
      held (g.R.Reader.table c.args.self.now.0) g.R.Reader.row_of old.now.trees c.in_ok-rows.rows.items _
          (c.in_ok-rows.ensures.ok v _ (c.select.ensures v) early has) c.as_slice.ensures.value _ _ c.from_vec.ensures c.in_ok-all.ensures.ok,
      seen_before v (state g.S.Store c.args.tx.now.conn.now)
          (state g.S.Store c.query.new.tx.conn.now) same early has (g.Others.Readers.AreHeld c.args.self.now.1 c.in_ok-others.others)
          (c.in_ok-others.ensures.ok v clean (still v (state g.S.Store c.args.tx.now.conn.now) (state g.S.Store c.query.new.tx.conn.now) same early has)),
    )

pub returns-clause-same : goal.returns-clause-same
returns-clause-same g c v clean has =
    let early : HasCleanDisk (state g.S.Store c.query.new.tx.conn.now) = omega (arith, c.read_all.ensures.survives.clean, clean) in
    let same = c.in_ok-rows.ensures.same v _ (c.select.ensures v) in
    c.in_ok-others.ensures.same v clean (still v (state g.S.Store c.args.tx.now.conn.now) (state g.S.Store c.query.new.tx.conn.now) same early has) ∙ same early has

pub returns-in_err-all-clause-bad : goal.returns-in_err-all-clause-bad
returns-in_err-all-clause-bad g c =
    let p = err_from_is_err_and c.from_residual-in_err-all.result c.from_residual-in_err-all.ensures.1 in
    rw (p.1, p.2) (λ structural all fit v clean has there.
    c.in_err-all.ensures.bad (bad_rows _ structural) all.0 fit.0
    (held_as (g.R.Reader.table c.args.self.now.0) g.R.Reader.row_of (state g.S.Store c.args.tx.now.conn.now).now.trees c.in_ok-rows.rows.items _
    (c.in_ok-rows.ensures.ok v _ (c.select.ensures v) clean has) c.as_slice.ensures.value all.0 there.0))

pub returns-in_err-rows-clause-disk : goal.returns-in_err-rows-clause-disk
returns-in_err-rows-clause-disk g c =
    let p = err_from_is_err_and c.from_residual.result c.from_residual.ensures.1 in
    rw (p.1, p.2) (λ is v. c.in_err-rows.ensures.disk tt is v _ (c.select.ensures v))

pub returns-in_err-all-clause-disk : goal.returns-in_err-all-clause-disk
returns-in_err-all-clause-disk g c =
    let p = err_from_is_err_and c.from_residual-in_err-all.result c.from_residual-in_err-all.ensures.1 in
    rw (p.1, p.2) (λ is. absurd (rows_never_disk _ is))

pub returns-in_err-others-clause-disk : goal.returns-in_err-others-clause-disk
returns-in_err-others-clause-disk g c =
    let p = err_from_is_err_and c.from_residual-in_err-others.result c.from_residual-in_err-others.ensures.1 in
    rw (p.1, p.2) (λ is. failed_after (state g.S.Store c.args.tx.now.conn.now) (state g.S.Store c.query.new.tx.conn.now)
    (state g.S.Store c.read_all.new.tx.conn.now) c.query.ensures.survives c.read_all.ensures.survives (λ v. c.in_ok-rows.ensures.same v _ (c.select.ensures v)) (c.in_err-others.ensures.disk is))

pub returns-in_err-rows-clause-bad : goal.returns-in_err-rows-clause-bad
returns-in_err-rows-clause-bad g c =
    let p = err_from_is_err_and c.from_residual.result c.from_residual.ensures.1 in
    rw (p.1, p.2) (λ structural all fit v clean has there. c.in_err-rows.ensures.bad structural v _ (c.select.ensures v) clean has)

pub returns-in_err-others-clause-bad : goal.returns-in_err-others-clause-bad
returns-in_err-others-clause-bad g c =
    let p = err_from_is_err_and c.from_residual-in_err-others.result c.from_residual-in_err-others.ensures.1 in
    rw (p.1, p.2) (λ structural all fit v clean has there.
    let early : HasCleanDisk (state g.S.Store c.query.new.tx.conn.now) = omega (arith, c.read_all.ensures.survives.clean, clean) in
    let same = c.in_ok-rows.ensures.same v _ (c.select.ensures v) in
    c.in_err-others.ensures.bad structural all.1 fit.1 v clean (still v (state g.S.Store c.args.tx.now.conn.now) (state g.S.Store c.query.new.tx.conn.now) same early has)
    (seen_after v (state g.S.Store c.args.tx.now.conn.now) (state g.S.Store c.query.new.tx.conn.now) same early has (g.Others.Readers.AreHeld c.args.self.now.1 all.1) there.1))

pub returns-in_err-all-clause-first : goal.returns-in_err-all-clause-first
returns-in_err-all-clause-first g c clean =
    let p = err_from_is_err_and c.from_residual-in_err-all.result c.from_residual-in_err-all.ensures.1 in
    rw (p.1, p.2) (λ structural. only_bad _ structural)
