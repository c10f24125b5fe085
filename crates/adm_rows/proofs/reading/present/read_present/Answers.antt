use Rattle.std.proofs.Common.{◌≡◌, ℕ, List, refl, sym, subst, arith}
use Rattle.std.proofs.lemmas.Result.{err_from_is_err_and}
use Rattle.adm_schema.specs.declared.version.Version.TheVariants.{Second}
use Rattle.adm_schema.specs.Schema.{present}
use Rattle.adm_schema.specs.Texts.{select_present}
use Rattle.adm_schema.proofs.Texts.{asks_present}
use Rattle.sqlite.specs.Held.{state}
use Rattle.adm_rows.specs.Present.{present_columns}
use Rattle.adm_rows.specs.Reads.{AsksAll}
use Rattle.adm_rows.proofs.CauseLemmas.{bad_rows, only_bad, rows_never_disk}
use Rattle.adm_rows.proofs.ReadingLemmas.{held, held_as}
use Rattle.adm_rows.proofs.reading.present.read_present.Goals as goal

asks : (text : List ℕ) → text ≡ select_present → AsksAll Second present text
asks text is = subst (AsksAll Second present) (sym is) (record { project = _; order = _; asks = asks_present; columns = λ _. refl; few = omega arith })

pub returns-in_err-rows-clause-bad : goal.returns-in_err-rows-clause-bad
returns-in_err-rows-clause-bad g c =
    let p = err_from_is_err_and c.from_residual.result c.from_residual.ensures.1 in
    rw (p.1, p.2) (λ structural all formed clean has held. c.in_err-rows.ensures.bad structural Second present (asks _ c.select_present.ensures) clean has)

pub returns-in_err-rows-clause-disk : goal.returns-in_err-rows-clause-disk
returns-in_err-rows-clause-disk g c =
    let p = err_from_is_err_and c.from_residual.result c.from_residual.ensures.1 in
    rw (p.1, p.2) (λ is. c.in_err-rows.ensures.disk tt is Second present (asks _ c.select_present.ensures))

pub returns-clause-ok : goal.returns-clause-ok
returns-clause-ok g c clean has =
    held present present_columns (state g.S.Store c.args.tx.now.conn.now).now.trees c.in_ok-rows.rows.items c.as_slice.result.now
    (c.in_ok-rows.ensures.ok Second present (asks _ c.select_present.ensures) clean has) c.as_slice.ensures.value
    c.in_ok-all.all.items c.in_ok-all.all.items refl c.in_ok-all.ensures.ok

pub returns-in_err-all-clause-bad : goal.returns-in_err-all-clause-bad
returns-in_err-all-clause-bad g c =
    let p = err_from_is_err_and c.from_residual-in_err-all.result c.from_residual-in_err-all.ensures.1 in
    rw (p.1, p.2) (λ structural all formed clean has holds.
    c.in_err-all.ensures.bad (bad_rows _ structural) all formed
    (held_as present present_columns (state g.S.Store c.args.tx.now.conn.now).now.trees c.in_ok-rows.rows.items c.as_slice.result.now
    (c.in_ok-rows.ensures.ok Second present (asks _ c.select_present.ensures) clean has) c.as_slice.ensures.value all holds))

pub returns-in_err-all-clause-first : goal.returns-in_err-all-clause-first
returns-in_err-all-clause-first g c clean =
    let p = err_from_is_err_and c.from_residual-in_err-all.result c.from_residual-in_err-all.ensures.1 in
    rw (p.1, p.2) (λ structural. only_bad _ structural)

pub returns-in_err-all-clause-disk : goal.returns-in_err-all-clause-disk
returns-in_err-all-clause-disk g c =
    let p = err_from_is_err_and c.from_residual-in_err-all.result c.from_residual-in_err-all.ensures.1 in
    rw (p.1, p.2) (λ is. absurd (rows_never_disk _ is))
