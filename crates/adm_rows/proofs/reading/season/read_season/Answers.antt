use Rattle.std.proofs.Common.{◌≡◌, ◌∙◌, ℕ, List, refl, sym, ap, subst, arith}
use Rattle.std.proofs.lemmas.List.Sorted.{IsPermutation-sym, IsPermutation-trans}
use Rattle.std.proofs.lemmas.Result.{err_from_is_err_and}
use Rattle.sqlite.specs.Held.{state}
use Rattle.sqlite.proofs.Callers.{one_permutation}
use Rattle.adm_schema.specs.declared.version.Version.{Version}
use Rattle.adm_schema.specs.Schema.{meta}
use Rattle.adm_schema.specs.Texts.{select_meta}
use Rattle.adm_schema.proofs.Texts.{asks_meta}
use Rattle.adm_rows.specs.declared.fault.OpenFault.TheVariants.{BadRow, Version as NoVersion}
use Rattle.adm_rows.specs.Forms.{season_row}
use Rattle.adm_rows.specs.FirstFault.{first_open_fault}
use Rattle.adm_rows.specs.Reads.{AsksAll}
use Rattle.adm_rows.specs.Represents.{HasRows}
use Rattle.adm_rows.proofs.FirstFaultLemmas.{first_by_rows, first_refused}
use Rattle.std.specs.Prelude.{if◌then◌else◌}
use Rattle.adm_rows.proofs.SeasonRows.{code_known}
use Rattle.adm_rows.proofs.reading.season.read_season.Goals as goal

asks : (v : Version) (text : List ℕ) → text ≡ select_meta → AsksAll v meta text
asks v text is = subst (AsksAll v meta) (sym is) (record { project = _; order = _; asks = asks_meta v; columns = λ _. refl; few = omega arith })

pub returns-clause-ok : goal.returns-clause-ok
returns-clause-ok g c v clean has = subst (λ rows. HasRows meta rows (state g.S.Store c.args.tx.now.conn.now).now.trees) (sym c.as_slice.ensures.value
    ∙ c.in_ok-meta_row.ensures.ok) (c.in_ok-rows.ensures.ok v meta (asks v _ c.select_meta.ensures) clean has)

pub returns-clause-same : goal.returns-clause-same
returns-clause-same g c v = c.in_ok-rows.ensures.same v meta (asks v _ c.select_meta.ensures)

pub returns-in_err-rows-clause-bad : goal.returns-in_err-rows-clause-bad
returns-in_err-rows-clause-bad g c =
    let p = err_from_is_err_and c.from_residual.result c.from_residual.ensures.1 in
    rw (p.1, p.2) (λ structural u s n is few v clean has held. c.in_err-rows.ensures.bad structural v meta (asks v _ c.select_meta.ensures) clean has)

pub returns-in_err-meta_row-clause-bad : goal.returns-in_err-meta_row-clause-bad
returns-in_err-meta_row-clause-bad g c =
    let p = err_from_is_err_and c.from_residual-in_err-meta_row.result c.from_residual-in_err-meta_row.ensures.1 in
    rw (p.1, p.2) (λ structural u s n is few v clean has held.
    let one = one_permutation (season_row u s n) c.in_ok-rows.rows.items
    (IsPermutation-trans _ _ _ held (IsPermutation-sym _ _ (c.in_ok-rows.ensures.ok v meta (asks v _ c.select_meta.ensures) clean has))) in
    c.in_err-meta_row.ensures.bad structural u s n is few (c.as_slice.ensures.value ∙ one))

pub returns-in_err-rows-clause-first : goal.returns-in_err-rows-clause-first
returns-in_err-rows-clause-first g c clean =
    let p = err_from_is_err_and c.from_residual.result c.from_residual.ensures.1 in
    rw (p.1, p.2) (λ structural.
    let refused = rw (c.select_meta.ensures) at c.in_err-rows.ensures.refused clean structural in
    first_refused _ _ refused.1 (λ v has. c.in_err-rows.ensures.bad structural v meta (asks v _ c.select_meta.ensures) clean has) refused.0)

pub returns-in_err-meta_row-clause-first : goal.returns-in_err-meta_row-clause-first
returns-in_err-meta_row-clause-first g c clean =
    let p = err_from_is_err_and c.from_residual-in_err-meta_row.result c.from_residual-in_err-meta_row.ensures.1 in
    rw (p.1, p.2) (λ structural. first_by_rows _ c.in_ok-rows.rows.items _ (rw (c.select_meta.ensures) at c.in_ok-rows.ensures.answered clean)
    (λ v has. IsPermutation-sym _ _ (c.in_ok-rows.ensures.ok v meta (asks v _ c.select_meta.ensures) clean has)) (c.in_err-meta_row.ensures.first structural
    ∙ ap first_open_fault c.as_slice.ensures.value))

pub returns-clause-version : goal.returns-clause-version
returns-clause-version g c clean =
    let row = sym c.as_slice.ensures.value ∙ c.in_ok-meta_row.ensures.ok in
    first_by_rows _ c.in_ok-rows.rows.items BadRow (rw (c.select_meta.ensures) at c.in_ok-rows.ensures.answered clean)
    (λ v has. IsPermutation-sym _ _ (c.in_ok-rows.ensures.ok v meta (asks v _ c.select_meta.ensures) clean has))
    (sym (ap first_open_fault row ∙ ap (λ b. if b then BadRow else NoVersion) (code_known c.in_ok-meta_row.meta_row.version c.in_ok-meta_row.meta_row.season.size)))

pub returns-in_err-rows-clause-disk : goal.returns-in_err-rows-clause-disk
returns-in_err-rows-clause-disk g c =
    let p = err_from_is_err_and c.from_residual.result c.from_residual.ensures.1 in
    rw (p.1, p.2) (λ is v. c.in_err-rows.ensures.disk tt is v meta (asks v _ c.select_meta.ensures))

pub returns-in_err-rows-clause-unanswered : goal.returns-in_err-rows-clause-unanswered
returns-in_err-rows-clause-unanswered g c =
    let p = err_from_is_err_and c.from_residual.result c.from_residual.ensures.1 in
    rw (p.1, p.2) (λ is. rw (c.select_meta.ensures) at c.in_err-rows.ensures.unanswered tt is)
