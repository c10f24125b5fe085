use Rattle.std.proofs.Common.{◌≡◌, ◌∙◌, Err, ap, arith, rules, subst, sym}
use Rattle.std.proofs.lemmas.Result.{err_from_is_err_and}
use Rattle.sqlite.specs.Held.{state}
use Rattle.sqlite.specs.State.{HasCleanDisk}
use Rattle.adm_schema.specs.Schema.{meta, schema_of}
use Rattle.adm_schema.proofs.Listed.{meta_in}
use Rattle.adm_rows.specs.Reads.{HoldsSeason}
use Rattle.adm_rows.specs.Represents.{HoldsRows, HoldsRegister}
use Rattle.adm_rows.specs.FirstFault.{IsFirstFault}
use Rattle.adm_rows.specs.Faults.{IsNoRegister}
use Rattle.adm_rows.proofs.FaultLemmas.{one_version}
use Rattle.adm_rows.proofs.CauseLemmas.{bad_rows, only_bad, rows_never_disk, failed_in, cause_here, cause_of_season}
use Rattle.adm_rows.proofs.ReadingLemmas.{still, seen_before, seen_after}
use Rattle.adm_rows.proofs.ReadBack.{season_back, version_back, count_back}
use Rattle.adm_rows.proofs.RegisterRows.{holds_register, rows_held}
use Rattle.adm_rows.proofs.RowsFit.{few_enough}
use Rattle.sqlite.proofs.StateLemmas.{survives_then}
use Rattle.adm_rows.proofs.reading.register_in.Goals as goal

-- the version that the row names is that of the tables
pub returns-in-Ok-clause-ok : goal.returns-in-Ok-clause-ok
returns-in-Ok-clause-ok g c clean has =
    let old = state g.S.Store c.args.tx.now.conn.now in
    let mid = state g.S.Store c.read_season.new.tx.conn.now in
    let v = c.in_ok-first.first.version in
    let early : HasCleanDisk mid = omega (arith, c.rows_in.ensures.survives.clean, clean) in
    let named : v ≡ c.in-Some.version = search rules in
    let here : old.now.schema ≡ schema_of v = has ∙ ap schema_of (sym named) in
    let same = c.in_ok-first.ensures.same v in
    let rows = c.in_ok-rows.rows in
    let season = c.in_ok-first.first.season in
    let there = seen_before v old mid same early here (λ db. HoldsSeason v season c.in_ok-first.first.draws db
    → HoldsRows v db rows) (c.in_ok-rows.ensures.ok clean (still v old mid same early here)) (c.in_ok-first.ensures.ok v early here) in
    subst (λ u. HoldsRegister u old.now.trees c.in-Ok.register) named (holds_register v old.now.trees c.in-Ok.register rows there c.in-Ok.ensures.register.0 c.in-Ok.ensures.register.1)

pub returns-in_err-first-clause-bad : goal.returns-in_err-first-clause-bad
returns-in_err-first-clause-bad g c =
    let p = err_from_is_err_and c.from_residual.result c.from_residual.ensures.1 in
    rw (p.1, p.2) (λ structural r w clean has held. c.in_err-first.ensures.bad structural w r.season _ held.formed.base.season_is
    (few_enough r held.formed) w clean has (held.rows.each meta (meta_in w)))

pub returns-in_err-rows-clause-bad : goal.returns-in_err-rows-clause-bad
returns-in_err-rows-clause-bad g c =
    let p = err_from_is_err_and c.from_residual-in_err-rows.result c.from_residual-in_err-rows.ensures.1 in
    rw (p.1, p.2) (λ structural r w clean has held.
    let old = state g.S.Store c.args.tx.now.conn.now in
    let mid = state g.S.Store c.read_season.new.tx.conn.now in
    let v = c.in_ok-first.first.version in
    let early : HasCleanDisk mid = omega (arith, c.rows_in.ensures.survives.clean, clean) in
    let one = c.in_ok-first.ensures.ok w early has in
    let own : w ≡ v = version_back w v _ r c.in_ok-first.first.season _ one held in
    let here : old.now.schema ≡ schema_of v = has ∙ ap schema_of own in
    let same = c.in_ok-first.ensures.same v in
    let season = season_back w v _ r c.in_ok-first.first.season _ one c.in_ok-first.ensures.season c.in_ok-first.ensures.sized held in
    let count = count_back w v _ r c.in_ok-first.first.season _ one held in
    c.in_err-rows.ensures.bad structural r (season, count) clean (still v old mid same early here)
    (seen_after v old mid same early here (λ db. HoldsSeason v c.in_ok-first.first.season c.in_ok-first.first.draws db) (c.in_ok-first.ensures.ok v early here))
    (seen_after v old mid same early here (λ db. HoldsRegister v db r) (subst (λ u. HoldsRegister u old.now.trees r) own held)))

-- no register has the row of one version and the tables of another
pub returns-then-ne-clause-bad : goal.returns-then-ne-clause-bad
returns-then-ne-clause-bad g c structural r w clean has held =
    let old = state g.S.Store c.args.tx.now.conn.now in
    let v = c.in_ok-first.first.version in
    let other : v ≡ c.in-Some.version → ⊥ = search rules in
    let tables : old.now.schema ≡ schema_of c.in-Some.version = search rules in
    let own : w ≡ v = version_back w v _ r c.in_ok-first.first.season _ (c.in_ok-first.ensures.ok w clean has) held in
    other (sym own ∙ one_version w c.in-Some.version (sym has ∙ tables))

pub returns-in-Err-clause-bad : goal.returns-in-Err-clause-bad
returns-in-Err-clause-bad g c structural r w clean has held =
    let old = state g.S.Store c.args.tx.now.conn.now in
    let mid = state g.S.Store c.read_season.new.tx.conn.now in
    let v = c.in_ok-first.first.version in
    let early : HasCleanDisk mid = omega (arith, c.rows_in.ensures.survives.clean, clean) in
    let rows = c.in_ok-rows.rows in
    let season = c.in_ok-first.first.season in
    let one = c.in_ok-first.ensures.ok w early has in
    let own : w ≡ v = version_back w v _ r season _ one held in
    let here : old.now.schema ≡ schema_of v = has ∙ ap schema_of own in
    let same = c.in_ok-first.ensures.same v in
    let there = seen_before v old mid same early here (λ db. HoldsSeason v season c.in_ok-first.first.draws db
    → HoldsRows v db rows) (c.in_ok-rows.ensures.ok clean (still v old mid same early here)) one in
    let back = season_back w v _ r season _ one c.in_ok-first.ensures.season c.in_ok-first.ensures.sized held in
    let reported = bad_rows _ (subst IsNoRegister c.from.ensures structural) in
    c.from_rows.ensures.bad_row (c.in-Err.is ∙ ap Err reported) r held.formed
    (rows_held v _ r rows (subst (λ u. HoldsRegister u old.now.trees r) own held) there c.in_ok-rows.ensures.again (c.in_ok-rows.ensures.season ∙ sym back))

pub returns-in-Err-clause-first : goal.returns-in-Err-clause-first
returns-in-Err-clause-first g c clean structural =
    let early : HasCleanDisk (state g.S.Store c.read_season.new.tx.conn.now) = omega (arith, c.rows_in.ensures.survives.clean, clean) in
    let reported = only_bad _ (subst IsNoRegister c.from.ensures structural) in
    subst (λ e. IsFirstFault (state g.S.Store c.args.tx.now.conn.now).now e) (sym (c.from.ensures ∙ reported)) (c.in_ok-first.ensures.version early)

pub returns-in-Err-clause-disk : goal.returns-in-Err-clause-disk
returns-in-Err-clause-disk g c is = absurd (rows_never_disk _ (sym c.from.ensures ∙ is))

pub returns-in_err-first-clause-disk : goal.returns-in_err-first-clause-disk
returns-in_err-first-clause-disk g c =
    let p = err_from_is_err_and c.from_residual.result c.from_residual.ensures.1 in
    rw (p.1, p.2) (λ is. cause_of_season (state g.S.Store c.args.tx.now.conn.now)
    (state g.S.Store c.read_season.new.tx.conn.now) c.args.version c.requires.tables c.requires.none (c.in_err-first.ensures.disk is) (c.in_err-first.ensures.unanswered is))

pub returns-in_err-rows-clause-disk : goal.returns-in_err-rows-clause-disk
returns-in_err-rows-clause-disk g c =
    let p = err_from_is_err_and c.from_residual-in_err-rows.result c.from_residual-in_err-rows.ensures.1 in
    let old = state g.S.Store c.args.tx.now.conn.now in
    let v = c.in_ok-first.first.version in
    let named : v ≡ c.in-Some.version = search rules in
    let tables : old.now.schema ≡ schema_of c.in-Some.version = search rules in
    rw (p.1, p.2) (λ is. cause_here v old (state g.S.Store c.rows_in.new.tx.conn.now)
    (failed_in old (state g.S.Store c.read_season.new.tx.conn.now) (state g.S.Store c.rows_in.new.tx.conn.now) v c.read_season.ensures.survives c.rows_in.ensures.survives
    (c.in_ok-first.ensures.same v) (c.in_err-rows.ensures.disk is)) (tables ∙ ap schema_of (sym named)))

pub returns-in-Ok-clause-survives : goal.returns-in-Ok-clause-survives
returns-in-Ok-clause-survives g c = survives_then _ _ _ (λ _. ⊥) (λ _. ⊥) (λ _. ⊥) (λ clean db none. none) (λ clean db none. none) c.read_season.ensures.survives c.rows_in.ensures.survives
