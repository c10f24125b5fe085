use Rattle.std.proofs.Common.{rules, arith, subst, ◌≡◌, OnOk, IsTrue}
use Rattle.sqlite.specs.Held.{state}
use Rattle.sqlite.specs.State.{HasCleanDisk, Survives}
use Rattle.sqlite.proofs.Callers.{survives_begin}
use Rattle.adm_schema.proofs.Inside.{survives_on}
use Rattle.adm_store.specs.Changes.{RepresentsNew}
use Rattle.adm_store.proofs.CommitLemmas.{survives_commit, on_ok, commits_file}
use Rattle.adm_store.proofs.CreationLemmas.{created}
use Rattle.adm_store.proofs.creation.build.Goals as goal

pub returns-clause-committed : goal.returns-clause-committed
returns-clause-committed g c clean =
    let made = state g.S.Store c.create_tables.new.tx.conn.now in
    let last = state g.S.Store c.run.new.tx.conn.now in
    let end = c.commit.new.self.0 in
    let same : end ≡ c.conn-2-1.given.0 = search rules in
    let late : HasCleanDisk (state g.S.Store end) = search rules in
    let early : HasCleanDisk last = omega (arith, c.commit.ensures.survives.clean) in
    let file : RepresentsNew c.args.row.now last.now.trees = λ season it. created g.S.Store c.args.conn.now c.transaction-tx.result.conn.now made last season
    c.args.row.now it c.transaction-tx.ensures.begun c.requires.empty c.schema-tables.ensures.live
    c.create_tables.ensures.survives.clean c.run.ensures.survives.clean c.in_ok-create_tables.ensures.made c.in_ok-run.ensures.writes early in
    subst (λ h. OnOk c.commit.result (IsTrue (state g.S.Store h).is_open × RepresentsNew c.args.row.now (state g.S.Store h).committed.trees)) same
    (on_ok c.commit.result _ _ (λ done. commits_file last (state g.S.Store end) (RepresentsNew c.args.row.now) file done.1) (c.commit.ensures.ok late))

pub returns-clause-survives : goal.returns-clause-survives
returns-clause-survives g c =
    let start = state g.S.Store c.args.conn.now in
    let made = state g.S.Store c.create_tables.new.tx.conn.now in
    let begun = state g.S.Store c.transaction-tx.result.conn.now in
    let last = state g.S.Store c.run.new.tx.conn.now in
    let file : HasCleanDisk last → RepresentsNew c.args.row.now last.now.trees = λ early season it. created g.S.Store c.args.conn.now c.transaction-tx.result.conn.now
    made last season c.args.row.now it c.transaction-tx.ensures.begun c.requires.empty c.schema-tables.ensures.live
    c.create_tables.ensures.survives.clean c.run.ensures.survives.clean c.in_ok-create_tables.ensures.made c.in_ok-run.ensures.writes early in
    let inside = survives_on begun made last c.create_tables.ensures.survives c.run.ensures.survives in
    let whole = survives_commit start last (state g.S.Store c.commit.new.self.0) (RepresentsNew c.args.row.now)
    (survives_begin g.S.Store c.args.conn.now last _ (subst (λ h. Survives (state g.S.Store h) last (λ _. ⊥)) c.transaction-tx.ensures.begun inside)) file c.commit.ensures.survives in
    let same : c.commit.new.self.0 ≡ c.conn-2-1.given.0 = search rules in
    subst (λ h. Survives start (state g.S.Store h) (RepresentsNew c.args.row.now)) same whole
