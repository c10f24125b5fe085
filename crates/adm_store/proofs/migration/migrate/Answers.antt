use Rattle.std.proofs.Common.{rules, arith, refl, sym, subst, ◌≡◌, OnOk, IsTrue}
use Rattle.sqlite.specs.Held.{state}
use Rattle.sqlite.specs.Effect.{Database}
use Rattle.sqlite.specs.State.{HasCleanDisk, Survives}
use Rattle.sqlite.proofs.Callers.{survives_begin}
use Rattle.adm_register.specs.State.{State as Register}
use Rattle.adm_schema.proofs.Inside.{survives_on}
use Rattle.adm_schema.specs.declared.version.Version.TheVariants.{First, Second}
use Rattle.adm_rows.specs.Represents.{RepresentsIn, LeavesAll}
use Rattle.adm_store.proofs.CommitLemmas.{survives_commit, on_ok}
use Rattle.adm_store.proofs.MigrationLemmas.{migrated}
use Rattle.adm_store.proofs.migration.migrate.Goals as goal

pub returns-clause-committed : goal.returns-clause-committed
returns-clause-committed g c clean =
    let start = state g.S.Store c.args.conn.now in
    let mid = state g.S.Store c.add_present.new.tx.conn.now in
    let last = state g.S.Store c.mark_second.new.tx.conn.now in
    let end = c.commit.new.self.0 in
    let same : end ≡ c.conn-2-1.given.0 = search rules in
    let late : HasCleanDisk (state g.S.Store end) = search rules in
    let early : HasCleanDisk last = omega (arith, c.commit.ensures.survives.clean) in
    subst (λ h. OnOk c.commit.result (IsTrue (state g.S.Store h).is_open × ((r : Register) → LeavesAll First r start → RepresentsIn Second (state g.S.Store h).committed.trees r))) same
    (on_ok c.commit.result _ _ (λ done. (
      done.1.is_open,
      λ r before.
          subst (λ (d : Database). RepresentsIn Second d.trees r) (sym done.1.committed_is)
          (migrated g.S.Store c.args.conn.now c.transaction-tx.result.conn.now mid last r c.transaction-tx.ensures.begun (g.met.S.Store.stays c.args.conn.now.store)
          (c.if-prove.ensures.settled refl) c.schema-tables.ensures.live before c.add_present.ensures.survives.clean c.mark_second.ensures.survives.clean
          c.in_ok-add_present.ensures.made c.in_ok-mark_second.ensures.marked early),
    ))
    (c.commit.ensures.ok late))

pub returns-clause-survives : goal.returns-clause-survives
returns-clause-survives g c r before =
    let start = state g.S.Store c.args.conn.now in
    let begun = state g.S.Store c.transaction-tx.result.conn.now in
    let mid = state g.S.Store c.add_present.new.tx.conn.now in
    let last = state g.S.Store c.mark_second.new.tx.conn.now in
    let file = λ (early : HasCleanDisk last).
    migrated g.S.Store c.args.conn.now c.transaction-tx.result.conn.now mid last r c.transaction-tx.ensures.begun (g.met.S.Store.stays c.args.conn.now.store)
    (c.if-prove.ensures.settled refl) c.schema-tables.ensures.live before c.add_present.ensures.survives.clean c.mark_second.ensures.survives.clean
    c.in_ok-add_present.ensures.made c.in_ok-mark_second.ensures.marked early in
    let inside = survives_on begun mid last c.add_present.ensures.survives c.mark_second.ensures.survives in
    let whole = survives_commit start last (state g.S.Store c.commit.new.self.0) (λ db. RepresentsIn Second db r)
    (survives_begin g.S.Store c.args.conn.now last _ (subst (λ h. Survives (state g.S.Store h) last (λ _. ⊥)) c.transaction-tx.ensures.begun inside)) file c.commit.ensures.survives in
    let same : c.commit.new.self.0 ≡ c.conn-2-1.given.0 = search rules in
    subst (λ h. Survives start (state g.S.Store h) (λ db. RepresentsIn Second db r)) same whole
