use Rattle.std.proofs.Common.{rules, arith, refl, sym, subst, ◌≡◌, OnOk, IsTrue}
use Rattle.sqlite.specs.Held.{state}
use Rattle.sqlite.specs.Effect.{Database}
use Rattle.sqlite.specs.State.{HasCleanDisk, Survives}
use Rattle.sqlite.proofs.Callers.{survives_begin}
use Rattle.adm_register.specs.State.{State as Register}
use Rattle.adm_schema.specs.declared.version.Version.TheVariants.{Second}
use Rattle.adm_store.specs.Changes.{IsStep}
use Rattle.adm_rows.specs.Represents.{RepresentsIn, LeavesOnly}
use Rattle.adm_store.proofs.CommitLemmas.{survives_commit, on_ok, wrote}
use Rattle.adm_store.proofs.store.write.Goals as goal

pub returns-clause-committed : goal.returns-clause-committed
returns-clause-committed g c clean =
    let start = state g.S.Store c.args.conn.now in
    let begun = state g.S.Store c.transaction-tx.result.conn.now in
    let last = state g.S.Store c.write_rows.new.tx.conn.now in
    let end = c.commit.new.self.0 in
    let same : end ≡ c.conn-2-1.given.0 = search rules in
    let late : HasCleanDisk (state g.S.Store end) = search rules in
    let early : HasCleanDisk last = omega (arith, c.commit.ensures.survives.clean) in
    subst (λ h. OnOk c.commit.result (IsTrue (state g.S.Store h).is_open
    × ((old new : Register) → IsStep old new c.args.changes.now → LeavesOnly old start → RepresentsIn Second (state g.S.Store h).committed.trees new))) same
    (on_ok c.commit.result _ _ (λ done. (
      done.1.is_open,
      λ old new step before.
          subst (λ (d : Database). RepresentsIn Second d.trees new) (sym done.1.committed_is)
          (wrote g.S.Store c.args.conn.now c.transaction-tx.result.conn.now last old new c.args.changes.now c.transaction-tx.ensures.begun
          (g.met.S.Store.stays c.args.conn.now.store) (c.if-prove.ensures.settled refl) c.schema-tables.ensures.live step before c.write_rows.ensures.survives.clean
          c.requires.some c.in_ok-write_rows.ensures.writes early),
    ))
    (c.commit.ensures.ok late))

pub returns-clause-survives : goal.returns-clause-survives
returns-clause-survives g c old new step before =
    let start = state g.S.Store c.args.conn.now in
    let last = state g.S.Store c.write_rows.new.tx.conn.now in
    let file = λ (early : HasCleanDisk last).
    wrote g.S.Store c.args.conn.now c.transaction-tx.result.conn.now last old new c.args.changes.now c.transaction-tx.ensures.begun
    (g.met.S.Store.stays c.args.conn.now.store) (c.if-prove.ensures.settled refl) c.schema-tables.ensures.live step before c.write_rows.ensures.survives.clean
    c.requires.some c.in_ok-write_rows.ensures.writes early in
    let whole = survives_commit start last (state g.S.Store c.commit.new.self.0) (λ db. RepresentsIn Second db new)
    (survives_begin g.S.Store c.args.conn.now last _ (subst (λ h. Survives (state g.S.Store h) last
    (λ _. ⊥)) c.transaction-tx.ensures.begun c.write_rows.ensures.survives)) file c.commit.ensures.survives in
    let same : c.commit.new.self.0 ≡ c.conn-2-1.given.0 = search rules in
    subst (λ h. Survives start (state g.S.Store h) (λ db. RepresentsIn Second db new)) same whole
