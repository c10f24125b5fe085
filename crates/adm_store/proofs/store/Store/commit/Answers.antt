use Rattle.std.proofs.Common.{arith, sym, subst}
use Rattle.sqlite.specs.Held.{state}
use Rattle.sqlite.specs.State.{HasCleanDisk}
use Rattle.adm_schema.specs.declared.version.Version.TheVariants.{Second}
use Rattle.adm_rows.specs.Represents.{RepresentsIn, LeavesOnly}
use Rattle.adm_store.proofs.CommitLemmas.{count_is, no_change, either}
use Rattle.adm_store.proofs.store.Store.commit.Goals as goal

pub returns-clause-ok : goal.returns-clause-ok
returns-clause-ok g c old new step before clean db may =
    let committed = c.in-Ok.ensures.committed clean in
    let early = subst (λ h. LeavesOnly old (state g.S.Store h)) (sym c.self.view_is) before in
    subst (λ t. RepresentsIn Second t new) (sym (g.met.S.Store.settled c.write.new.conn.store db committed.0 may)) (committed.1 old new step early)

pub returns-in_default-clause-err : goal.returns-in_default-clause-err
returns-in_default-clause-err g c old new step before =
    let early = subst (λ h. LeavesOnly old (state g.S.Store h)) (sym c.self.view_is) before in
    either (state g.S.Store c.self.inside.conn) (state g.S.Store c.write.new.conn) old new (c.write.ensures.survives old new step early) early

pub returns-then-len-eq0-clause-ok : goal.returns-then-len-eq0-clause-ok
returns-then-len-eq0-clause-ok g c old new step before clean db may =
    no_change old new c.args.changes.now step (omega (
      arith,
      count_is c.args.changes.now,
      c.put.ensures,
      c.if-put-eq0.true,
      c.cut.ensures,
      c.if-cut-eq0.true,
      c.len.ensures,
      c.if-len-eq0.true,
    )) db (before clean db may)

pub returns-clause-clean : goal.returns-clause-clean
returns-clause-clean g c old new step before clean =
    let early = subst (λ h. LeavesOnly old (state g.S.Store h)) (sym c.self.view_is) before in
    let still : HasCleanDisk (state g.S.Store c.self.inside.conn) = omega (arith, (c.write.ensures.survives old new step early).clean, clean) in
    subst (λ h. HasCleanDisk (state g.S.Store h)) c.self.view_is still

pub returns-in_default-clause-clean : goal.returns-in_default-clause-clean
returns-in_default-clause-clean g c old new step before clean =
    let early = subst (λ h. LeavesOnly old (state g.S.Store h)) (sym c.self.view_is) before in
    let still : HasCleanDisk (state g.S.Store c.self.inside.conn) = omega (arith, (c.write.ensures.survives old new step early).clean, clean) in
    subst (λ h. HasCleanDisk (state g.S.Store h)) c.self.view_is still
