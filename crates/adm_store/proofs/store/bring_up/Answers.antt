use Rattle.std.proofs.Common.{subst, sym}
use Rattle.sqlite.specs.Held.{state}
use Rattle.adm_schema.specs.declared.version.Version.TheVariants.{Second}
use Rattle.adm_rows.specs.Represents.{RepresentsIn, LeavesAll}
use Rattle.adm_store.proofs.MigrationLemmas.{later_ok, weaker}
use Rattle.adm_store.proofs.store.bring_up.Goals as goal

pub returns-in-First-clause-ok : goal.returns-in-First-clause-ok
returns-in-First-clause-ok g c =
    later_ok c.migrate.result _ _ _ c.migrate.ensures.committed (λ committed r before clean db may.
    let it = committed clean in
    subst (λ t. RepresentsIn Second t r) (sym (g.met.S.Store.settled c.migrate.new.conn.store db it.0 may))
    (it.1 r (subst (λ v. LeavesAll v r (state g.S.Store c.args.conn.now)) c.in-First.is before)))

pub returns-in-First-clause-survives : goal.returns-in-First-clause-survives
returns-in-First-clause-survives g c r before =
    weaker (state g.S.Store c.args.conn.now) (state g.S.Store c.migrate.new.conn) _ _ (λ db stands. (c.in-First.is, stands))
    (c.migrate.ensures.survives r (subst (λ v. LeavesAll v r (state g.S.Store c.args.conn.now)) c.in-First.is before))
