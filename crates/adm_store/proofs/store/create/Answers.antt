use Rattle.std.proofs.Common.{◌≡◌, inl, inr, sym, subst, rules}
use Rattle.adm_schema.specs.declared.version.Version.TheVariants.{Second}
use Rattle.adm_schema.specs.Schema.{no_schema}
use Rattle.adm_register.specs.State.{only_season}
use Rattle.adm_rows.specs.Represents.{RepresentsIn}
use Rattle.adm_store.proofs.store.create.Goals as goal

pub returns-in-Ok-build-clause-ok : goal.returns-in-Ok-build-clause-ok
returns-in-Ok-build-clause-ok g c clean db may =
    let committed = c.in-Ok-build.ensures.committed clean in
    subst (λ t. RepresentsIn Second t (only_season c.args.season.now)) (sym (g.met.S.Store.settled c.build.new.conn.store db committed.0 may))
    (committed.1 _ record { season_is = c.holidays-days.ensures.season; written = c.in-Ok.ensures })

pub returns-clause-err : goal.returns-clause-err
returns-clause-err g c clean db may =
    let empty : c.args.conn.now.schema ≡ no_schema = search rules in
    elim (c.build.ensures.survives.crash clean db may) [ inl was ↦ inl was | inr now ↦ inr (empty, now _ record { season_is = c.holidays-days.ensures.season; written = c.in-Ok.ensures }) ]
