use Rattle.std.proofs.Common.{[], ◌∷◌, sym, subst₂}
use Rattle.std.specs.Prelude.{OnOk}
use Rattle.sqlite.specs.Held.{state}
use Rattle.adm_schema.specs.Schema.{school}
use Rattle.adm_store.specs.Changes.{written_school}
use Rattle.adm_store.specs.Schools.{code_row}
use Rattle.adm_store.specs.Writes.{Adds, Drops, Writes, write_of}
use Rattle.adm_store.proofs.CommitLemmas.{on_ok}
use Rattle.adm_store.proofs.LogLemmas.{Ran, ran_then}
use Rattle.adm_store.proofs.schools.write_schools.Goals as goal

pub returns-in-Some-clause-writes : goal.returns-in-Some-clause-writes
returns-in-Some-clause-writes g c =
    subst₂ (λ codes rows. OnOk c.replace_school.result (Writes (write_of Drops school code_row codes ∷ write_of Adds school written_school rows ∷ [])
    (state g.S.Store c.args.tx.now.conn.now) (state g.S.Store c.replace_school.new.tx.conn.now))) (sym c.in-Some.ensures.0) (sym c.in-Some.ensures.1) c.replace_school.ensures.writes

pub returns-clause-writes : goal.returns-clause-writes
returns-clause-writes g c =
    let replaced : Ran _ _ _ = record { survives = c.run_each.ensures.survives; leaves = c.in_ok-run_each.ensures.writes } in
    on_ok c.run_each-2.result _ _ (λ schools. (ran_then replaced (record { survives = c.run_each-2.ensures.survives; leaves = schools })).leaves) c.run_each-2.ensures.writes
