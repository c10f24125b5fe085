use Rattle.adm_store.proofs.CommitLemmas.{on_ok}
use Rattle.adm_store.proofs.LogLemmas.{Ran, ran_then}
use Rattle.adm_store.proofs.store.write_imported.Goals as goal

pub returns-clause-writes : goal.returns-clause-writes
returns-clause-writes g c =
    let imported : Ran _ _ _ = record { survives = c.run_all.ensures.survives; leaves = rw c.as_slice.ensures at c.in_ok-run_all.ensures.writes } in
    let moved : Ran _ _ _ = record { survives = c.run_each.ensures.survives; leaves = rw c.as_slice-2.ensures at c.in_ok-run_each.ensures.writes } in
    on_ok c.run_each-2.result _ _ (λ present. (ran_then (ran_then imported moved)
    (record { survives = c.run_each-2.ensures.survives; leaves = rw c.as_slice-3.ensures at present })).leaves) c.run_each-2.ensures.writes
