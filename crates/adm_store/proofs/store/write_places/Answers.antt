use Rattle.adm_store.proofs.CommitLemmas.{on_ok}
use Rattle.adm_store.proofs.LogLemmas.{Ran, ran_then}
use Rattle.adm_store.proofs.store.write_places.Goals as goal

pub returns-clause-writes : goal.returns-clause-writes
returns-clause-writes g c =
    let vacated : Ran _ _ _ = record { survives = c.run_each.ensures.survives; leaves = rw c.as_slice.ensures at c.in_ok-run_each.ensures.writes } in
    let places : Ran _ _ _ = record { survives = c.put_all.ensures.survives; leaves = rw c.as_slice-2.ensures at c.in_ok-put_all.ensures.writes } in
    on_ok c.run_each-2.result _ _ (λ left. (ran_then (ran_then vacated places)
    (record { survives = c.run_each-2.ensures.survives; leaves = rw c.as_slice-3.ensures at left })).leaves) c.run_each-2.ensures.writes
