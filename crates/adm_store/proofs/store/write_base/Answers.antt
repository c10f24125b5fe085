use Rattle.adm_store.proofs.CommitLemmas.{on_ok}
use Rattle.adm_store.proofs.LogLemmas.{Ran, ran_then}
use Rattle.adm_store.proofs.store.write_base.Goals as goal

pub returns-clause-writes : goal.returns-clause-writes
returns-clause-writes g c =
    let schools : Ran _ _ _ = record { survives = c.write_schools.ensures.survives; leaves = rw (c.as_slice.ensures, c.as_slice-2.ensures) at c.in_ok-write_schools.ensures.writes } in
    let children : Ran _ _ _ = record { survives = c.put_all.ensures.survives; leaves = rw c.as_slice-3.ensures at c.in_ok-put_all.ensures.writes } in
    let ended : Ran _ _ _ = record { survives = c.run_each.ensures.survives; leaves = rw c.as_slice-4.ensures at c.in_ok-run_each.ensures.writes } in
    on_ok c.put_all-2.result _ _ (λ applications. (ran_then (ran_then (ran_then schools children) ended)
    (record { survives = c.put_all-2.ensures.survives; leaves = rw c.as_slice-5.ensures at applications })).leaves) c.put_all-2.ensures.writes
