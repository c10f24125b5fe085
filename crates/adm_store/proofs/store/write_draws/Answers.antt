use Rattle.adm_store.proofs.CommitLemmas.{on_ok}
use Rattle.adm_store.proofs.LogLemmas.{Ran, ran_then}
use Rattle.adm_store.proofs.store.write_draws.Goals as goal

pub returns-clause-writes : goal.returns-clause-writes
returns-clause-writes g c =
    let draws : Ran _ _ _ = record { survives = c.run_each.ensures.survives; leaves = rw c.as_slice.ensures at c.in_ok-run_each.ensures.writes } in
    let offers : Ran _ _ _ = record { survives = c.run_all.ensures.survives; leaves = rw c.as_slice-2.ensures at c.in_ok-run_all.ensures.writes } in
    let lots : Ran _ _ _ = record { survives = c.run_all-2.ensures.survives; leaves = rw c.as_slice-3.ensures at c.in_ok-run_all-2.ensures.writes } in
    on_ok c.run_each-2.result _ _ (λ count. (ran_then (ran_then (ran_then draws offers) lots)
    (record { survives = c.run_each-2.ensures.survives; leaves = rw (c.last_draw.ensures, c.as_slice-4.ensures) at count })).leaves) c.run_each-2.ensures.writes
