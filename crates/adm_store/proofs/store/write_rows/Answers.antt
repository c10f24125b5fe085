use Rattle.adm_store.proofs.CommitLemmas.{on_ok}
use Rattle.adm_store.proofs.LogLemmas.{Ran, ran_then}
use Rattle.adm_store.proofs.store.write_rows.Goals as goal

pub returns-clause-writes : goal.returns-clause-writes
returns-clause-writes g c =
    let base : Ran _ _ _ = record { survives = c.write_base.ensures.survives; leaves = c.in_ok-write_base.ensures.writes } in
    let places : Ran _ _ _ = record { survives = c.write_places.ensures.survives; leaves = c.in_ok-write_places.ensures.writes } in
    let draws : Ran _ _ _ = record { survives = c.write_draws.ensures.survives; leaves = c.in_ok-write_draws.ensures.writes } in
    on_ok c.write_imported.result _ _ (λ imported. (ran_then (ran_then (ran_then base places) draws)
    (record { survives = c.write_imported.ensures.survives; leaves = imported })).leaves) c.write_imported.ensures.writes
