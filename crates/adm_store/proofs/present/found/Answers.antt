use Rattle.adm_store.proofs.present.found.Goals as goal

pub returns-clause-shown : goal.returns-clause-shown
returns-clause-shown g c clean = rw (c.find_present.ensures, c.params-to_sql.ensures, c.params-to_sql-2.ensures, c.get-number.ensures.value) at c.in_ok-rows.ensures.ok clean
