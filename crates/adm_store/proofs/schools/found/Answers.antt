use Rattle.adm_store.proofs.schools.found.Goals as goal

pub returns-clause-shown : goal.returns-clause-shown
returns-clause-shown g c clean = rw (c.find_school.ensures, c.params-to_sql.ensures, c.as_str-code.ensures.value) at c.in_ok-rows.ensures.ok clean
