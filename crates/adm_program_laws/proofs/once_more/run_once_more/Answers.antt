use Rattle.adm_program_laws.proofs.once_more.run_once_more.Goals as goal

pub returns-clause-kept : goal.returns-clause-kept
returns-clause-kept g c =
    let did = c.run_arguments.ensures.does in
    (did, λ first runs after held left. c.runs_in_order.ensures.run first runs _ after _ held (record { follows = did.follows; left = left }))

pub returns-clause-first : goal.returns-clause-first
returns-clause-first g c =
    let did = c.run_arguments.ensures.does in
    (did, λ file phase year days size after is none left. c.first_runs.ensures.leaves _ after _ file phase year days size none (record { follows = did.follows; left = left }) is)

pub returns-clause-found : goal.returns-clause-found
returns-clause-found g c =
    let did = c.run_arguments.ensures.does in
    (did, λ first file port count after is held left. c.answered_is_found.ensures first _ after _ file port count held (record { follows = did.follows; left = left }) is)
