use Rattle.adm_program_laws.proofs.Remaining.{creates_file}
use Rattle.adm_program_laws.proofs.RunLemmas.{one_more_run, all_runs, places_after_runs, opens_after_runs, never_no_register}
use Rattle.adm_program_laws.proofs.runs.runs_in_order.Goals as goal

pub returns-clause-init : goal.returns-clause-init
returns-clause-init g c = creates_file {g = g.D.Disk} g.met.D.Disk.seen_may_stay

pub returns-clause-run : goal.returns-clause-run
returns-clause-run g c = one_more_run g.D.Disk g.met.D.Disk.seen_may_stay c.one_register.ensures c.draws_kept.ensures c.rounds_are_recorded.ensures

pub returns-clause-runs : goal.returns-clause-runs
returns-clause-runs g c = all_runs g.D.Disk g.met.D.Disk.seen_may_stay c.one_register.ensures c.draws_kept.ensures c.rounds_are_recorded.ensures

pub returns-clause-places : goal.returns-clause-places
returns-clause-places g c = places_after_runs c.places_have_cause.ensures

pub returns-clause-opened : goal.returns-clause-opened
returns-clause-opened g c = opens_after_runs g.D.Disk g.met.D.Disk.seen_may_stay c.one_register.ensures c.draws_kept.ensures c.rounds_are_recorded.ensures

pub returns-clause-never : goal.returns-clause-never
returns-clause-never g c = never_no_register g.D.Disk g.met.D.Disk.seen_may_stay c.one_register.ensures c.draws_kept.ensures c.rounds_are_recorded.ensures
