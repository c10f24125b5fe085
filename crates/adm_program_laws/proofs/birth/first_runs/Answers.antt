use Rattle.adm_program_laws.proofs.BirthLemmas.{init_leaves_lem, init_again_lem}
use Rattle.adm_program_laws.proofs.birth.first_runs.Goals as goal

pub returns-clause-leaves : goal.returns-clause-leaves
returns-clause-leaves g c = init_leaves_lem {g = g.D.Disk} g.met.D.Disk.seen_may_stay

pub returns-clause-again : goal.returns-clause-again
returns-clause-again g c = init_again_lem {g = g.D.Disk} g.met.D.Disk.seen_may_stay
