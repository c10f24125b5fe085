use Rattle.adm_program_laws.proofs.FoundLemmas.{answered_is_found_lem}
use Rattle.adm_program_laws.proofs.found_again.answered_is_found.Goals as goal

pub returns : goal.returns
returns g c = answered_is_found_lem g.D.Disk g.met.D.Disk.seen_may_stay c.one_register.ensures
