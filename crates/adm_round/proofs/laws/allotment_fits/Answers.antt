use Rattle.adm_round.proofs.GivenToApplicants.{allotment_fits_law}
use Rattle.adm_round.proofs.laws.allotment_fits.Goals as goal

pub returns : goal.returns
returns c = allotment_fits_law
