use Rattle.adm_fairness.proofs.Ends.{place_ends_fairly_law}
use Rattle.adm_fairness.proofs.season.place_ends_fairly.Goals as goal

pub returns : goal.returns
returns c = place_ends_fairly_law c.allotment_fits.ensures
