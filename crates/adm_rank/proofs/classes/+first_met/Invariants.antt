use Rattle.std.proofs.Common.{length}
use Rattle.adm_rank.proofs.classes.+first_met.Given as goal

abbrev pub decreases-first_met : goal.decreases-first_met
decreases-first_met l = length l.criteria.now
