use Rattle.std.proofs.Common.{length}
use Rattle.adm_schema.proofs.comparison.+are_places.Given as goal

abbrev pub decreases-are_places : goal.decreases-are_places
decreases-are_places l = length l.lists.now
