use Rattle.std.proofs.Common.{length}
use Rattle.adm_schema.proofs.comparison.+are_ascending.Given as goal

abbrev pub decreases-are_ascending : goal.decreases-are_ascending
decreases-are_ascending l = length l.orders.now
