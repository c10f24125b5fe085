use Rattle.std.proofs.Common.{length}
use Rattle.adm_store.proofs.lent.+lend_all.Given as goal

abbrev pub decreases-lend_all : goal.decreases-lend_all
decreases-lend_all g l = length l.rows.now
