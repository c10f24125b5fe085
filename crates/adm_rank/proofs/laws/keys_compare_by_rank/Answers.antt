use Rattle.adm_rank.proofs.KeyOrder.{compares_by_rank}
use Rattle.adm_rank.proofs.laws.keys_compare_by_rank.Goals as goal

pub returns : goal.returns
returns c = compares_by_rank
