use Rattle.std.proofs.Common.{append_assoc}
use Rattle.adm_letters.specs.Lists.{list_foot}
use Rattle.adm_letters.proofs.Written.{written}
use Rattle.adm_letters.proofs.lists.put_foot.Goals as goal

pub returns : goal.returns
unfolding list_foot
returns c = written _ _ _ c.writeln.result c.writeln.ensures.bytes (simp append_assoc)
