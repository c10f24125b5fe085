use Rattle.std.proofs.Common.{append_assoc}
use Rattle.adm_letters.specs.Lists.{list_head}
use Rattle.adm_letters.proofs.Written.{written}
use Rattle.adm_letters.proofs.lists.head_line.Goals as goal

pub returns : goal.returns
unfolding list_head
returns c = written _ _ _ c.writeln.result c.writeln.ensures.bytes (simp append_assoc)
