use Rattle.std.proofs.Common.{◌≡◌, take, map}
use Rattle.adm_waiting.specs.Ranks.{entry_among}
use Rattle.adm_waiting.proofs.lists.entries_of.Given as goal

abbrev pub invariant-loop-index : goal.invariant-loop-index
invariant-loop-index l = l.list.items ≡ map (entry_among l.ranks) (take l.index l.ranks)
