use Rattle.std.proofs.Common.{◌≡◌, take, map}
use Rattle.std.specs.Prelude.{All}
use Rattle.adm_waiting.specs.Ranks.{rank_of, IsRankInRange}
use Rattle.adm_waiting.proofs.ranks.ranks_of.Given as goal

abbrev pub invariant-loop-index : goal.invariant-loop-index
invariant-loop-index l = (l.ranks.items ≡ map (rank_of l.school) (take l.index l.children)) × All IsRankInRange l.ranks.items
