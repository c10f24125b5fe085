use Rattle.std.proofs.Common.{◌≡◌, take, map}
use Rattle.adm_view.specs.Waits.{rank_of}
use Rattle.adm_view.proofs.waits.ranks_of.Given as goal

-- those so far are those of as many children
abbrev pub invariant-loop-index : goal.invariant-loop-index
invariant-loop-index l = l.ranks.items ≡ map (rank_of l.school) (take l.index l.children)
