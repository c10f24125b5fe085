use Rattle.std.proofs.Common.{take}
use Rattle.std.specs.Prelude.{All}
use Rattle.adm_view.specs.Waits.{HasRanksAt}
use Rattle.adm_view.proofs.waits.waits_at.Given as goal

-- the map has the ranks at the codes so far
abbrev pub invariant-loop-code : goal.invariant-loop-code
invariant-loop-code l = All (HasRanksAt l.register l.waits) (take l.code-index l.codes)
