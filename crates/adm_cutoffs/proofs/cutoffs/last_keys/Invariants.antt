use Rattle.std.proofs.Common.{take}
use Rattle.adm_cutoffs.specs.Lookups.{HasLastKeys}
use Rattle.adm_cutoffs.proofs.cutoffs.last_keys.Given as goal

-- the map has the last keys by the lots so far
abbrev pub invariant-loop-index : goal.invariant-loop-index
invariant-loop-index l = HasLastKeys l.register l.draw.outcomes (take l.index l.lots) l.keys
