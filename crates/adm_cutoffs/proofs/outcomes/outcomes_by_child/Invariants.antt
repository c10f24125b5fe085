use Rattle.std.proofs.Common.{◌-◌, length, drop}
use Rattle.adm_cutoffs.specs.Lookups.{HasOutcomes}
use Rattle.adm_cutoffs.proofs.outcomes.outcomes_by_child.Given as goal

-- the map has the outcomes so far, from the last one on
abbrev pub invariant-loop-back : goal.invariant-loop-back
invariant-loop-back l = HasOutcomes (drop (length l.outcomes - l.back) l.outcomes) l.by_child
