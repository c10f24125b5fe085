use Rattle.std.proofs.Common.{◌≡◌, take}
use Rattle.std.specs.List.{filter_map}
use Rattle.adm_cutoffs.specs.Lookups.{refusal_in}
use Rattle.adm_cutoffs.proofs.refusals.refusals.Given as goal

-- those so far are the refusals of as many lots
abbrev pub invariant-loop-index : goal.invariant-loop-index
invariant-loop-index l = l.refusals.items ≡ filter_map (refusal_in l.register l.by_child l.keys) (take l.index l.lots)
