use Rattle.std.proofs.Common.{◌≡◌, take}
use Rattle.adm_round.specs.Round.{pairs}
use Rattle.adm_round.proofs.lots.wanted_pairs.Given as goal

abbrev pub invariant-loop-index : goal.invariant-loop-index
invariant-loop-index l = l.found.items ≡ pairs (take l.index l.sites) l.applicants
