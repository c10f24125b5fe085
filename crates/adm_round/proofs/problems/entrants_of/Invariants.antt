use Rattle.std.proofs.Common.{◌≡◌, take, map}
use Rattle.adm_round.specs.Ranks.{candidate_of}
use Rattle.adm_round.specs.Lookups.{site_in, lot_in}
use Rattle.adm_round.proofs.problems.entrants_of.Given as goal

abbrev pub invariant-loop-index : goal.invariant-loop-index
invariant-loop-index l = l.entrants.items ≡ map (candidate_of (site_in l.sites l.round_index) (lot_in l.round_index)) (take l.index l.applicants)
