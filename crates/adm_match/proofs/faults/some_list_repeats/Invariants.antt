use Rattle.std.proofs.Common.{◌≡◌, take, false}
use Rattle.std.specs.List.{list_any}
use Rattle.adm_match.specs.Market.{some_pair, same_school}
use Rattle.adm_match.proofs.faults.some_list_repeats.Given as goal

abbrev pub invariant-loop-index : goal.invariant-loop-index
invariant-loop-index l = list_any (λ entrant. some_pair same_school entrant.list) (take l.index l.entrants) ≡ false
