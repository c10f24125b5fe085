use Rattle.std.proofs.Common.{◌≡◌, ◌++◌, take}
use Rattle.adm_round.specs.Ranks.{wishes_for}
use Rattle.adm_round.specs.Lookups.{site_in, lot_in}
use Rattle.adm_round.proofs.problems.add_wishes.Given as goal

abbrev pub invariant-loop-index : goal.invariant-loop-index
invariant-loop-index l = l.wishes.items ≡ l.initial.wishes.items ++ wishes_for (site_in l.sites l.round_index) (lot_in l.round_index) l.child (take l.index l.schools)
