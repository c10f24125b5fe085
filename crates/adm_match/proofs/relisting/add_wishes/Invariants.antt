use Rattle.std.proofs.Common.{◌≡◌, ◌++◌, take}
use Rattle.adm_match.specs.Relisting.{wishes_among}
use Rattle.adm_match.proofs.relisting.add_wishes.Given as goal

abbrev pub invariant-loop-index : goal.invariant-loop-index
invariant-loop-index l = l.wishes.items ≡ l.initial.wishes.items ++ wishes_among l.list (take l.index l.schools)
