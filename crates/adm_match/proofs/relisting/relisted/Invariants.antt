use Rattle.std.proofs.Common.{◌≡◌, take, map}
use Rattle.adm_match.specs.Relisting.{relist}
use Rattle.adm_match.proofs.relisting.relisted.Given as goal

abbrev pub invariant-loop-index : goal.invariant-loop-index
invariant-loop-index l = l.others.items ≡ map (relist l.child l.schools) (take l.index l.entrants)
