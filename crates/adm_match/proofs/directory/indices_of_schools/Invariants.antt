use Rattle.adm_match.specs.declared.problem.Seats.{Seats}
use Rattle.adm_match.proofs.DirectoryLemmas.{PairsBelow}
use Rattle.adm_match.proofs.directory.indices_of_schools.Given as goal

abbrev pub invariant-loop-index : goal.invariant-loop-index
invariant-loop-index l = PairsBelow (λ (it : Seats). it.code) l.seats l.indices.items l.index
