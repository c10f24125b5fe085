use Rattle.std.proofs.Common.{ℕ}
use Rattle.adm_match.specs.declared.problem.Wish.{Wish}
use Rattle.adm_match.specs.Places.{SeatedAt}
use Rattle.adm_match.proofs.PlaceLemmas.{BesideBelow}
use Rattle.adm_match.proofs.places.places_of_list.Given as goal

abbrev pub invariant-loop-index : goal.invariant-loop-index
invariant-loop-index l = BesideBelow (λ (w : Wish) (k : ℕ). SeatedAt l.seats w.school k) l.list l.indices.items l.index
