use Rattle.std.proofs.Common.{ℕ, List}
use Rattle.adm_match.specs.Market.{Candidate}
use Rattle.adm_match.specs.Places.{AreSeats}
use Rattle.adm_match.proofs.PlaceLemmas.{BesideBelow}
use Rattle.adm_match.proofs.places.places_of.Given as goal

abbrev pub invariant-loop-index : goal.invariant-loop-index
invariant-loop-index l = BesideBelow (λ (e : Candidate) (places : List ℕ). AreSeats l.seats e.list places) l.entrants l.places.items l.index
