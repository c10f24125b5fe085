-- Rounds that follow one another: what a later round gives after some children left and schools have more places.
-- Gale and Shapley 1962 for the best allocation; tenants and later rounds are this profile's.
use Rattle.std.specs.Prelude.{◌≡◌, ◌≤◌, ⊤, ℕ, Bool, List, [], ◌∷◌, take, map, filter, Option, None}
use Rattle.adm_match.specs.declared.problem.Seats.{Seats}
use Rattle.adm_match.specs.Market.{Code, Candidate, Market, quota_of, first_fault}
use Rattle.adm_match.specs.Stability.{Allocation, IsBest, gone_through}

-- the problem of those who remain, with these places
abbrev pub remaining : (ℕ → Bool) → List Seats → Market → Market
remaining stays seats m = record { entrants = filter (λ entrant. stays entrant.child) m.entrants; seats = seats }

-- The entrant as tenant of the school that it was given, which ends its list; by its whole list, and tenant of none, where it was given none.
abbrev pub settled_at : Option Code → Candidate → Candidate
settled_at school entrant = record { child = entrant.child; list = take (gone_through entrant.list school) entrant.list; tenant = school }

-- the problem in which each entrant has what an allocation gave it
abbrev pub settled : Allocation → Market → Market
settled a m = record m { entrants = map (λ entrant. settled_at (a entrant.child) entrant) m.entrants }

-- one more round: who remains, the places that there are by then, and what the round gives
pub record NextRound : Type 0 where
  pub stays : ℕ → Bool
  pub seats : List Seats
  pub gives : Allocation

-- The problem of the last round, if it were the first: without those who left, with its places, and by the lists and the tenants of the
-- first.
abbrev pub anew : Market → List NextRound → Market
anew m [] = m
anew m (next ∷ later) = anew (remaining next.stays next.seats m) later

-- what the last round gives
abbrev pub given_last : Allocation → List NextRound → Allocation
given_last first [] = first
given_last first (next ∷ later) = given_last next.gives later

-- No school has fewer places by then, and the round gives those who remain the best allocation of the problem in which each has what it
-- was given before.
pub record Follows (m : Market) (before : Allocation) (next : NextRound) : Type 0 where
  pub places : (school : Code) → quota_of m.seats school ≤ quota_of next.seats school
  pub best : IsBest (settled before (remaining next.stays next.seats m)) next.gives

-- each round follows the one before
abbrev pub AreHeld : Market → Allocation → List NextRound → Type 0
AreHeld m before [] = ⊤
AreHeld m before (next ∷ later) = Follows m before next × AreHeld (remaining next.stays next.seats m) next.gives later

-- However many rounds follow a first one, children leaving and places added between them, the last gives the best allocation of the
-- problem that it would have as the first.
abbrev pub RoundsAnew : Type 0
RoundsAnew =
    (m : Market) (best : Allocation) (later : List NextRound)
    → first_fault m ≡ None → IsBest m best → AreHeld m best later
    → IsBest (anew m later) (given_last best later)
