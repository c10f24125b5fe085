-- A problem at least as generous as another: fewer rivals, lists that end earlier, more places (Gale and Shapley 1962; Roth 1982).
-- Tenants, and places that stay free, are this profile's.
use Rattle.std.specs.Prelude.{◌≡◌, ℕ, ◌≤◌, None, All, Any, take, length, map, filter, not, ◌==◌, if◌then◌else◌, List}
use Rattle.adm_match.specs.declared.problem.Seats.{Seats}
use Rattle.adm_match.specs.Market.{Code, Candidate, Market, assigned_rank, quota_of, first_fault}
use Rattle.adm_match.specs.Stability.{Allocation, IsStable, IsBest}

-- the other entrant is the same child, tenant of the same school, and its list begins with this entrant's, by the same keys
pub record IsCutFrom (entrant whole : Candidate) : Type 0 where
  pub child : entrant.child ≡ whole.child
  pub list : entrant.list ≡ take (length entrant.list) whole.list
  pub tenant : entrant.tenant ≡ whole.tenant

-- At least as generous to each child that stays: each entrant is one of the other problem, by its whole list or the
-- beginning of it, and no school has fewer places.
pub record IsAsGenerous (m other : Market) : Type 0 where
  pub entrants : All (λ entrant. Any (IsCutFrom entrant) other.entrants) m.entrants
  pub places : (school : Code) → quota_of other.seats school ≤ quota_of m.seats school

-- each of these entrants has in the one allocation what it has in the other, or a school that it wants more
abbrev pub IsNoWorse : List Candidate → Allocation → Allocation → Type 0
IsNoWorse entrants one other = All (λ entrant. assigned_rank entrant.list (one entrant.child) ≤ assigned_rank entrant.list (other entrant.child)) entrants

-- No child loses by generosity: what the best allocation of a problem gives an entrant is never after what any stable
-- allocation gives it of a problem that is no more generous (with the problem itself: Gale and Shapley 1962).
abbrev pub NoLoss : Type 0
NoLoss =
    (m other : Market) (best a : Allocation)
    → first_fault m ≡ None → IsAsGenerous m other → IsBest m best → IsStable other a
    → IsNoWorse m.entrants best a

-- the problem without a child
abbrev pub without : ℕ → Market → Market
without child m = record m { entrants = filter (λ entrant. not (entrant.child == child)) m.entrants }

-- the entrant with the first wishes of its list alone
abbrev pub shortened : ℕ → Candidate → Candidate
shortened count entrant = record entrant { list = take count entrant.list }

-- the problem in which the child lists the first schools of its list alone
abbrev pub cut_to : ℕ → ℕ → Market → Market
cut_to child count m = record m { entrants = map (λ entrant. if entrant.child == child then shortened count entrant else entrant) m.entrants }

-- the problem with other places
abbrev pub with_seats : List Seats → Market → Market
with_seats seats m = record m { seats = seats }

-- A problem is at least as generous as itself, also where a child leaves, a child ends its list earlier, or schools have
-- more places.
pub record KindsOfGenerosity : Type 0 where
  pub itself : (m : Market) → IsAsGenerous m m
  pub leaves : (m : Market) (child : ℕ) → IsAsGenerous (without child m) m
  pub cuts : (m : Market) (child count : ℕ) → IsAsGenerous (cut_to child count m) m
  pub adds : (m : Market) (seats : List Seats) → ((s : Code) → quota_of m.seats s ≤ quota_of seats s) → IsAsGenerous (with_seats seats m) m

-- Fewer rivals never hurt a child: where a child leaves, the best allocation gives each other child what it had, or a
-- school that it wants more.
abbrev pub NoLossByLeaving : Type 0
NoLossByLeaving =
    (m : Market) (child : ℕ) (best other : Allocation)
    → first_fault m ≡ None → IsBest m best → IsBest (without child m) other
    → IsNoWorse (without child m).entrants other best

-- A list that ends earlier never hurts a child: where a child lists the first schools of its list alone, the best
-- allocation gives each child what it had, or a school that it wants more, and the child itself too where it still lists it.
abbrev pub NoLossByCutting : Type 0
NoLossByCutting =
    (m : Market) (child count : ℕ) (best other : Allocation)
    → first_fault m ≡ None → IsBest m best → IsBest (cut_to child count m) other
    → IsNoWorse (cut_to child count m).entrants other best

-- More places never hurt a child: where no school has fewer, the best allocation gives each child what any stable one
-- gave it before, or a school that it wants more.
abbrev pub NoLossByPlaces : Type 0
NoLossByPlaces =
    (m : Market) (seats : List Seats) (best a : Allocation)
    → first_fault (with_seats seats m) ≡ None
    → ((s : Code) → quota_of m.seats s ≤ quota_of seats s)
    → IsBest (with_seats seats m) best → IsStable m a
    → IsNoWorse m.entrants best a
