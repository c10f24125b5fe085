-- Two stable allocations of one problem: of both each child may have the better, or the worse; schools want it the other way round.
-- Knuth 1976 (Conway); Roth 1985 for schools with several places; tenants are this profile's.
use Rattle.std.specs.Prelude.{◌≡◌, true, false, ◌||◌, ◌==◌, nat_lt, if◌then◌else◌, List, find, Option, None, All, option_and_then}
use Rattle.adm_types.specs.Code.{has}
use Rattle.adm_match.specs.declared.problem.Wish.{Wish}
use Rattle.adm_match.specs.Market.{Code, Market, assigned_rank, is_tenant, ranks_before, first_fault}
use Rattle.adm_match.specs.Stability.{Allocation, IsStable, IsBest}

-- of what two allocations give a child, what is not after the other on its list
abbrev pub better_of : List Wish → Option Code → Option Code → Option Code
better_of list one other = if nat_lt (assigned_rank list other) (assigned_rank list one) then other else one

-- the allocation that gives each entrant the better of what two others give it
abbrev pub join : Market → Allocation → Allocation → Allocation
join m one other child = option_and_then (λ entrant. better_of entrant.list (one child) (other child)) (find (λ entrant. entrant.child == child) m.entrants)

-- Where each child has the better of what two stable allocations give it, this is a stable allocation too.
abbrev pub JoinIsStable : Type 0
JoinIsStable = (m : Market) (one other : Allocation) → first_fault m ≡ None → IsStable m one → IsStable m other → IsStable m (join m one other)

-- of what two allocations give a child, what is not before the other on its list
abbrev pub worse_of : List Wish → Option Code → Option Code → Option Code
worse_of list one other = if nat_lt (assigned_rank list other) (assigned_rank list one) then one else other

-- the allocation that gives each entrant the worse of what two others give it
abbrev pub meet : Market → Allocation → Allocation → Allocation
meet m one other child = option_and_then (λ entrant. worse_of entrant.list (one child) (other child)) (find (λ entrant. entrant.child == child) m.entrants)

-- Where each child has the worse of what two stable allocations give it, this is a stable allocation too: stable allocations are a lattice.
abbrev pub MeetIsStable : Type 0
MeetIsStable = (m : Market) (one other : Allocation) → first_fault m ≡ None → IsStable m one → IsStable m other → IsStable m (meet m one other)

-- The best allocation is the worst for schools: whom a school has by it, but not by another stable allocation, ranks there after each
-- child that it has by that other one, tenants aside.
abbrev pub BestIsLastChoice : Type 0
BestIsLastChoice =
    (m : Market) (best a : Allocation) (school : Code)
    → first_fault m ≡ None → IsBest m best → IsStable m a
    → All (λ entrant. has (best entrant.child) school ≡ true → has (a entrant.child) school ≡ false
    → All (λ other. has (a other.child) school ≡ true → (is_tenant other school || ranks_before school other entrant) ≡ true) m.entrants) m.entrants
