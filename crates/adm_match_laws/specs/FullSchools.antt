-- The stable allocations of a problem place the same children and fill up schools alike (Roth 1986: the rural hospitals theorem).
use Rattle.std.specs.Prelude.{◌≡◌, ◌<◌, true, None, is_some, All}
use Rattle.adm_types.specs.Code.{has}
use Rattle.adm_match.specs.Market.{Code, Market, quota_of, first_fault}
use Rattle.adm_match.specs.Stability.{Allocation, IsStable, count_at}

-- All stable allocations of a problem place the same children.
abbrev pub SamePlaced : Type 0
SamePlaced =
    (m : Market) (a other : Allocation)
    → first_fault m ≡ None → IsStable m a → IsStable m other
    → All (λ entrant. is_some (a entrant.child) ≡ true → is_some (other entrant.child) ≡ true) m.entrants

-- as many entrants are at the school in the one allocation as in the other; and where it has room, the same ones
pub record FillsAlike (m : Market) (a other : Allocation) (school : Code) : Type 0 where
  pub numbers : count_at m a school ≡ count_at m other school
  pub children : count_at m a school < quota_of m.seats school → All (λ entrant. has (a entrant.child) school ≡ has (other entrant.child) school) m.entrants

-- The same schools fill up: in every stable allocation of a problem each school has equally many entrants, and a school
-- with room has the same entrants in all of them (Roth 1986), tenants above the quota included.
abbrev pub SameSchoolsFill : Type 0
SameSchoolsFill =
    (m : Market) (a other : Allocation)
    → first_fault m ≡ None → IsStable m a → IsStable m other
    → (school : Code) → FillsAlike m a other school
