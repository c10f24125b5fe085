-- What no other allocation of a problem does: none is better for each child (Roth 1982), and no fair one is better for any.
-- Fairness as in Balinski and Sonmez 1999: no justified envy; places may stay vacant. Tenants are this profile's.
use Rattle.std.specs.Prelude.{◌≡◌, ◌<◌, ◌≤◌, true, false, length, None, All, Any}
use Rattle.std.specs.List.{list_any}
use Rattle.adm_match.specs.Market.{Code, Candidate, Market, assigned_rank, is_tenant, first_fault}
use Rattle.adm_match.specs.Stability.{Allocation, IsAcceptable, IsFeasible, IsStable, IsBest, prefers, ranks_after}
use Rattle.adm_match_laws.specs.Generous.{IsNoWorse}

-- Of a school that the entrant wants more than what it has, it is no tenant, and no child there, no tenant of it, ranks after it.
abbrev pub HasNoClaim : Market → Allocation → Candidate → Type 0
HasNoClaim m a entrant =
    (school : Code) → prefers a entrant school ≡ true → (is_tenant entrant school ≡ false) × (list_any (ranks_after a school entrant) m.entrants ≡ false)

-- A fair allocation: it is acceptable to each child and feasible, and no child has a claim to a school that it wants more. It may leave
-- places vacant that children want.
pub record IsFair (m : Market) (a : Allocation) : Type 0 where
  pub acceptable : IsAcceptable m a
  pub feasible : IsFeasible m a
  pub no_claims : All (HasNoClaim m a) m.entrants

-- Each stable allocation is fair; and the best one gives each child a school that is not after what any fair one gives it.
pub record NoneFairer : Type 0 where
  pub stable : (m : Market) (a : Allocation) → IsStable m a → IsFair m a
  pub best : (m : Market) (best a : Allocation) → first_fault m ≡ None → IsBest m best → IsFair m a → IsNoWorse m.entrants best a

-- No feasible allocation, fair or not, is better for each child: where anybody takes part, some child has by the best allocation a school
-- that is not after what the other one gives it.
abbrev pub NotAllBetter : Type 0
NotAllBetter =
    (m : Market) (best a : Allocation)
    → first_fault m ≡ None → IsBest m best → IsFeasible m a → 0 < length m.entrants
    → Any (λ entrant. assigned_rank entrant.list (best entrant.child) ≤ assigned_rank entrant.list (a entrant.child)) m.entrants
