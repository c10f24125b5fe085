-- Children that agree on their lists (Dubins and Freedman 1981; Hwang in Gale and Sotomayor 1985; tenants are this profile's).
use Rattle.std.specs.Prelude.{◌≡◌, ℕ, ◌≤◌, Bool, true, false, None, Any}
use Rattle.std.specs.List.{AllZip}
use Rattle.adm_match.specs.Market.{Candidate, Market, assigned_rank, first_fault}
use Rattle.adm_match.specs.Stability.{Allocation, IsStable, IsBest}
use Rattle.adm_match_laws.specs.AnyList.{MayHandIn}

-- an entrant, and what it hands in: of the group any list of any schools, perhaps without its tenancy, and of the others their own
pub record HandsIn (group : ℕ → Bool) (entrant now : Candidate) : Type 0 where
  pub child : now.child ≡ entrant.child
  pub own : group entrant.child ≡ false → now ≡ entrant
  pub any : group entrant.child ≡ true → MayHandIn now.list now.tenant entrant

-- the problem in which the children of the group hand in any lists
pub record IsHandedInBy (group : ℕ → Bool) (m now : Market) : Type 0 where
  pub seats : now.seats ≡ m.seats
  pub entrants : AllZip (HandsIn group) m.entrants now.entrants

-- No group gains: whatever lists its children hand in, no stable allocation gives each of them a school that it truly wants
-- more than the one that the best allocation of the true lists gives it.
abbrev pub NoGroupGains : Type 0
NoGroupGains =
    (m now : Market) (group : ℕ → Bool) (best a : Allocation)
    → first_fault m ≡ None → IsHandedInBy group m now → IsBest m best → IsStable now a
    → Any (λ entrant. group entrant.child ≡ true) m.entrants
    → Any (λ entrant. (group entrant.child ≡ true) × (assigned_rank entrant.list (best entrant.child) ≤ assigned_rank entrant.list (a entrant.child))) m.entrants
