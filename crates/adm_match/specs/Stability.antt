-- Allocations of a problem: which are feasible, which pairs block, which are stable, and which is child-optimal.
-- Gale and Shapley 1962. The cases of a free place, of a child without a place and of a tenant are this profile's.
use Rattle.std.specs.Prelude.{◌≡◌, ℕ, ◌+◌, ◌<◌, ◌≤◌, Bool, true, false, not, ◌||◌, ◌&&◌, ◌==◌, nat_lt, List, length, Option, None, Some, unwrap_or, option_map, IfSome, All, Any, count_by, sum_by, find}
use Rattle.std.specs.List.{list_any}
use Rattle.adm_types.specs.Code.{has}
use Rattle.adm_match.specs.declared.problem.Wish.{Wish}
use Rattle.adm_match.specs.Market.{Code, Candidate, Market, preference_rank, assigned_rank, is_tenant, ranks_before, quota_of}

-- which school each child has, or none (Gale and Shapley 1962: an assignment)
abbrev pub Allocation : Type 0
Allocation = ℕ → Option Code

-- how many entrants are at the school
abbrev pub count_at : Market → Allocation → Code → ℕ
count_at m a school = count_by (λ entrant. has (a entrant.child) school) m.entrants

-- whether the entrant is at the school, and no tenant of it
abbrev pub is_guest : Allocation → Code → Candidate → Bool
is_guest a school entrant = has (a entrant.child) school && not (is_tenant entrant school)

-- acceptable to each child: each entrant has a school of its list, or none (the field: individually rational)
abbrev pub IsAcceptable : Market → Allocation → Type 0
IsAcceptable m a = All (λ entrant. IfSome (a entrant.child) (λ school. preference_rank entrant.list school < length entrant.list)) m.entrants

-- feasible: where some child at a school is no tenant of it, at most the quota are there (this profile: tenants alone
-- may be more)
abbrev pub IsFeasible : Market → Allocation → Type 0
IsFeasible m a = (school : Code) → list_any (is_guest a school) m.entrants ≡ true → count_at m a school ≤ quota_of m.seats school

-- whether the school is on the entrant's list, and before what it has
abbrev pub prefers : Allocation → Candidate → Code → Bool
prefers a entrant school = nat_lt (preference_rank entrant.list school) (assigned_rank entrant.list (a entrant.child))

-- whether the other one is at the school, is no tenant of it, and ranks after the entrant
abbrev pub ranks_after : Allocation → Code → Candidate → Candidate → Bool
ranks_after a school entrant other = is_guest a school other && ranks_before school entrant other

-- The entrant prefers the school; and it is a tenant of it, or the school has room, or some child there, no tenant
-- of it, ranks after the entrant (Gale and Shapley 1962; the tenant and the free place are this profile's).
abbrev pub blocks : Market → Allocation → Candidate → Code → Bool
blocks m a entrant school =
    prefers a entrant school
    && (is_tenant entrant school
    || (nat_lt (count_at m a school) (quota_of m.seats school)
    || list_any (ranks_after a school entrant) m.entrants))

-- no school blocks with the entrant
abbrev pub IsContent : Market → Allocation → Candidate → Type 0
IsContent m a entrant = (school : Code) → blocks m a entrant school ≡ false

-- it is acceptable to each child and feasible, and no pair blocks (Gale and Shapley 1962)
pub record IsStable (m : Market) (a : Allocation) : Type 0 where
  pub acceptable : IsAcceptable m a
  pub feasible : IsFeasible m a
  pub unblocked : All (IsContent m a) m.entrants

-- The child-optimal stable allocation: it is stable, and in every stable allocation each child has the same school, or
-- one later on its list, or none
-- (Gale and Shapley 1962: every applicant is at least as well off under it as under any other stable assignment).
pub record IsBest (m : Market) (best : Allocation) : Type 0 where
  pub stable : IsStable m best
  pub none_better :
      (a : Allocation) → IsStable m a
      → All (λ entrant. assigned_rank entrant.list (best entrant.child) ≤ assigned_rank entrant.list (a entrant.child)) m.entrants

-- the entrant and the school block, and no school earlier on its list blocks with it
pub record IsFirstOfList (m : Market) (a : Allocation) (entrant : Candidate) (school : Code) : Type 0 where
  pub blocking : blocks m a entrant school ≡ true
  pub first : (other : Code) → preference_rank entrant.list other < preference_rank entrant.list school → blocks m a entrant other ≡ false

-- the blocking pair with the smallest child number, of that child the first on its list (this profile)
pub record IsFirstBlock (m : Market) (a : Allocation) (pair : ℕ × Code) : Type 0 where
  pub blocking : Any (λ entrant. (entrant.child ≡ pair.0) × IsFirstOfList m a entrant pair.1) m.entrants
  pub smallest : All (λ entrant. entrant.child < pair.0 → IsContent m a entrant) m.entrants

-- what a round gives: for each entrant its school or none, and how many list entries were gone through
pub record Allotment : Type 0 where
  pub given : List (ℕ × Option Code)
  pub proposals : ℕ

-- the school that a child was given, or none
abbrev pub school_of : Allotment → Allocation
school_of allotment child = unwrap_or (option_map (λ row. row.1) (find (λ row. row.0 == child) allotment.given)) None

-- the list entries up to what a child has, or all of them where it has none (this profile)
abbrev pub gone_through : List Wish → Option Code → ℕ
gone_through list None = length list
gone_through list (Some school) = preference_rank list school + 1

-- the list entries gone through, of all entrants
abbrev pub proposals_of : Market → Allocation → ℕ
proposals_of m a = sum_by (λ entrant. gone_through entrant.list (a entrant.child)) m.entrants

-- whether the child is an entrant
abbrev pub is_entrant : Market → ℕ → Bool
is_entrant m child = list_any (λ entrant. entrant.child == child) m.entrants
