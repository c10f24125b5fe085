-- A problem in which one child lists its wanted schools in another order, or leaves some out (this profile).
use Rattle.std.specs.Prelude.{◌≡◌, ℕ, ◌≤◌, Bool, true, not, ◌&&◌, ◌==◌, if◌then◌else◌, List, ◌++◌, map, Option, None, Some, All, bytes_eq, find}
use Rattle.std.specs.List.{filter_map, list_any, list_all}
use Rattle.std.specs.Option.{option_to_list}
use Rattle.adm_match.specs.declared.problem.Wish.{Wish}
use Rattle.adm_match.specs.Market.{Code, Candidate, Market, assigned_rank, is_tenant, some_pair, first_fault}
use Rattle.adm_match.specs.declared.what_ifs.WhatIfFault.{WhatIfFault}
use Rattle.adm_match.specs.declared.what_ifs.WhatIfFault.TheVariants.{UnknownChild, NotItsSchools}
use Rattle.adm_match.specs.Stability.{Allocation, IsStable, IsBest}

-- the wishes of a list for these schools, in the schools' order
abbrev pub wishes_among : List Wish → List Code → List Wish
wishes_among list schools = filter_map (λ school. find (λ wish. bytes_eq wish.school school) list) schools

-- the entrant with these schools for its list, then the school of which it is a tenant
abbrev pub with_list : Candidate → List Code → Candidate
with_list entrant schools = record entrant { list = wishes_among entrant.list (schools ++ option_to_list entrant.tenant) }

-- the entrant, with these schools for its list where it is the child
abbrev pub relist : ℕ → List Code → Candidate → Candidate
relist child schools entrant = if entrant.child == child then with_list entrant schools else entrant

-- the problem with these schools for the child's list, then the school of which it is a tenant
abbrev pub relisted : Market → ℕ → List Code → Market
relisted m child schools = record m { entrants = map (relist child schools) m.entrants }

-- No gain by another order of the wanted schools, or by leaving some out: on the child's own list, what the best allocation of
-- the problem relisted gives it is never before what the best allocation of the problem gives it. Schools that its list has not are dropped.
abbrev pub NoGain : Type 0
NoGain =
    (m : Market) (child : ℕ) (schools : List Code) (best other : Allocation)
    → first_fault m ≡ None → IsBest m best → IsBest (relisted m child schools) other
    → All (λ entrant. entrant.child ≡ child → assigned_rank entrant.list (best child) ≤ assigned_rank entrant.list (other child)) m.entrants

-- Each problem has a best allocation, and no two that differ for an entrant.
abbrev pub OneBest : Type 0
OneBest =
    (m : Market) → first_fault m ≡ None
    → (best : Allocation) × IsBest m best × ((other : Allocation) → IsBest m other → All (λ entrant. best entrant.child ≡ other entrant.child) m.entrants)

-- whether the entrant wants the school: its list names it, and it is no tenant there
abbrev pub is_wanted : Candidate → Code → Bool
is_wanted entrant school = not (is_tenant entrant school) && list_any (λ wish. bytes_eq wish.school school) entrant.list

-- whether the entrant wants each of these schools, and none of them is repeated
abbrev pub may_list : Candidate → List Code → Bool
may_list entrant schools = list_all (is_wanted entrant) schools && not (some_pair bytes_eq schools)

-- why the child may not list these schools
abbrev pub list_fault : Option Candidate → List Code → Option WhatIfFault
list_fault None schools = Some UnknownChild
list_fault (Some entrant) schools = if may_list entrant schools then None else Some NotItsSchools

-- a child that is no entrant, or a school that it does not want or that is repeated
abbrev pub what_if_fault : Market → ℕ → List Code → Option WhatIfFault
what_if_fault m child schools = list_fault (find (λ entrant. entrant.child == child) m.entrants) schools

-- the school is the child's in the best allocation of the problem in which it lists these schools
abbrev pub IsWhatIf : Market → ℕ → List Code → Option Code → Type 0
IsWhatIf m child schools school = (other : Allocation) × IsBest (relisted m child schools) other × (school ≡ other child)

-- on its list the school is never before the one that the child has in the best allocation
abbrev pub IsNoGain : Market → ℕ → Option Code → Type 0
IsNoGain m child school =
    (best : Allocation) → IsBest m best
    → All (λ entrant. entrant.child ≡ child → assigned_rank entrant.list (best child) ≤ assigned_rank entrant.list school) m.entrants
