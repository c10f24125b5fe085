-- A problem in which one child hands in any list of any schools (Roth 1982; Dubins and Freedman 1981).
-- Its keys at the schools that it truly lists stay as they are; those at other schools are any.
use Rattle.std.specs.Prelude.{◌≡◌, ℕ, ◌≤◌, true, ◌==◌, if◌then◌else◌, List, map, Option, None, IfSome, All}
use Rattle.adm_match.specs.declared.problem.Wish.{Wish}
use Rattle.adm_match.specs.Market.{Code, Candidate, Market, assigned_rank, is_tenant, key_at, first_fault}
use Rattle.adm_match.specs.Stability.{Allocation, IsStable, IsBest}

-- the entrant with this list, tenant of this school or of none
abbrev pub with_any_list : List Wish → Option Code → Candidate → Candidate
with_any_list list tenant entrant = record entrant { list = list; tenant = tenant }

-- the problem in which the child hands in this list, and is tenant of this school or of none
abbrev pub handed_in : Market → ℕ → List Wish → Option Code → Market
handed_in m child list tenant =
    record m { entrants = map (λ entrant. if entrant.child == child then with_any_list list tenant entrant else entrant) m.entrants }

-- What an entrant cannot change by its list: its key at a school that it truly lists, where the new list names that school
-- too; and it is tenant of no other school, though it may give up its place.
pub record MayHandIn (list : List Wish) (tenant : Option Code) (entrant : Candidate) : Type 0 where
  pub keys : All (λ wish. IfSome (key_at list wish.school) (λ key. key ≡ wish.key)) entrant.list
  pub tenancy : IfSome tenant (λ school. is_tenant entrant school ≡ true)

-- No list whatever helps a child: by any list of any schools, no stable allocation gives the child a school that it truly
-- wants more than the one that the best allocation of its true list gives it; a school off its true list counts as none.
abbrev pub NoListHelps : Type 0
NoListHelps =
    (m : Market) (child : ℕ) (list : List Wish) (tenant : Option Code) (best a : Allocation)
    → first_fault m ≡ None → All (λ entrant. entrant.child ≡ child → MayHandIn list tenant entrant) m.entrants
    → IsBest m best → IsStable (handed_in m child list tenant) a
    → All (λ entrant. entrant.child ≡ child → assigned_rank entrant.list (best child) ≤ assigned_rank entrant.list (a child)) m.entrants
