-- A problem of allocation: entrants with their lists, the seats of the schools, and what is wrong with a problem.
-- Gale and Shapley 1962; tenants and the tests of a problem are this profile's.
use Rattle.std.specs.Prelude.{ℕ, ◌+◌, Bool, false, not, ◌||◌, ◌&&◌, ◌==◌, if◌then◌else◌, List, [], ◌∷◌, length, Option, None, Some, option_map, unwrap_or, bytes_eq}
use Rattle.std.specs.List.{list_any, position_or_len, find}
use Rattle.adm_types.specs.Code.{has}
use Rattle.adm_rank.specs.declared.keys.RankKey.{RankKey}
use Rattle.adm_match.specs.declared.problem.Wish.{Wish}
use Rattle.adm_match.specs.declared.problem.Seats.{Seats}
use Rattle.adm_match.specs.declared.problem.BadProblem.{BadProblem}
use Rattle.adm_match.specs.declared.problem.BadProblem.TheVariants.{RepeatedSchool, UnknownSchool, EqualRank, TenantNotLast, RepeatedChild}
use Rattle.adm_rank.specs.Ranking.{precedes}

-- the code of a school
abbrev pub Code : Type 0
Code = List ℕ

-- a child, its list from the most wanted school on, and the school of which it is a tenant
pub record Candidate : Type 0 where
  pub child : ℕ
  pub list : List Wish
  pub tenant : Option Code

-- the entrants, and the places of each school
pub record Market : Type 0 where
  pub entrants : List Candidate
  pub seats : List Seats

-- the problem of these entrants and seats
abbrev pub market_of : List Candidate → List Seats → Market
market_of entrants seats = record { entrants = entrants; seats = seats }

-- The rank of a school among a child's preferences: its index on the list, from 0; the list's length where it is not on
-- it. The smaller rank is the more wanted.
abbrev pub preference_rank : List Wish → Code → ℕ
preference_rank list school = position_or_len (λ wish. bytes_eq wish.school school) list

-- the rank among a child's preferences of what it is assigned: none comes after every school
abbrev pub assigned_rank : List Wish → Option Code → ℕ
assigned_rank list None = length list
assigned_rank list (Some school) = preference_rank list school

-- whether the entrant is a tenant of the school (this profile)
abbrev pub is_tenant : Candidate → Code → Bool
is_tenant entrant school = has entrant.tenant school

-- the key by which a child with this list ranks at the school, if the list names it
abbrev pub key_at : List Wish → Code → Option RankKey
key_at list school = option_map (λ wish. wish.key) (find (λ wish. bytes_eq wish.school school) list)

-- whether there are both keys, and the first ranks before the second
abbrev pub both_precede : Option RankKey → Option RankKey → Bool
both_precede None key = false
both_precede (Some first) None = false
both_precede (Some first) (Some second) = precedes first second

-- whether the one ranks before the other at the school, by their keys there (School Admissions Code 2021, section 1)
abbrev pub ranks_before : Code → Candidate → Candidate → Bool
ranks_before school one other = both_precede (key_at one.list school) (key_at other.list school)

-- the quota of a school
abbrev pub quota_of : List Seats → Code → ℕ
quota_of seats school = unwrap_or (option_map (λ seat. seat.quota) (find (λ seat. bytes_eq seat.code school) seats)) 0

-- whether some element and a later one pass the test
abbrev pub some_pair : {X : Type 0} → (X → X → Bool) → List X → Bool
some_pair test [] = false
some_pair test (x ∷ xs) = list_any (test x) xs || some_pair test xs

-- whether two seats have one code, and two entrants are one child
abbrev pub same_code : Seats → Seats → Bool
same_code one other = bytes_eq one.code other.code

-- whether two entrants are the same child
abbrev pub same_child : Candidate → Candidate → Bool
same_child one other = one.child == other.child

-- whether two wishes name one school
abbrev pub same_school : Wish → Wish → Bool
same_school one other = bytes_eq one.school other.school

-- a code that is repeated, among the seats or on one list
abbrev pub repeats_school : Market → Bool
repeats_school m =
    some_pair same_code m.seats
    || list_any (λ entrant. some_pair same_school entrant.list) m.entrants

-- a list that names a school without seats
abbrev pub names_unknown : Market → Bool
names_unknown m =
    list_any
    (λ entrant. list_any (λ wish. not (list_any (λ seat. bytes_eq seat.code wish.school) m.seats)) entrant.list)
    m.entrants

-- a child that is repeated
abbrev pub repeats_child : Market → Bool
repeats_child m = some_pair same_child m.entrants

-- whether there is a school, and it is not the last of the list
abbrev pub is_not_last : List Wish → Option Code → Bool
is_not_last list None = false
is_not_last list (Some school) = not (preference_rank list school + 1 == length list)

-- a tenant whose school is not the last of its list
abbrev pub has_tenant_not_last : Market → Bool
has_tenant_not_last m = list_any (λ entrant. is_not_last entrant.list entrant.tenant) m.entrants

-- whether there is a key, and it is equal to this one
abbrev pub is_key : Option RankKey → RankKey → Bool
is_key None key = false
is_key (Some other) key = other.class == key.class && (other.distance == key.distance && other.lot == key.lot)

-- whether neither is a tenant of the school, so that both compete for its seats
abbrev pub both_compete : Code → Candidate → Candidate → Bool
both_compete school one other = not (is_tenant one school) && not (is_tenant other school)

-- whether the second lists the school of the first one's wish with the same key, and both compete for it
abbrev pub shares : Candidate → Candidate → Wish → Bool
shares one other wish = is_key (key_at other.list wish.school) wish.key && both_compete wish.school one other

-- whether the two list a school with equal keys, and neither is its tenant
abbrev pub share_rank : Candidate → Candidate → Bool
share_rank one other = list_any (shares one other) one.list

-- two entrants that a school cannot distinguish
abbrev pub has_equal_rank : Market → Bool
has_equal_rank m = some_pair share_rank m.entrants

-- the first of the tests that fails (this profile)
abbrev pub first_fault : Market → Option BadProblem
first_fault m =
    if repeats_school m then Some RepeatedSchool
    else (if names_unknown m then Some UnknownSchool
    else (if repeats_child m then Some RepeatedChild
    else (if has_tenant_not_last m then Some TenantNotLast
    else (if has_equal_rank m then Some EqualRank else None))))
