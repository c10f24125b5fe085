-- The outcomes of a round: for each applicant a school or none.
-- School Admissions Code 2021, section 2: an offer for each child; what is fresh is this profile's.
use Rattle.std.specs.Prelude.{◌≡◌, ℕ, ◌≤◌, Bool, true, false, not, ◌&&◌, List, map, Option, None, Some, is_some, IfSome, All, count_by}
use Rattle.std.specs.List.{list_any, AllZip}
use Rattle.adm_types.specs.Code.{has}
use Rattle.adm_types.specs.declared.draws.Lot.{Lot}
use Rattle.adm_types.specs.declared.draws.Outcome.{Outcome}
use Rattle.adm_types.specs.Limits.{is_listed}
use Rattle.adm_match.specs.Market.{Code, Market, first_fault}
use Rattle.adm_match.specs.Stability.{Allocation, IsBest}
use Rattle.adm_round.specs.declared.applicants.Applicant.{Applicant}
use Rattle.adm_round.specs.declared.applicants.Site.{Site}
use Rattle.adm_round.specs.Round.{code_of_site, number_of, listed, IsPosed}
use Rattle.adm_round.specs.Ranks.{market_of_round}

-- whether a school is not the one of which the child was a tenant
abbrev pub is_fresh : Option Code → Option Code → Bool
is_fresh own None = false
is_fresh own (Some school) = not (has own school)

-- what the applicant has where it is allotted the school, or none
abbrev pub outcome_of : Applicant → Option Code → Outcome
outcome_of applicant school = record { child = number_of applicant; school = school; fresh = is_fresh applicant.own school }

-- what an allocation gives the applicants, in their order
abbrev pub outcomes_of : Allocation → List Applicant → List Outcome
outcomes_of allocation applicants = map (λ applicant. outcome_of applicant (allocation (number_of applicant))) applicants

-- the outcomes are what the child-optimal stable allocation of the problem gives the applicants
pub record AreBest (market : Market) (applicants : List Applicant) (outcomes : List Outcome) : Type 0 where
  pub allocation : Allocation
  pub best : IsBest market allocation
  pub given : outcomes ≡ outcomes_of allocation applicants

-- the applicant has a school of its list, or none
abbrev pub HasListedSchool : Applicant → Outcome → Type 0
HasListedSchool applicant outcome = IfSome outcome.school (λ school. is_listed (listed applicant) school ≡ true)

-- an applicant that is a tenant has a school: its own, or one that it wants more
abbrev pub KeepsTenant : Applicant → Outcome → Type 0
KeepsTenant applicant outcome = is_some applicant.own ≡ true → is_some outcome.school ≡ true

-- how many have the school
abbrev pub outcomes_at : Code → List Outcome → ℕ
outcomes_at school outcomes = count_by (λ outcome. has outcome.school school) outcomes

-- some have the school, and had it not before
abbrev pub has_fresh : Code → List Outcome → Bool
has_fresh school outcomes = list_any (λ outcome. has outcome.school school && outcome.fresh) outcomes

-- where some have the site's school who had it not before, at most its quota have it
abbrev pub HasRoom : List Outcome → Site → Type 0
HasRoom outcomes site = has_fresh (code_of_site site) outcomes ≡ true → outcomes_at (code_of_site site) outcomes ≤ site.quota

-- what a child has is its place of before
abbrev pub is_kept : Outcome → Bool
is_kept outcome = is_some outcome.school && not outcome.fresh

-- The problem that a round poses is well-formed.
abbrev pub PosedWithoutFault : Type 0
PosedWithoutFault =
    (sites : List Site) (applicants : List Applicant) (lots : List Lot)
    → IsPosed sites applicants lots → first_fault (market_of_round sites applicants lots) ≡ None

-- A round has at most one list of best outcomes.
abbrev pub OneAllotment : Type 0
OneAllotment =
    (sites : List Site) (applicants : List Applicant) (lots : List Lot) (one other : List Outcome)
    → AreBest (market_of_round sites applicants lots) applicants one → AreBest (market_of_round sites applicants lots) applicants other
    → one ≡ other

-- Besides, each applicant has a school of its list or none, and a tenant has one; there is room where some have a school
-- afresh; and the outcomes are those of the applicants, in their order.
abbrev pub AllotmentFits : Type 0
AllotmentFits =
    (sites : List Site) (applicants : List Applicant) (lots : List Lot) (outcomes : List Outcome)
    → IsPosed sites applicants lots
    → AreBest (market_of_round sites applicants lots) applicants outcomes
    → AllZip HasListedSchool applicants outcomes × AllZip KeepsTenant applicants outcomes × All (HasRoom outcomes) sites × (map (λ outcome. outcome.child) outcomes ≡ map number_of applicants)
