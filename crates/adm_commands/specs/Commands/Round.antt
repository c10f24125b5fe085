-- To hold a round (School Admissions Code 2021, sections 1 and 2; Gale and Shapley 1962; entrants, tenants and lots are this profile's).
use Rattle.std.specs.Prelude.{◌≡◌, ℕ, ◌+◌, ◌-◌, Bool, not, ◌&&◌, ◌||◌, nat_eq, nat_le, nat_lt, List, [], ◌∷◌, map, length, count_by, is_none, Option, None, option_map, if◌then◌else◌, bytes_eq}
use Rattle.std.specs.List.{filter_map}
use Rattle.std.specs.Ordering.{nat_cmp}
use Rattle.std.specs.FinMap.{FinMap, get, values}
use Rattle.adm_types.specs.Lots.{repeats_lot}
use Rattle.adm_types.specs.Limits.{most_draws, most_lots}
use Rattle.adm_types.specs.Seasons.{closing, lists_end}
use Rattle.adm_types.specs.declared.rows.School.{School}
use Rattle.adm_types.specs.declared.rows.Application.{Application}
use Rattle.adm_types.specs.declared.rows.PlaceRow.{PlaceRow}
use Rattle.adm_types.specs.declared.rows.PlaceState.TheVariants.{Offered}
use Rattle.adm_types.specs.declared.draws.Outcome.{Outcome}
use Rattle.adm_types.specs.declared.draws.Lot.{Lot}
use Rattle.adm_types.specs.declared.commands.Refusal.{Refusal}
use Rattle.adm_types.specs.declared.commands.Refusal.TheVariants.{WrongDraw, ListClosed, TooSoon, LotCount, LotsRepeated, RegisterFull}
use Rattle.adm_types.specs.declared.commands.Reply.{Reply}
use Rattle.adm_types.specs.declared.commands.Reply.TheVariants.{Round}
use Rattle.adm_round.specs.declared.applicants.Applicant.{Applicant}
use Rattle.adm_round.specs.declared.applicants.Site.{Site}
use Rattle.adm_round.specs.declared.applicants.Pair.{Pair}
use Rattle.adm_round.specs.Round.{pairs, lots_of}
use Rattle.adm_round.specs.Ranks.{market_of_round}
use Rattle.adm_round.specs.Outcomes.{AreBest, is_kept}
use Rattle.adm_match.specs.Market.{Market}
use Rattle.adm_register.specs.declared.difference.Difference.{Difference}
use Rattle.adm_register.specs.State.{State, is_plan}
use Rattle.adm_register.specs.Change.{no_change}
use Rattle.adm_register.specs.Draws.{is_due, draws_so_far}
use Rattle.adm_register.specs.WellFormed.{has_first_round}
use Rattle.adm_register.specs.Wanted.{wanted_of, own_school}
use Rattle.adm_commands.specs.KeptByTypes.{KeptByRound}
use Rattle.adm_commands.specs.Rules.{Rules, by_tests}

-- ---- the problem of a round

-- in the first round an application by the closing day takes part, and later each
abbrev pub takes_part : State → Application → Bool
takes_part s application = has_first_round s.draws || nat_le application.day (closing s.season)

-- the child of an application, with the schools that it wants, and that of which it is a tenant
abbrev pub applicant_of : State → Application → Option Applicant
applicant_of s application =
    if takes_part s application
    then option_map (λ child. record { child = child; wanted = wanted_of s application; own = own_school (get s.places application.child) }) (get s.children application.child)
    else None

-- who takes part, by their numbers
abbrev pub round_applicants : State → List Applicant
round_applicants s = filter_map (applicant_of s) (values s.applications)

-- how many places at the school are those of a plan
abbrev pub plans_at : FinMap nat_cmp PlaceRow → List ℕ → ℕ
plans_at places code = count_by (λ row. bytes_eq row.place.school code && is_plan row.place.state) (values places)

-- the admission number less the places of plans, not below 0
abbrev pub quota : State → School → ℕ
quota s school = school.pan - plans_at s.places school.code

-- the schools with their quotas, by their codes
abbrev pub sites : State → List Site
sites s = map (λ school. record { school = school; quota = quota s school }) (values s.schools)

-- for whom lots are drawn, in their order
abbrev pub round_pairs : State → List Pair
round_pairs s = pairs (sites s) (round_applicants s)

-- the lots of a round: the numbers that were drawn, in turn, for its pairs
abbrev pub round_lots : State → List ℕ → List Lot
round_lots s numbers = lots_of (round_pairs s) numbers

-- the problem of a round, with the lots of these numbers
abbrev pub round_market : State → List ℕ → Market
round_market s numbers = market_of_round (sites s) (round_applicants s) (round_lots s numbers)

-- ---- the command

-- there is one number for each pair
abbrev pub is_lot_count : State → List ℕ → Bool
is_lot_count s numbers = nat_eq (length numbers) (length (round_pairs s))

-- at no school two of the lots are equal
abbrev pub are_lots_apart : State → List ℕ → Bool
are_lots_apart s numbers = not (repeats_lot (round_lots s numbers))

-- the draw is the next, the lists are open, the day is due, there is one lot for each pair and at no school two that are equal, and
-- there is room
unfoldable pub tests : State → ℕ → ℕ → List ℕ → List (Bool × Refusal)
tests old draw day numbers =
    (nat_eq draw ((draws_so_far old).draws + 1), WrongDraw)
    ∷ (nat_le day (lists_end old.season), ListClosed)
    ∷ (is_due old.season (draws_so_far old).day day, TooSoon)
    ∷ (is_lot_count old numbers, LotCount)
    ∷ (are_lots_apart old numbers, LotsRepeated)
    ∷ (nat_lt (draws_so_far old).draws most_draws && nat_le ((draws_so_far old).lots + length numbers) (most_lots old.season.size), RegisterFull)
    ∷ []

-- the outcomes are those of the child-optimal stable allocation
abbrev pub AreOutcomes : State → List ℕ → List Outcome → Type 0
AreOutcomes old numbers outcomes = AreBest (round_market old numbers) (round_applicants old) outcomes

-- what is offered: the school of a fresh outcome
abbrev pub offer_of : ℕ → Outcome → Option PlaceRow
offer_of day outcome =
    if outcome.fresh
    then option_map (λ school. record { child = outcome.child; place = record { school = school; state = Offered day None } }) outcome.school
    else None

-- the places that fresh outcomes offer on this day
abbrev pub offers_on : ℕ → List Outcome → List PlaceRow
offers_on day outcomes = filter_map (offer_of day) outcomes

-- each fresh outcome is offered, and the draw is added
unfoldable pub change_of : State → ℕ → ℕ → List ℕ → List Outcome → Difference
change_of old draw day numbers outcomes = record no_change {
  places = offers_on day outcomes;
  draws = record { number = draw; round = (draws_so_far old).rounds + 1; school = None; day = day; outcomes = outcomes; lots = round_lots old numbers } ∷ [];
}

-- how many are offered a school, keep theirs, and have none
abbrev pub reply_of : State → List Outcome → Reply
reply_of old outcomes =
    Round ((draws_so_far old).rounds + 1) (count_by (λ outcome. outcome.fresh) outcomes) (count_by is_kept outcomes) (count_by (λ outcome. is_none outcome.school) outcomes)

-- a round has outcomes, which are those of the child-optimal stable allocation of its problem: these are changed and counted
abbrev pub IsRoundResult : State → ℕ → ℕ → List ℕ → Difference → Reply → Type 0
IsRoundResult old draw day lots change reply =
    (outcomes : List Outcome) × AreOutcomes old lots outcomes × (change ≡ change_of old draw day lots outcomes) × (reply ≡ reply_of old outcomes)

-- the command
abbrev pub rules : ℕ → ℕ → List ℕ → Rules
rules draw day lots = record { kept = KeptByRound day lots; refused = λ old. by_tests (tests old draw day lots); changes = λ old. IsRoundResult old draw day lots }
