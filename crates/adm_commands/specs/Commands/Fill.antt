-- To fill a vacancy: of the children that wait, the one that ranks first with its lot is offered the place.
-- School Admissions Code 2021, section 2: who waits ranks by the oversubscription criteria, and not by the day of joining
-- the list; the lots of a vacancy are this profile's.
use Rattle.std.specs.Prelude.{◌≡◌, ℕ, ◌+◌, Bool, true, false, not, ◌&&◌, nat_eq, nat_le, nat_lt, List, [], ◌∷◌, map, length, Option, Some, None}
use Rattle.std.specs.FinMap.{get, contains_key}
use Rattle.adm_types.specs.Lots.{repeats_lot}
use Rattle.adm_types.specs.Limits.{most_draws, most_lots}
use Rattle.adm_types.specs.Seasons.{lists_end}
use Rattle.adm_types.specs.declared.rows.PlaceState.TheVariants.{Offered}
use Rattle.adm_types.specs.declared.rows.School.{School}
use Rattle.adm_types.specs.declared.commands.Reply.{Reply}
use Rattle.adm_types.specs.declared.commands.Reply.TheVariants.{Filled}
use Rattle.adm_waiting.specs.Waiting.{first_by_lot}
use Rattle.adm_types.specs.declared.draws.Draw.{Draw}
use Rattle.adm_types.specs.declared.draws.Lot.{Lot}
use Rattle.adm_types.specs.declared.commands.Refusal.{Refusal}
use Rattle.adm_types.specs.declared.commands.Refusal.TheVariants.{UnknownSchool, WrongDraw, ListClosed, EmptyList, NoVacancy, TooSoon, LotCount, LotsRepeated, RegisterFull}
use Rattle.adm_round.specs.declared.applicants.Pair.{Pair}
use Rattle.adm_round.specs.Round.{lots_of}
use Rattle.adm_register.specs.declared.difference.Difference.{Difference}
use Rattle.adm_register.specs.State.{State}
use Rattle.adm_register.specs.Change.{no_change}
use Rattle.adm_register.specs.Draws.{is_due, draws_so_far}
use Rattle.adm_register.specs.Rows.{vacancies}
use Rattle.adm_register.specs.Waits.{waiting_at}
use Rattle.adm_commands.specs.KeptByTypes.{KeptByRound}
use Rattle.adm_commands.specs.Rules.{Rules, by_tests}

-- for whom lots are drawn, in their order: who waits at the school
abbrev pub fill_pairs : State → List ℕ → List Pair
fill_pairs s code = map (λ child. record { school = code; child = child.no }) (waiting_at s code)

-- the lots of a fill: the numbers that were drawn, in turn, for the children that wait at the school
abbrev pub fill_lots : State → List ℕ → List ℕ → List Lot
fill_lots s code numbers = lots_of (fill_pairs s code) numbers

-- whether a place remains
abbrev pub is_vacant : Option ℕ → Bool
is_vacant None = false
is_vacant (Some places) = nat_lt 0 places

-- The school is there, the draw is the next, the lists are open, someone waits, and the school has a vacancy when all its places are counted.
-- The day is due, there is one lot for each who waits, no two lots are equal, and there is room.
unfoldable pub tests : State → ℕ → List ℕ → ℕ → List ℕ → List (Bool × Refusal)
tests old draw school day numbers =
    (contains_key old.schools school, UnknownSchool)
    ∷ (nat_eq draw ((draws_so_far old).draws + 1), WrongDraw)
    ∷ (nat_le day (lists_end old.season), ListClosed)
    ∷ (nat_lt 0 (length (waiting_at old school)), EmptyList)
    ∷ (is_vacant (vacancies old school), NoVacancy)
    ∷ (is_due old.season (draws_so_far old).day day, TooSoon)
    ∷ (nat_eq (length numbers) (length (waiting_at old school)), LotCount)
    ∷ (not (repeats_lot (fill_lots old school numbers)), LotsRepeated)
    ∷ (nat_lt (draws_so_far old).draws most_draws && nat_le ((draws_so_far old).lots + length numbers) (most_lots old.season.size), RegisterFull)
    ∷ []

-- the draw of a fill with these lots, by which the child was moved to the school
abbrev pub draw_of_fill : ℕ → List ℕ → ℕ → ℕ → List Lot → Draw
draw_of_fill number school day child lots =
    record { number = number; round = 0; school = Some school; day = day; outcomes = record { child = child; school = Some school; fresh = true } ∷ []; lots = lots }

-- the draw of a fill, from the numbers that were drawn and the child that is offered the vacancy
abbrev pub filled_draw : State → ℕ → List ℕ → ℕ → List ℕ → ℕ → Draw
filled_draw old draw school day numbers child = draw_of_fill draw school day child (fill_lots old school numbers)

-- the child is offered a place at the school in place of the one that it had, if any, and the draw is added
unfoldable pub change_of : State → ℕ → List ℕ → ℕ → List ℕ → ℕ → Difference
change_of old draw school day numbers child = record no_change {
  places = record { child = child; place = record { school = school; state = Offered day None } } ∷ [];
  draws = filled_draw old draw school day numbers child ∷ [];
}

-- of those that wait at the school one ranks before all others by class, distance and the lots handed in: just this child is offered the vacancy, and named
abbrev pub IsFillResult : State → ℕ → List ℕ → ℕ → List ℕ → Difference → Reply → Type 0
IsFillResult old draw school day lots change reply =
    (row : School) × (get old.schools school ≡ Some row)
    × (child : ℕ) × (first_by_lot row (waiting_at old school) lots ≡ Some child)
    × (change ≡ change_of old draw school day lots child) × (reply ≡ Filled child)

-- the command
abbrev pub rules : ℕ → List ℕ → ℕ → List ℕ → Rules
rules draw school day lots = record { kept = KeptByRound day lots; refused = λ old. by_tests (tests old draw school day lots); changes = λ old. IsFillResult old draw school day lots }
