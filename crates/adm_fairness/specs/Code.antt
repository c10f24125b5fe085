-- Sentences of the School Admissions Code 2021, said of registers: who comes first, and what gives no priority.
use Rattle.std.specs.Prelude.{◌≡◌, ◌⊎◌, ℕ, Bool, true, false, List, length, Option, Some, None, IfSome, All, Any, Contains, option_map, unwrap_or}
use Rattle.std.specs.FinMap.{get, insert}
use Rattle.adm_types.specs.declared.rows.School.{School}
use Rattle.adm_types.specs.declared.rows.Child.{Child}
use Rattle.adm_types.specs.declared.rows.Application.{Application}
use Rattle.adm_types.specs.declared.rows.PlaceState.TheVariants.{Offered}
use Rattle.adm_types.specs.declared.draws.Lot.{Lot}
use Rattle.adm_types.specs.declared.commands.Command.TheVariants.{Round, Fill}
use Rattle.adm_types.specs.Limits.{is_listed}
use Rattle.adm_rank.specs.declared.keys.RankKey.{RankKey}
use Rattle.adm_match.specs.Market.{Code, key_at}
use Rattle.adm_waiting.specs.Waiting.{is_ahead}
use Rattle.adm_round.specs.Ranks.{lot_at}
use Rattle.adm_register.specs.declared.standings.Standing.{Standing}
use Rattle.adm_register.specs.State.{State}
use Rattle.adm_register.specs.Wanted.{wanted_of}
use Rattle.adm_register.specs.Waits.{is_waiting, waiting_at, list_of, standing_of}
use Rattle.adm_register.specs.WellFormed.{WellFormed}
use Rattle.adm_commands.specs.Problem.{lots_fault}
use Rattle.adm_commands.specs.Commands.Round.{takes_part, round_lots, round_market}
use Rattle.adm_commands.specs.Steps.{Accepts}
use Rattle.adm_fairness.specs.Rounds.{key_in, ranks_before_in, has_place_at}

-- ---- looked-after children first

-- whether the child is looked after, or was
abbrev pub is_looked_after : State → ℕ → Bool
is_looked_after s child = unwrap_or (option_map (λ row. row.looked_after) (get s.children child)) false

-- Each child that has a place at the school outside plans had it before, or is looked after too.
abbrev pub OnlyForLookedAfter : State → State → Code → Type 0
OnlyForLookedAfter old new code = (other : ℕ) → has_place_at new code other ≡ true → (has_place_at old code other ≡ true) ⊎ (is_looked_after old other ≡ true)

-- A looked-after child is passed over only for looked-after children: by a round, at a school that it wants more than what it has
-- afterwards; and by a fill of a school at which it waits. (The Code: looked-after children have the highest priority.)
pub record LookedAfterFirst : Type 0 where
  pub rounds :
      (old new : State) (draw day : ℕ) (numbers : List ℕ) (application : Application) (code : Code)
      → WellFormed old → Accepts old (Round draw day numbers) new
      → get old.applications application.child ≡ Some application → takes_part old application ≡ true
      → is_looked_after old application.child ≡ true → is_listed (wanted_of new application) code ≡ true
      → OnlyForLookedAfter old new code
  pub fills :
      (old new : State) (draw : ℕ) (code : Code) (day : ℕ) (numbers : List ℕ) (child : ℕ)
      → WellFormed old → Accepts old (Fill draw code day numbers) new
      → is_waiting old child code ≡ true → is_looked_after old child ≡ true
      → OnlyForLookedAfter old new code

-- ---- what gives no priority

-- In the problem of a round each key by which a child ranks at a school is that of its class, its distance and its lot there. Neither
-- its list nor its day of application occurs in it. (The Code: the order in which a parent ranks schools gives no priority.)
abbrev pub RanksByRule : Type 0
RanksByRule =
    (s : State) (numbers : List ℕ) → WellFormed s → lots_fault s numbers ≡ None
    → All (λ entrant. (code : Code) → IfSome (key_at entrant.list code) (λ key. key_in s (round_lots s numbers) code entrant.child ≡ Some key)) (round_market s numbers).entrants

-- some entrant of the next round is the child, and competes for the school by this key
abbrev pub HasKey : State → List ℕ → ℕ → Code → RankKey → Type 0
HasKey s numbers child code key = Any (λ entrant. (entrant.child ≡ child) × (key_at entrant.list code ≡ Some key)) (round_market s numbers).entrants

-- So in two registers that have the same schools and children, whatever was applied for and when, a child that competes for a school in
-- the next round of both, by the same lot there, ranks by the same key.
abbrev pub ListGivesNoPriority : Type 0
ListGivesNoPriority =
    (one other : State) (numbers drawn : List ℕ) (child : ℕ) (code : Code) (first second : RankKey)
    → WellFormed one → WellFormed other → lots_fault one numbers ≡ None → lots_fault other drawn ≡ None
    → other.schools ≡ one.schools → other.children ≡ one.children
    → lot_at (round_lots other drawn) code child ≡ lot_at (round_lots one numbers) code child
    → HasKey one numbers child code first → HasKey other drawn child code second → second ≡ first

-- the register where the application is of another day
abbrev pub on_day : State → Application → ℕ → State
on_day s application day = record s { applications = insert s.applications application.child (record application { day = day }) }

-- The days of applications give no priority. (The Code: none by the date of application.) Where one of them has another day, the problem
-- of a round is the same, if its child takes part by both days or by neither; and by any day the same children wait at each school, its
-- waiting list is the same, and a fill by the same lots leaves the same places.
pub record DayGivesNoPriority : Type 0 where
  pub rounds :
      (s : State) (application : Application) (day : ℕ) (numbers : List ℕ)
      → get s.applications application.child ≡ Some application → takes_part s (record application { day = day }) ≡ takes_part s application
      → round_market (on_day s application day) numbers ≡ round_market s numbers
  pub waits :
      (s : State) (application : Application) (day : ℕ) (child : ℕ) (code : Code)
      → get s.applications application.child ≡ Some application
      → is_waiting (on_day s application day) child code ≡ is_waiting s child code
  pub lists :
      (s : State) (application : Application) (day : ℕ) (school : School)
      → get s.applications application.child ≡ Some application
      → list_of (on_day s application day) school ≡ list_of s school
  pub fills :
      (s new other : State) (application : Application) (day draw : ℕ) (code : Code) (on : ℕ) (numbers : List ℕ)
      → get s.applications application.child ≡ Some application
      → Accepts s (Fill draw code on numbers) new → Accepts (on_day s application day) (Fill draw code on numbers) other
      → other.places ≡ new.places

-- A waiting list is that of the children who wait: of two registers with the same children, where the same of them wait at a school, the
-- list of the school is the same. Neither the order of preferences nor the day of application or of joining the list occurs in it.
abbrev pub ListsKnowNoOrder : Type 0
ListsKnowNoOrder =
    (one other : State) (school : School)
    → WellFormed one → WellFormed other → other.children ≡ one.children
    → ((child : ℕ) → is_waiting other child school.code ≡ is_waiting one child school.code)
    → (waiting_at other school.code ≡ waiting_at one school.code) × (list_of other school ≡ list_of one school)

-- ---- lots

-- whether there are a school and two children, and the one is ahead of the other at the school
abbrev pub is_ahead_by : Option School → Option Child → Option Child → Bool
is_ahead_by None one other = false
is_ahead_by (Some school) None other = false
is_ahead_by (Some school) (Some one) None = false
is_ahead_by (Some school) (Some one) (Some other) = is_ahead school one other

-- whether both children and the school are in the register, and the one has a smaller class there, or the same class and a smaller distance
abbrev pub is_ahead_at : State → Code → ℕ → ℕ → Bool
is_ahead_at s code one other = is_ahead_by (get s.schools code) (get s.children one) (get s.children other)

-- Lots part equals alone: whoever has a smaller class at a school, or the same class and a smaller distance, ranks before the other
-- whatever the lots; and who ranks before another has by no lots a greater class, nor the same class and a greater distance.
pub record LotsPartEquals : Type 0 where
  pub ahead : (s : State) (lots : List Lot) (code : Code) (one other : ℕ) → is_ahead_at s code one other ≡ true → ranks_before_in s lots code one other ≡ true
  pub never_behind : (s : State) (lots : List Lot) (code : Code) (one other : ℕ) → ranks_before_in s lots code one other ≡ true → is_ahead_at s code other one ≡ false

-- ---- waiting lists and fills

-- The child was first on the waiting list: its position was 1. It is offered a place at the school on this day, and no other child's
-- place changes.
pub record IsOfferedFirst (old new : State) (code : Code) (day : ℕ) (child : ℕ) : Type 0 where
  pub standing : Standing
  pub stood : standing_of old child code ≡ Some standing
  pub first : standing.entry.position ≡ 1
  pub offered : get new.places child ≡ Some (record { child = child; place = record { school = code; state = Offered day None } })
  pub others : (other : ℕ) → (other ≡ child → ⊥) → get new.places other ≡ get old.places other

-- A fill offers its place to a child of position 1.
abbrev pub FillTakesTheFirst : Type 0
FillTakesTheFirst =
    (old new : State) (draw : ℕ) (code : Code) (day : ℕ) (numbers : List ℕ)
    → WellFormed old → Accepts old (Fill draw code day numbers) new
    → (child : ℕ) × IsOfferedFirst old new code day child

-- The position that is printed of a child is that of its own entry on the school's waiting list, and the number beside it is that of
-- those who wait.
abbrev pub StandingIsListed : Type 0
StandingIsListed =
    (s : State) (school : School) (child : ℕ) (standing : Standing)
    → WellFormed s → get s.schools school.code ≡ Some school → standing_of s child school.code ≡ Some standing
    → (standing.entry.child ≡ child) × Contains (list_of s school) standing.entry × (standing.many ≡ length (list_of s school))
