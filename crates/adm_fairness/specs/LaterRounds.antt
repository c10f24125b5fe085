-- Rounds that follow one another in a register, with withdrawals and raised admission numbers between them (this profile).
use Rattle.std.specs.Prelude.{◌≡◌, ⊤, ℕ, Bool, true, false, List, [], ◌∷◌, map, Some, None, All}
use Rattle.std.specs.List.{AllByRecursion}
use Rattle.std.specs.FinMap.{get, retain_keys}
use Rattle.adm_types.specs.declared.rows.Application.{Application}
use Rattle.adm_types.specs.declared.draws.Lot.{Lot}
use Rattle.adm_types.specs.declared.draws.Outcome.{Outcome}
use Rattle.adm_types.specs.declared.commands.Command.{Command}
use Rattle.adm_types.specs.declared.commands.Command.TheVariants.{RaisePan, Accept, Decline, Remind, Lapse, LeaveList, Round}
use Rattle.adm_match.specs.Market.{Market}
use Rattle.adm_match.specs.Stability.{IsBest}
use Rattle.adm_round.specs.Ranks.{seats_of}
use Rattle.adm_register.specs.State.{State}
use Rattle.adm_register.specs.Wanted.{wanted_of, own_school}
use Rattle.adm_register.specs.WellFormed.{WellFormed}
use Rattle.adm_commands.specs.Commands.{KeptByTypes}
use Rattle.adm_commands.specs.Commands.Round.{takes_part, round_lots, round_market, sites, AreOutcomes}
use Rattle.adm_commands.specs.Imports.{Reaches}
use Rattle.adm_commands.specs.Problem.{lots_fault}
use Rattle.adm_commands.specs.Steps.{Accepts}
use Rattle.adm_fairness.specs.Anew.{remaining}
use Rattle.adm_fairness.specs.Lots.{KeepsOrder}

-- What may come between two rounds: an offer is accepted, or reminded of; an admission number is raised; and a child that does not stay
-- declines its place, lets its offer lapse, or leaves a list. Nothing else.
abbrev pub MayComeBetween : (ℕ → Bool) → Command → Type 0
MayComeBetween stays (RaisePan school pan) = ⊤
MayComeBetween stays (Accept number school) = ⊤
MayComeBetween stays (Remind number school day) = ⊤
MayComeBetween stays (Decline number school) = stays number ≡ false
MayComeBetween stays (Lapse number school day) = stays number ≡ false
MayComeBetween stays (LeaveList number school) = stays number ≡ false
MayComeBetween stays other = ⊥

-- A child has withdrawn: it has no place outside plans, and wants no school any more.
pub record HasWithdrawn (s : State) (child : ℕ) : Type 0 where
  pub place : own_school (get s.places child) ≡ None
  pub wanted : (application : Application) → get s.applications child ≡ Some application → wanted_of s application ≡ []

-- a first round: the register before it, its draw and day, and the numbers that were drawn
pub record FirstRound : Type 0 where
  pub register : State
  pub draw : ℕ
  pub day : ℕ
  pub numbers : List ℕ

-- the lots of a first round
abbrev pub lots_of_first : FirstRound → List Lot
lots_of_first first = round_lots first.register first.numbers

-- the problem of a first round
abbrev pub market_of_first : FirstRound → Market
market_of_first first = round_market first.register first.numbers

-- one more round: the commands before it, who stays until then, and the round
pub record LaterRound : Type 0 where
  pub commands : List Command
  pub stays : ℕ → Bool
  pub draw : ℕ
  pub day : ℕ
  pub numbers : List ℕ

-- The commands are accepted, each of those that may come between rounds. By then each child that does not stay has withdrawn, and nobody
-- who withdrew earlier stays. Then the round is held, by lots of the order of the first.
pub record IsHeldAfter (first : FirstRound) (here : ℕ → Bool) (before : State) (round : LaterRound) (after : State) : Type 0 where
  pub typed : AllByRecursion KeptByTypes round.commands
  pub between : AllByRecursion (MayComeBetween round.stays) round.commands
  pub mid : State
  pub reached : Reaches before round.commands mid
  pub fewer : (child : ℕ) → round.stays child ≡ true → here child ≡ true
  pub withdrawn : (child : ℕ) → round.stays child ≡ false → HasWithdrawn mid child
  pub kept : KeptByTypes (Round round.draw round.day round.numbers)
  pub accepted : Accepts mid (Round round.draw round.day round.numbers) after
  pub same_order : KeepsOrder mid (lots_of_first first) (round_lots mid round.numbers)

-- these rounds are held one after another, and lead to the last register
abbrev pub AreHeldInTurn : FirstRound → (ℕ → Bool) → State → List LaterRound → State → Type 0
AreHeldInTurn first here before [] end = end ≡ before
AreHeldInTurn first here before (round ∷ later) end = (next : State) × IsHeldAfter first here before round next × AreHeldInTurn first round.stays next later end

-- A first round in which each application takes part is accepted on a well-formed register, and these rounds after it lead to the last register.
pub record RoundsLead (first : FirstRound) (later : List LaterRound) (end : State) : Type 0 where
  pub well : WellFormed first.register
  pub kept : KeptByTypes (Round first.draw first.day first.numbers)
  pub new : State
  pub accepted : Accepts first.register (Round first.draw first.day first.numbers) new
  pub all : (application : Application) → get first.register.applications application.child ≡ Some application → takes_part first.register application ≡ true
  pub held : AreHeldInTurn first (λ child. true) new later end

-- who stays until the last of these rounds, of those who are here
abbrev pub stays_last : (ℕ → Bool) → List LaterRound → ℕ → Bool
stays_last here [] = here
stays_last here (round ∷ later) = stays_last round.stays later

-- who stays until the last of these rounds, of all
abbrev pub stays_to_end : List LaterRound → ℕ → Bool
stays_to_end later = stays_last (λ child. true) later

-- Rounds by lots of one order, with withdrawals and raised numbers between them, give what one round anew would give: what each child that
-- stays has in the end is the best allocation of the problem of the first round without the children who withdrew, with the quotas of
-- the end.
abbrev pub LaterRoundsAnew : Type 0
LaterRoundsAnew =
    (first : FirstRound) (later : List LaterRound) (end : State)
    → RoundsLead first later end
    → IsBest (remaining (stays_to_end later) (map seats_of (sites end)) (market_of_first first)) (λ child. own_school (get end.places child))

-- The register before the first round as it would be without the applications of the children who do not stay, and with the schools of
-- the end.
abbrev pub begun_anew : (ℕ → Bool) → State → State → State
begun_anew stays old end = record old { applications = retain_keys old.applications stays; schools = end.schools }

-- So one round in that register, by lots of the order of the first, gives each child what it has in the end.
abbrev pub OneRoundAnew : Type 0
OneRoundAnew =
    (first : FirstRound) (later : List LaterRound) (end whole : State) (drawn : List ℕ) (outcomes : List Outcome)
    → RoundsLead first later end
    → whole ≡ begun_anew (stays_to_end later) first.register end → WellFormed whole
    → lots_fault whole drawn ≡ None → AreOutcomes whole drawn outcomes
    → KeepsOrder whole (lots_of_first first) (round_lots whole drawn)
    → All (λ outcome. outcome.school ≡ own_school (get end.places outcome.child)) outcomes
