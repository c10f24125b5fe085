-- What commands may do to children over a season: whom they make envied, whose place they end, and that a plan is kept.
-- School Admissions Code 2021, sections 1 and 2; envy as in Abdulkadiroglu and Sonmez 2003 (justified envy).
use Rattle.std.specs.Prelude.{◌≡◌, ◌⊎◌, ℕ, true, false, nat_eq, List, ◌∷◌, ◌++◌, Some, None}
use Rattle.std.specs.List.{list_any, AllByRecursion}
use Rattle.std.specs.FinMap.{get, contains_key}
use Rattle.adm_types.specs.Limits.{is_listed}
use Rattle.adm_types.specs.declared.rows.Application.{Application}
use Rattle.adm_types.specs.declared.rows.PlaceRow.{PlaceRow}
use Rattle.adm_types.specs.declared.rows.PlaceState.TheVariants.{Plan}
use Rattle.adm_types.specs.declared.commands.Command.{Command}
use Rattle.adm_types.specs.declared.commands.Command.TheVariants.{AddSchool, RaisePan, AddChild, Amend, NamePlan, Apply, Round, Accept, Decline, Remind, Lapse, LeaveList, Fill, Import}
use Rattle.adm_match.specs.Market.{Code}
use Rattle.adm_register.specs.State.{State, is_plan}
use Rattle.adm_register.specs.Plans.{has_plan}
use Rattle.adm_register.specs.Wanted.{wanted}
use Rattle.adm_register.specs.Waits.{is_waiting}
use Rattle.adm_register.specs.WellFormed.{WellFormed}
use Rattle.adm_commands.specs.Commands.{KeptByTypes, refused}
use Rattle.adm_commands.specs.Commands.Round.{takes_part}
use Rattle.adm_commands.specs.Imports.{Reaches}
use Rattle.adm_commands.specs.Offered.{offer_at, is_after_reminder}
use Rattle.adm_commands.specs.Steps.{Accepts}
use Rattle.adm_fairness.specs.Rounds.{has_place_at}
use Rattle.adm_fairness.specs.Code.{is_ahead_at}

-- ---- envy

-- The child waits at a school at which the other has a place outside plans, though the child has a smaller class there, or the same
-- class and a smaller distance.
pub record Envies (s : State) (child other : ℕ) (code : Code) : Type 0 where
  pub waits : is_waiting s child code ≡ true
  pub held : has_place_at s code other ≡ true
  pub ahead : is_ahead_at s code child other ≡ true

-- the child has an application that takes no part in the round: in the first round, one of a later day than the closing day
abbrev pub TakesNoPart : State → ℕ → Type 0
TakesNoPart s child = (application : Application) × (get s.applications child ≡ Some application) × (takes_part s application ≡ false)

-- What may make a child envy another: that the child applies; that its data or those of the other are amended; that it declines a place,
-- or its offer lapses; and a first round for which it applied too late.
abbrev pub MayCauseEnvy : State → ℕ → ℕ → Command → Type 0
MayCauseEnvy s child other (AddSchool school) = ⊥
MayCauseEnvy s child other (RaisePan school pan) = ⊥
MayCauseEnvy s child other (AddChild row) = ⊥
MayCauseEnvy s child other (Amend row) = (row.no ≡ child) ⊎ (row.no ≡ other)
MayCauseEnvy s child other (NamePlan number school) = ⊥
MayCauseEnvy s child other (Apply application) = application.child ≡ child
MayCauseEnvy s child other (Round draw day lots) = TakesNoPart s child
MayCauseEnvy s child other (Accept number school) = ⊥
MayCauseEnvy s child other (Decline number school) = number ≡ child
MayCauseEnvy s child other (Remind number school day) = ⊥
MayCauseEnvy s child other (Lapse number school day) = number ≡ child
MayCauseEnvy s child other (LeaveList number school) = ⊥
MayCauseEnvy s child other (Fill draw school day lots) = ⊥
MayCauseEnvy s child other (Import rows) = list_any (λ row. nat_eq row.child.no child) rows ≡ true

-- No command makes envy but those: where a child envies another after a command, it did so before, or the command may cause it.
abbrev pub NoNewEnvy : Type 0
NoNewEnvy =
    (old new : State) (command : Command) (child other : ℕ) (code : Code)
    → WellFormed old → Accepts old command new
    → Envies new child other code → Envies old child other code ⊎ MayCauseEnvy old child other command

-- One of the commands may cause the envy, and the envy began with it: there was none on the register that those before it leave, and there is after it.
pub record HasCause (old : State) (commands : List Command) (child other : ℕ) (code : Code) : Type 0 where
  pub before : List Command
  pub command : Command
  pub later : List Command
  pub are : commands ≡ before ++ command ∷ later
  pub mid : State
  pub reached : Reaches old before mid
  pub next : State
  pub accepted : Accepts mid command next
  pub not_yet : Envies mid child other code → ⊥
  pub begins : Envies next child other code
  pub causes : MayCauseEnvy mid child other command

-- So it is over any accepted commands: where a child envies another after them, it did so before, or one of them began it and may cause it.
abbrev pub EnvyHasCause : Type 0
EnvyHasCause =
    (old new : State) (commands : List Command) (child other : ℕ) (code : Code)
    → WellFormed old → AllByRecursion KeptByTypes commands → Reaches old commands new
    → Envies new child other code → Envies old child other code ⊎ HasCause old commands child other code

-- ---- plans

-- the place of a child whose plan names the school
abbrev pub plan_at : ℕ → Code → PlaceRow
plan_at child code = record { child = child; place = record { school = code; state = Plan } }

-- A child whose plan names a school is admitted to it, however full the school is: where both are in the register and the child has no
-- plan, the command is not refused; once accepted, the child has the place; and no accepted commands end it.
pub record PlanIsKept : Type 0 where
  pub admits :
      (s : State) (child : ℕ) (code : Code)
      → contains_key s.children child ≡ true → contains_key s.schools code ≡ true → has_plan s.places child ≡ false
      → refused s (NamePlan child code) ≡ None
  pub admitted : (old new : State) (child : ℕ) (code : Code) → Accepts old (NamePlan child code) new → get new.places child ≡ Some (plan_at child code)
  pub stays :
      (old new : State) (commands : List Command) (child : ℕ) (row : PlaceRow)
      → WellFormed old → AllByRecursion KeptByTypes commands → Reaches old commands new
      → get old.places child ≡ Some row → is_plan row.place.state ≡ true → get new.places child ≡ Some row

-- ---- places that end

-- the child has a place outside plans at a school that it wanted before
abbrev pub MovesUp : State → State → ℕ → Type 0
MovesUp old new child = (better : Code) × (has_place_at new better child ≡ true) × (is_listed (wanted old child) better ≡ true)

-- What may end a place of a child at a school: that it declines it; that its offer lapses, at least 14 days after a reminder; a plan that
-- is named for it; and a round or a fill that gives it a school that it wants more.
abbrev pub MayEndPlace : State → State → ℕ → Code → Command → Type 0
MayEndPlace old new child code (AddSchool school) = ⊥
MayEndPlace old new child code (RaisePan school pan) = ⊥
MayEndPlace old new child code (AddChild row) = ⊥
MayEndPlace old new child code (Amend row) = ⊥
MayEndPlace old new child code (NamePlan number school) = number ≡ child
MayEndPlace old new child code (Apply application) = ⊥
MayEndPlace old new child code (Round draw day lots) = MovesUp old new child
MayEndPlace old new child code (Accept number school) = ⊥
MayEndPlace old new child code (Decline number school) = (number ≡ child) × (school ≡ code)
MayEndPlace old new child code (Remind number school day) = ⊥
MayEndPlace old new child code (Lapse number school day) = (number ≡ child) × (school ≡ code) × (is_after_reminder (offer_at (get old.places child) code) day ≡ true)
MayEndPlace old new child code (LeaveList number school) = ⊥
MayEndPlace old new child code (Fill draw school day lots) = MovesUp old new child
MayEndPlace old new child code (Import rows) = ⊥

-- A place outside plans ends by nothing else. (The Code: an offer may be withdrawn only after a further opportunity to respond. The 14
-- days are this profile's.)
abbrev pub PlaceEndsFairly : Type 0
PlaceEndsFairly =
    (old new : State) (command : Command) (child : ℕ) (code : Code)
    → WellFormed old → Accepts old command new
    → has_place_at old code child ≡ true → has_place_at new code child ≡ false
    → MayEndPlace old new child code command
