-- Why a child has a place: a plan that was named, or a draw.
use Rattle.std.specs.Prelude.{◌≡◌, ◌⊎◌, ⊤, ℕ, true, List, Contains, Some}
use Rattle.std.specs.FinMap.{get}
use Rattle.adm_types.specs.Seasons.{SeasonFacts}
use Rattle.adm_types.specs.declared.commands.Command.{Command}
use Rattle.adm_types.specs.declared.commands.Command.TheVariants.{NamePlan}
use Rattle.adm_types.specs.declared.draws.Draw.{Draw}
use Rattle.adm_types.specs.declared.rows.Place.{Place}
use Rattle.adm_types.specs.declared.rows.PlaceRow.{PlaceRow}
use Rattle.adm_types.specs.declared.rows.PlaceState.{PlaceState}
use Rattle.adm_types.specs.declared.rows.PlaceState.TheVariants.{Offered, Accepted, Plan}
use Rattle.adm_register.specs.State.{State, only_season}
use Rattle.adm_commands.specs.Imports.{Reaches}

-- an offer has the day of the draw that made it; a place that was accepted has no day; and no draw gives the place of a plan
abbrev pub IsFromDraw : PlaceState → ℕ → Type 0
IsFromDraw (Offered day reminded) drawn = day ≡ drawn
IsFromDraw Accepted drawn = ⊤
IsFromDraw Plan drawn = ⊥

-- the place is that of a plan, and one of the commands named its school in the plan of the child
pub record IsNamed (done : List Command) (child : ℕ) (place : Place) : Type 0 where
  pub plan : place.state ≡ Plan
  pub named : Contains done (NamePlan child place.school)

-- the register holds a draw that gave the child its school by a fresh outcome
pub record IsDrawn (s : State) (child : ℕ) (place : Place) : Type 0 where
  pub number : ℕ
  pub draw : Draw
  pub held : get s.draws number ≡ Some draw
  pub fresh : Contains draw.outcomes (record { child = child; school = Some place.school; fresh = true })
  pub from : IsFromDraw place.state draw.day

-- a child has its place by a plan that one of the commands named, or by a draw that the register holds
abbrev pub HasCause : List Command → State → ℕ → Place → Type 0
HasCause done s child place = IsNamed done child place ⊎ IsDrawn s child place

-- So it has each place, after any commands that were accepted since the season began: none comes in another way.
abbrev pub PlacesHaveCause : Type 0
PlacesHaveCause =
    (season : SeasonFacts) (done : List Command) (found : State) → Reaches (only_season season) done found
    → (child : ℕ) (row : PlaceRow) → get found.places child ≡ Some row → HasCause done found child row.place
