-- A register of the standard size has the limits of that size, and each register keeps its size.
use Rattle.std.specs.Prelude.{◌≡◌, ◌≤◌, IsTrue, []}
use Rattle.std.specs.List.{list_all}
use Rattle.std.specs.FinMap.{len}
use Rattle.adm_types.specs.Limits.{is_allowed}
use Rattle.adm_types.specs.declared.commands.Command.{Command}
use Rattle.adm_types.specs.declared.rows.Row.{Row as ImportRow}
use Rattle.adm_types.specs.declared.seasons.Size.TheVariants.{Standard}
use Rattle.adm_register.specs.State.{State}
use Rattle.adm_register.specs.WellFormed.{WellFormed, AllRows}
use Rattle.adm_register.specs.Draws.{draws_so_far}
use Rattle.adm_commands.specs.Steps.{Accepts}

-- at most 200 schools, 2,000 children, and 1,000,000 lots of all draws together; no school has the criterion `catchment`, and no child or imported row a catchment school
pub record IsSmall (s : State) : Type 0 where
  pub schools : len s.schools ≤ 200
  pub children : len s.children ≤ 2000
  pub lots : (draws_so_far s).lots ≤ 1000000
  pub criteria : AllRows (λ code school. IsTrue (list_all (is_allowed Standard) school.criteria)) s.schools
  pub catchments : AllRows (λ number child. child.catchments ≡ []) s.children
  pub imported : AllRows (λ number (row : ImportRow). row.child.catchments ≡ []) s.imported

-- a well-formed register of the standard size is as small
abbrev pub StandardIsSmall : Type 0
StandardIsSmall = (s : State) → WellFormed s → s.season.size ≡ Standard → IsSmall s

-- no accepted command changes the season, or the size in it
abbrev pub SeasonStays : Type 0
SeasonStays = (old new : State) (command : Command) → Accepts old command new → new.season ≡ old.season
