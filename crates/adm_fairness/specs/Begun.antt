-- What commands may do to children since a season began, when the register had no rows.
use Rattle.std.specs.Prelude.{ℕ, List}
use Rattle.std.specs.List.{AllByRecursion}
use Rattle.adm_types.specs.Seasons.{SeasonFacts, IsSeason}
use Rattle.adm_types.specs.declared.commands.Command.{Command}
use Rattle.adm_match.specs.Market.{Code}
use Rattle.adm_register.specs.State.{State, only_season}
use Rattle.adm_commands.specs.Commands.{KeptByTypes}
use Rattle.adm_commands.specs.Imports.{Reaches}
use Rattle.adm_fairness.specs.Season.{Envies, HasCause}

-- Each envy since the season began has a cause: one of the commands accepted since then began it, and may cause it.
abbrev pub EveryEnvyHasCause : Type 0
EveryEnvyHasCause =
    (season : SeasonFacts) (new : State) (commands : List Command) (child other : ℕ) (code : Code)
    → IsSeason season → AllByRecursion KeptByTypes commands → Reaches (only_season season) commands new
    → Envies new child other code → HasCause (only_season season) commands child other code
