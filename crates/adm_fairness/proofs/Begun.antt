-- Each envy since the season began has a cause, as nobody waited then.
use Rattle.std.proofs.Common.{◌∙◌, sym, ℕ, inl, inr}
use Rattle.std.specs.Ordering.{nat_cmp}
use Rattle.std.specs.FinMap.{get-empty}
use Rattle.std.proofs.lemmas.Option.{none-some}
use Rattle.adm_types.specs.Seasons.{SeasonFacts}
use Rattle.adm_match.specs.Market.{Code}
use Rattle.adm_round.specs.Outcomes.{AllotmentFits}
use Rattle.adm_register.specs.State.{only_season}
use Rattle.adm_register.proofs.OnlySeason.{only_season-WellFormed}
use Rattle.adm_fairness.specs.Begun.{EveryEnvyHasCause}
use Rattle.adm_fairness.specs.Season.{Envies}
use Rattle.adm_fairness.proofs.Envy.{envy_has_cause_law}
use Rattle.adm_fairness.proofs.Waiters.{waits_by}

-- nobody waits in a season without rows, so nobody envies
none_envies : (season : SeasonFacts) (child other : ℕ) (code : Code) → Envies (only_season season) child other code → ⊥
none_envies season child other code e =
    let it = waits_by (only_season season) child code e.waits in
    none-some it.application (sym (get-empty nat_cmp child) ∙ it.applied)

pub every_envy_has_cause_law : AllotmentFits → EveryEnvyHasCause
every_envy_has_cause_law law season new commands child other code is kept reaches e =
    elim (envy_has_cause_law law (only_season season) new commands child other code (only_season-WellFormed season is) kept reaches e) [
      | inl before ↦ absurd (none_envies season child other code before)
      | inr cause ↦ cause
    ]
