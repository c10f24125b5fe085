-- What a round may not do, said of the register before it and the one after it.
-- School Admissions Code 2021, section 1: places are given by the oversubscription criteria; Gale and Shapley 1962: no pair blocks.
use Rattle.std.specs.Prelude.{◌≡◌, ◌⊎◌, ℕ, Bool, true, List, Option, Some, option_map, option_and_then}
use Rattle.std.specs.FinMap.{get}
use Rattle.adm_types.specs.declared.rows.Application.{Application}
use Rattle.adm_types.specs.declared.draws.Lot.{Lot}
use Rattle.adm_types.specs.declared.commands.Command.TheVariants.{Round}
use Rattle.adm_types.specs.Limits.{is_listed}
use Rattle.adm_rank.specs.declared.keys.RankKey.{RankKey}
use Rattle.adm_rank.specs.Ranking.{key_of}
use Rattle.adm_match.specs.Market.{Code, both_precede}
use Rattle.adm_round.specs.Ranks.{lot_at}
use Rattle.adm_register.specs.State.{State}
use Rattle.adm_register.specs.Rows.{vacancies}
use Rattle.adm_register.specs.Wanted.{wanted_of}
use Rattle.adm_register.specs.WellFormed.{WellFormed, is_unplanned_at}
use Rattle.adm_commands.specs.Commands.Round.{takes_part, round_lots}
use Rattle.adm_commands.specs.Steps.{Accepts}

-- the key of a child at a school by these lots, where both are in the register
abbrev pub key_in : State → List Lot → Code → ℕ → Option RankKey
key_in s lots code child =
    option_and_then (λ school. option_map (λ row. key_of school row (lot_at lots code child)) (get s.children child)) (get s.schools code)

-- whether the one child ranks before the other at the school: by class, then by distance, then by these lots
abbrev pub ranks_before_in : State → List Lot → Code → ℕ → ℕ → Bool
ranks_before_in s lots code one other = both_precede (key_in s lots code one) (key_in s lots code other)

-- whether the child has a place at the school that is not that of a plan
abbrev pub has_place_at : State → Code → ℕ → Bool
has_place_at s code child = is_unplanned_at (get s.places child) code

-- The school has no vacancy. Each child that has a place there outside plans had it before, or ranks before this child by the lots of
-- the round.
pub record IsFairlyFull (old new : State) (lots : List Lot) (code : Code) (child : ℕ) : Type 0 where
  pub full : vacancies new code ≡ Some 0
  pub others : (other : ℕ) → has_place_at new code other ≡ true → (has_place_at old code other ≡ true) ⊎ (ranks_before_in old lots code other child ≡ true)

-- A round is fair to each child that took part: a school of its list above the place that it has afterwards, or any where it has none,
-- is full, of children who held a place there before or rank before it.
abbrev pub RoundIsFair : Type 0
RoundIsFair =
    (old new : State) (draw day : ℕ) (numbers : List ℕ) (application : Application) (code : Code)
    → WellFormed old → Accepts old (Round draw day numbers) new
    → get old.applications application.child ≡ Some application → takes_part old application ≡ true
    → is_listed (wanted_of new application) code ≡ true
    → IsFairlyFull old new (round_lots old numbers) code application.child
