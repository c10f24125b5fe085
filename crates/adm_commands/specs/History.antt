-- The draws of a register: their order, that they stay, and the draw of a round.
use Rattle.std.specs.Prelude.{◌≡◌, ℕ, ◌+◌, List, Some, None, IsTrue}
use Rattle.std.specs.FinMap.{get, values}
use Rattle.adm_types.specs.declared.draws.Draw.{Draw}
use Rattle.adm_types.specs.declared.draws.Outcome.{Outcome}
use Rattle.adm_register.specs.State.{State}
use Rattle.adm_register.specs.Draws.{no_draws, are_in_order, draws_so_far}
use Rattle.adm_register.specs.WellFormed.{AllRows}
use Rattle.adm_commands.specs.Commands.Round.{round_lots}

-- each draw is at its own number, and is the next after those before it, as in every register
pub record DrawsInOrder (s : State) : Type 0 where
  pub own : AllRows (λ number (draw : Draw). draw.number ≡ number) s.draws
  pub in_order : IsTrue (are_in_order s.season no_draws (values s.draws))

-- each draw of the old register is in the new one as it was
abbrev pub DrawsStay : State → State → Type 0
DrawsStay old new = (number : ℕ) (draw : Draw) → get old.draws number ≡ Some draw → get new.draws number ≡ Some draw

-- the draw of a round that began on this register, with these outcomes
abbrev pub recorded_draw : State → ℕ → ℕ → List ℕ → List Outcome → Draw
recorded_draw old draw day numbers outcomes =
    record { number = draw; round = (draws_so_far old).rounds + 1; school = None; day = day; outcomes = outcomes; lots = round_lots old numbers }
