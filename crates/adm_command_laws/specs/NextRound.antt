-- The next round on a register: lots that pass their tests pose it, and no other list gives a child a better school (this profile).
use Rattle.std.specs.Prelude.{◌≡◌, ℕ, List, Option, None}
use Rattle.adm_match.specs.Market.{Code}
use Rattle.adm_match.specs.Relisting.{IsWhatIf, IsNoGain}
use Rattle.adm_round.specs.Round.{IsPosed}
use Rattle.adm_register.specs.State.{State}
use Rattle.adm_register.specs.WellFormed.{WellFormed}
use Rattle.adm_commands.specs.Problem.{lots_fault}
use Rattle.adm_commands.specs.Commands.Round.{sites, round_applicants, round_lots, round_market}

-- On each well-formed register lots that pass both tests pose a round, and so a well-formed problem.
abbrev pub RoundIsPosed : Type 0
RoundIsPosed = (s : State) (numbers : List ℕ) → WellFormed s → lots_fault s numbers ≡ None → IsPosed (sites s) (round_applicants s) (round_lots s numbers)

-- By no other list does a child get a better school. Take any register, lots that pass both tests, any child, and any schools that it
-- lists in place of its own list; those that its own list has not are dropped. What the best allocation of the problem then gives the
-- child is never, on its own list, before what the best allocation gives it by that own list. To have none comes after every school.
abbrev pub NoBetterList : Type 0
NoBetterList =
    (s : State) (numbers : List ℕ) (child : ℕ) (schools : List Code) (school : Option Code)
    → WellFormed s → lots_fault s numbers ≡ None → IsWhatIf (round_market s numbers) child schools school
    → IsNoGain (round_market s numbers) child school
