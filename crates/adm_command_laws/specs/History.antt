-- What rounds leave: the outcomes of each stay in the register, and are the best for the register in which it began.
use Rattle.std.specs.Prelude.{◌≡◌, ℕ, List, Some}
use Rattle.std.specs.FinMap.{get}
use Rattle.adm_types.specs.declared.commands.Command.{Command}
use Rattle.adm_types.specs.declared.commands.Command.TheVariants.{Round}
use Rattle.adm_types.specs.declared.draws.Outcome.{Outcome}
use Rattle.adm_register.specs.State.{State}
use Rattle.adm_commands.specs.Commands.Round.{AreOutcomes}
use Rattle.adm_commands.specs.History.{DrawsInOrder, DrawsStay, recorded_draw}
use Rattle.adm_commands.specs.Steps.{Accepts}

-- no accepted command changes a draw, or breaks their order
abbrev pub DrawsKept : Type 0
DrawsKept = (old new : State) (command : Command) → DrawsInOrder old → Accepts old command new → DrawsInOrder new × DrawsStay old new

-- the register holds the draw of that round, whose outcomes are those of the child-optimal stable allocation of the problem on the register in which it began
abbrev pub RecordsRound : State → ℕ → ℕ → List ℕ → State → Type 0
RecordsRound began draw day numbers s =
    (outcomes : List Outcome) × AreOutcomes began numbers outcomes × (get s.draws draw ≡ Some (recorded_draw began draw day numbers outcomes))

-- so does the register that an accepted round leaves
abbrev pub RoundIsRecorded : Type 0
RoundIsRecorded = (old new : State) (draw day : ℕ) (numbers : List ℕ) → Accepts old (Round draw day numbers) new → RecordsRound old draw day numbers new
