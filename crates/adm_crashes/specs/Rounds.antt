-- What the rounds of a run leave: each round's outcomes stay, and are the best for the register in which it began.
use Rattle.std.specs.Prelude.{◌≡◌, ◌⊎◌, ℕ, List, ◌∷◌, ◌++◌, Option, Some, None}
use Rattle.std.specs.FinMap.{get}
use Rattle.adm_types.specs.declared.commands.Command.{Command}
use Rattle.adm_types.specs.declared.commands.Command.TheVariants.{Round}
use Rattle.adm_register.specs.State.{State as Register}
use Rattle.adm_commands.specs.History.{DrawsInOrder}
use Rattle.adm_command_laws.specs.History.{RecordsRound}
use Rattle.adm_commands.specs.Steps.{Accepts}
use Rattle.adm_commands.specs.Imports.{Reaches}

-- each round among the commands is recorded as best for the register after the commands before it, in which it began
abbrev pub EachRoundRecorded : Register → List Command → Register → Type 0
EachRoundRecorded old commands new =
    (before later : List Command) (draw day : ℕ) (numbers : List ℕ) → commands ≡ before ++ Round draw day numbers ∷ later
    → (began : Register) × Reaches old before began × RecordsRound began draw day numbers new

-- so it is after accepted commands, whose draws are in order again
abbrev pub RoundsAreRecorded : Type 0
RoundsAreRecorded = (old new : Register) (commands : List Command) → DrawsInOrder old → Reaches old commands new → EachRoundRecorded old commands new × DrawsInOrder new

-- and after one command more
abbrev pub RoundsStay : Type 0
RoundsStay =
    (old mid new : Register) (commands : List Command) (command : Command) → DrawsInOrder mid → EachRoundRecorded old commands mid → Accepts mid command new
    → EachRoundRecorded old commands new

-- a round in flight is recorded likewise, or not at all: the register is the one in which it began, which has no draw of its number
abbrev pub RoundRecordedOrNot : Register → Option Command → Register → Type 0
RoundRecordedOrNot kept work found =
    (draw day : ℕ) (numbers : List ℕ) → work ≡ Some (Round draw day numbers)
    → ((found ≡ kept) × (get found.draws draw ≡ None)) ⊎ RecordsRound kept draw day numbers found
