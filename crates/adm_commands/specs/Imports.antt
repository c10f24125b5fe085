-- Registers that accepted commands lead to.
use Rattle.std.specs.Prelude.{◌≡◌, List, [], ◌∷◌}
use Rattle.adm_types.specs.declared.commands.Command.{Command}
use Rattle.adm_register.specs.State.{State}
use Rattle.adm_commands.specs.Steps.{Accepts}

-- the new register results from the old one by these commands, each accepted on the register after those before it
abbrev pub Reaches : State → List Command → State → Type 0
Reaches old [] new = new ≡ old
Reaches old (command ∷ commands) new = (mid : State) × Accepts old command mid × Reaches mid commands new
