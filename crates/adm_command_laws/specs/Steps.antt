-- What holds of the step of each command: it has one result, and following itself at once it changes nothing.
use Rattle.std.specs.Prelude.{◌≡◌, Result}
use Rattle.adm_types.specs.declared.commands.Command.{Command}
use Rattle.adm_types.specs.declared.commands.Reply.{Reply}
use Rattle.adm_register.specs.State.{State}
use Rattle.adm_register.specs.WellFormed.{WellFormed}
use Rattle.adm_commands.specs.declared.command_result.RowRefusal.{RowRefusal}
use Rattle.adm_commands.specs.Commands.{KeptByTypes}
use Rattle.adm_commands.specs.Steps.{Step, Accepts}

-- a command that follows itself at once leaves a register as it was
abbrev pub RepeatSafe : Type 0
RepeatSafe =
    (old mid new : State) (command : Command) (first second : Result Reply RowRefusal) → WellFormed old
    → Step old command first mid → Step mid command second new → new ≡ mid

-- a command has at most one result: one answer, which is its reply or its refusal, and one register that it leaves
abbrev pub OneStep : Type 0
OneStep =
    (old a b : State) (command : Command) (one other : Result Reply RowRefusal)
    → Step old command one a → Step old command other b → (one ≡ other) × (a ≡ b)

-- An accepted command leaves a well-formed register, where the one before is well-formed and the command's values are as their types keep them.
abbrev pub StepKeeps : Type 0
StepKeeps = (old new : State) (command : Command) → KeptByTypes command → WellFormed old → Accepts old command new → WellFormed new

-- From each well-formed register each command has a result: an answer, and a register that it leaves, which is well-formed where the
-- command's values are as their types keep them.
abbrev pub SomeStep : Type 0
SomeStep =
    (old : State) (command : Command) → WellFormed old
    → (answer : Result Reply RowRefusal) × (new : State) × Step old command answer new × (KeptByTypes command → WellFormed new)
