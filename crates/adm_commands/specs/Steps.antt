-- What a command leaves and answers: one step of the register.
use Rattle.std.specs.Prelude.{◌≡◌, ⊤, Some, None, Result, Ok, Err}
use Rattle.adm_types.specs.declared.commands.Command.{Command}
use Rattle.adm_types.specs.declared.commands.Reply.{Reply}
use Rattle.adm_register.specs.declared.difference.Difference.{Difference}
use Rattle.adm_register.specs.State.{State}
use Rattle.adm_register.specs.Change.{after}
use Rattle.adm_commands.specs.Commands.{refused, MakesChange}
use Rattle.adm_commands.specs.declared.command_result.RowRefusal.{RowRefusal}
use Rattle.adm_commands.specs.declared.not_done.NotDone.{NotDone}
use Rattle.adm_commands.specs.declared.proposals.Proposal.{Proposal}
use Rattle.adm_commands.specs.declared.not_done.NotDone.TheVariants.{Refused, Memory}

-- what an accepted command answers, and leaves
abbrev pub Effect : State → Command → Reply → State → Type 0
Effect old command reply new = (change : Difference) × MakesChange old command change reply × (new ≡ after old change)

-- from old, the command is answered so, and leaves new: where no test fails by its effect, and else by the refusal of the first that fails
abbrev pub Step : State → Command → Result Reply RowRefusal → State → Type 0
Step old command (Ok reply) new = (refused old command ≡ None) × Effect old command reply new
Step old command (Err refusal) new = (refused old command ≡ Some refusal) × (new ≡ old)

-- the command is accepted, and leaves new
abbrev pub Accepts : State → Command → State → Type 0
Accepts old command new = (reply : Reply) × Step old command (Ok reply) new

-- a new state and its reply by an accepted step, the refusal of a refused one, or out of memory
abbrev pub Decides : State → Command → Result (State × Reply) NotDone → Type 0
Decides old command (Ok done) = Step old command (Ok done.1) done.0
Decides old command (Err (Refused refusal row)) = Step old command (Err (record { refusal = refusal; row = row })) old
Decides old command (Err Memory) = ⊤

-- the same of a proposal, whose change is omitted
abbrev pub decision : Result Proposal NotDone → Result (State × Reply) NotDone
decision (Ok proposal) = Ok (proposal.register, proposal.reply)
decision (Err why) = Err why
