-- What a run promises over a crash: the register after the acknowledged commands, or also the one after the command in flight.
use Rattle.std.specs.Prelude.{◌≡◌, ◌⊎◌, ℕ, List, [], ◌∷◌, Option, Some, None, is_some, Result, Ok, Err}
use Rattle.sqlite.specs.State.{State as Disk}
use Rattle.adm_types.specs.declared.commands.Command.{Command}
use Rattle.adm_wire.specs.declared.fault.WireFault.{WireFault}
use Rattle.adm_wire.specs.Commands.{command_of}
use Rattle.adm_register.specs.State.{State as Register}
use Rattle.adm_commands.specs.Steps.{Accepts}
use Rattle.adm_commands.specs.Imports.{Reaches}
use Rattle.adm_rows.specs.Represents.{LeavesOnly}
use Rattle.adm_desk.specs.declared.answer.Answer.{Answer}
use Rattle.adm_desk.specs.declared.answer.Answer.TheVariants.{Done, Failed}
use Rattle.adm_desk.specs.declared.answer.LineAnswer.{LineAnswer}
use Rattle.adm_desk.specs.declared.answer.LineAnswer.TheVariants.{Handled, Faulty, Queried}
use Rattle.adm_desk.specs.Lines.{AnswersLines}
use Rattle.adm_desk.specs.DeskState.{DeskState, InFlight}

-- ---- commands with their answers

-- the acknowledged commands: those that were answered Done, in their order
abbrev pub acknowledged : List (Command × Answer) → List Command
acknowledged [] = []
acknowledged ((command, Done reply) ∷ more) = command ∷ acknowledged more
acknowledged ((command, other) ∷ more) = acknowledged more

-- the command in flight: the first that was answered Failed
abbrev pub in_flight : List (Command × Answer) → Option Command
in_flight [] = None
in_flight ((command, Failed) ∷ more) = Some command
in_flight ((command, other) ∷ more) = in_flight more

-- these commands and answers, after the command of a line and its answer, if the line is a command
abbrev pub with_command : Result Command WireFault → Answer → List (Command × Answer) → List (Command × Answer)
with_command (Ok command) answer more = (command, answer) ∷ more
with_command (Err fault) answer more = more

-- the commands in lines, with their answers
abbrev pub handled : List (List ℕ) → List LineAnswer → List (Command × Answer)
handled [] answers = []
handled (line ∷ lines) [] = []
handled (line ∷ lines) (Handled answer ∷ answers) = with_command (command_of line) answer (handled lines answers)
handled (line ∷ lines) (Faulty fault ∷ answers) = handled lines answers
handled (line ∷ lines) (Queried what_if_answer ∷ answers) = handled lines answers

-- ---- what a crash leaves, and what the next start finds

-- All that a crash may leave represents the register. With a command in flight, which was accepted, each thing represents it or one that the command leaves.
abbrev pub LeavesAcknowledged : Register → Option Command → Disk → Type 0
LeavesAcknowledged register None disk = LeavesOnly register disk
LeavesAcknowledged register (Some command) disk = InFlight register command disk

-- the register, or with a command in flight that one, or one that the command leaves where it is accepted
abbrev pub FindsAgain : Register → Option Command → Register → Type 0
FindsAgain register None found = found ≡ register
FindsAgain register (Some command) found = (found ≡ register) ⊎ Accepts register command found

-- ---- by the commands and their answers

-- The desk has a register after the acknowledged commands, in their order, each of which was accepted. It has failed just where a command is
-- in flight. All that a crash may leave represents that register, or also one that the command in flight leaves.
pub record KeepsAcknowledged {C : Type 0} (disk : C → Disk) (old new : DeskState C) (answered : List (Command × Answer)) : Type 0 where
  pub run : Reaches old.register (acknowledged answered) new.register
  pub failed : new.failed ≡ is_some (in_flight answered)
  pub leaves : LeavesAcknowledged new.register (in_flight answered) (disk new.conn)

-- whatever lines were answered so: what their answers acknowledge is kept
abbrev pub KeepsLines : {C : Type 0} → (C → Disk) → (DeskState C → List ℕ → LineAnswer → DeskState C → Type 0) → DeskState C → DeskState C → Type 0
KeepsLines disk runs old new = (lines : List (List ℕ)) (answers : List LineAnswer) → AnswersLines runs old lines answers new → KeepsAcknowledged disk old new (handled lines answers)
