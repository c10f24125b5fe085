-- The commands: the rules of each.
pub mod Accept
pub mod AddChild
pub mod AddSchool
pub mod Amend
pub mod Apply
pub mod Decline
pub mod Fill
pub mod Import
pub mod Lapse
pub mod LeaveList
pub mod NamePlan
pub mod RaisePan
pub mod Remind
pub mod Round
use Rattle.std.specs.Prelude.{Option}
use Rattle.adm_types.specs.declared.commands.Command.{Command}
use Rattle.adm_types.specs.declared.commands.Command.TheVariants as command
use Rattle.adm_commands.specs.declared.command_result.RowRefusal.{RowRefusal}
use Rattle.adm_types.specs.declared.commands.Reply.{Reply}
use Rattle.adm_register.specs.declared.difference.Difference.{Difference}
use Rattle.adm_register.specs.State.{State}
use Rattle.adm_commands.specs.Rules.{Rules}
use Rattle.adm_commands.specs.Commands.Accept as accept
use Rattle.adm_commands.specs.Commands.AddChild as add_child
use Rattle.adm_commands.specs.Commands.AddSchool as add_school
use Rattle.adm_commands.specs.Commands.Amend as amend
use Rattle.adm_commands.specs.Commands.Apply as apply
use Rattle.adm_commands.specs.Commands.Decline as decline
use Rattle.adm_commands.specs.Commands.Fill as fill
use Rattle.adm_commands.specs.Commands.Import as import
use Rattle.adm_commands.specs.Commands.Lapse as lapse
use Rattle.adm_commands.specs.Commands.LeaveList as leave_list
use Rattle.adm_commands.specs.Commands.NamePlan as name_plan
use Rattle.adm_commands.specs.Commands.RaisePan as raise_pan
use Rattle.adm_commands.specs.Commands.Remind as remind
use Rattle.adm_commands.specs.Commands.Round as round

-- the rules of each command
abbrev pub rules_of : Command → Rules
rules_of (command.AddSchool school) = add_school.rules school
rules_of (command.RaisePan school pan) = raise_pan.rules school pan
rules_of (command.AddChild child) = add_child.rules child
rules_of (command.Amend child) = amend.rules child
rules_of (command.NamePlan child school) = name_plan.rules child school
rules_of (command.Apply application) = apply.rules application
rules_of (command.Round draw day lots) = round.rules draw day lots
rules_of (command.Accept child school) = accept.rules child school
rules_of (command.Decline child school) = decline.rules child school
rules_of (command.Remind child school day) = remind.rules child school day
rules_of (command.Lapse child school day) = lapse.rules child school day
rules_of (command.LeaveList child school) = leave_list.rules child school
rules_of (command.Fill draw school day lots) = fill.rules draw school day lots
rules_of (command.Import rows) = import.rules rows

-- what the types of a command's values keep
abbrev pub KeptByTypes : Command → Type 0
KeptByTypes asked = (rules_of asked).kept

-- why a command is refused: by the first of its tests that fails, and for an import at the first row that is refused
abbrev pub refused : State → Command → Option RowRefusal
refused old asked = (rules_of asked).refused old

-- what an accepted command changes, and what it answers
abbrev pub MakesChange : State → Command → Difference → Reply → Type 0
MakesChange old asked = (rules_of asked).changes old
