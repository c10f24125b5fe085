-- What each command shows of what it changes, case by case.
use Rattle.adm_types.specs.declared.commands.Command.{Command}
use Rattle.adm_types.specs.declared.commands.Command.TheVariants.{AddSchool, RaisePan, AddChild, Amend, NamePlan, Apply, Round, Accept, Decline, Remind, Lapse, LeaveList, Fill, Import}
use Rattle.adm_commands.proofs.Shows.{Shows}
use Rattle.adm_commands.proofs.ShowsRows.{add_school_shows, raise_pan_shows, add_child_shows, amend_shows, apply_shows}
use Rattle.adm_commands.proofs.ShowsPlaces.{name_plan_shows, accept_shows, decline_shows, lapse_shows, leave_list_shows, remind_shows}
use Rattle.adm_commands.proofs.ShowsDraws.{round_shows, fill_shows, import_shows}

pub shows : (command : Command) → Shows command
shows (AddSchool school) = add_school_shows school
shows (RaisePan school pan) = raise_pan_shows school pan
shows (AddChild child) = add_child_shows child
shows (Amend child) = amend_shows child
shows (NamePlan child school) = name_plan_shows child school
shows (Apply application) = apply_shows application
shows (Round draw day lots) = round_shows draw day lots
shows (Accept child school) = accept_shows child school
shows (Decline child school) = decline_shows child school
shows (Remind child school day) = remind_shows child school day
shows (Lapse child school day) = lapse_shows child school day
shows (LeaveList child school) = leave_list_shows child school
shows (Fill draw school day lots) = fill_shows draw school day lots
shows (Import rows) = import_shows rows
