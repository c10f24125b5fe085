use Rattle.std.proofs.Common.{◌≡◌, take, map}
use Rattle.adm_register.specs.State.{application_of}
use Rattle.adm_commands.proofs.commands.import.applications_of.Given as goal

-- those so far are of the first rows
abbrev pub invariant-loop-row : goal.invariant-loop-row
invariant-loop-row l = l.applications.items ≡ map application_of (take l.row-index l.rows)
