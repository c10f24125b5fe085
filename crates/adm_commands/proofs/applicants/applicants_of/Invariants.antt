use Rattle.std.proofs.Common.{◌≡◌, take}
use Rattle.std.specs.List.{filter_map}
use Rattle.adm_commands.specs.Commands.Round.{applicant_of}
use Rattle.adm_commands.proofs.applicants.applicants_of.Given as goal

-- those so far are those of as many applications
abbrev pub invariant-loop-index : goal.invariant-loop-index
invariant-loop-index l = l.found.items ≡ filter_map (applicant_of l.old) (take l.index l.applications)
