use Rattle.std.proofs.Common.{◌≡◌, ◌++◌}
use Rattle.std.specs.Prelude.{filter}
use Rattle.std.specs.Map.{values_of}
use Rattle.adm_register.specs.Waits.{lists_some}
use Rattle.adm_register.proofs.waits.add_listing.Given as goal

-- those so far, and then those of what remains, are those that were there and those of the applications
abbrev pub invariant-loop-application : goal.invariant-loop-application
invariant-loop-application l = l.found.items ++ filter (lists_some l.schools) l.application-iterator ≡ l.fn.found.items ++ filter (lists_some l.schools) (values_of l.applications.entries)
