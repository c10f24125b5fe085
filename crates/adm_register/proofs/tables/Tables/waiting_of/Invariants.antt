use Rattle.std.proofs.Common.{◌≡◌, take}
use Rattle.std.specs.List.{filter_map}
use Rattle.adm_register.specs.Waits.{waiting_child}
use Rattle.adm_register.proofs.tables.Tables.waiting_of.Given as goal

-- those so far are those of as many applications
abbrev pub invariant-loop-index : goal.invariant-loop-index
invariant-loop-index l = l.found.items ≡ filter_map (waiting_child l.self l.school) (take l.index l.applications)
