use Rattle.std.proofs.Common.{◌≡◌, take}
use Rattle.std.specs.List.{filter_map}
use Rattle.adm_register.specs.Tallies.{tally_at}
use Rattle.adm_register.proofs.tables.Tables.tallies_at.Given as goal

-- those so far are those at as many schools
abbrev pub invariant-loop-index : goal.invariant-loop-index
invariant-loop-index l = l.tallies.items ≡ filter_map (tally_at l.self l.child) (take l.index l.schools)
