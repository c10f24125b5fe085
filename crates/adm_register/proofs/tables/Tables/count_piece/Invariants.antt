use Rattle.std.proofs.Common.{◌≡◌, true}
use Rattle.std.specs.List.{list_all}
use Rattle.std.specs.Map.{values_of}
use Rattle.adm_register.specs.Tallies.{has_school_in_range, with_applications}
use Rattle.adm_register.proofs.tables.Tables.count_piece.Given as goal

-- those so far, and then those of what remains, are those of all applications of the piece
abbrev pub invariant-loop-application : goal.invariant-loop-application
invariant-loop-application l = record {
  counted : with_applications l.self l.tallies l.application-iterator ≡ with_applications l.self l.fn.tallies (values_of l.applications.entries);
  in_range : list_all has_school_in_range l.tallies ≡ true;
}
