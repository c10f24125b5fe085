use Rattle.std.proofs.Common.{map, take}
use Rattle.adm_letters.specs.Lines.{AddsLines}
use Rattle.adm_letters.specs.Lists.{list_row}
use Rattle.adm_letters.proofs.lists.put_rows.Given as goal

abbrev pub invariant-loop-entry : goal.invariant-loop-entry
invariant-loop-entry l = AddsLines l.initial.text (map list_row (take l.entry-index l.waiting)) l.text
