use Rattle.std.proofs.Common.{map, take}
use Rattle.adm_letters.specs.Lines.{AddsLines}
use Rattle.adm_letters.specs.Letters.{wait_line}
use Rattle.adm_letters.proofs.letters.put_each_wait.Given as goal

abbrev pub invariant-loop-wait : goal.invariant-loop-wait
invariant-loop-wait l = AddsLines l.initial.text (map (wait_line l.register) (take l.wait-index l.waits)) l.text
