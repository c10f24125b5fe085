use Rattle.std.proofs.Common.{map, take}
use Rattle.adm_letters.specs.Lines.{AddsLines}
use Rattle.adm_letters.specs.Pairs.{pair_text}
use Rattle.adm_letters.proofs.pairs.put_pairs.Given as goal

abbrev pub invariant-loop-pair : goal.invariant-loop-pair
invariant-loop-pair l = AddsLines l.initial.text (map pair_text (take l.pair-index l.pairs)) l.text
