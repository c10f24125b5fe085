use Rattle.std.proofs.Common.{take}
use Rattle.std.specs.List.{flat_map}
use Rattle.adm_http.specs.States.{Adds, after_comma}
use Rattle.adm_http.proofs.states.put_others.Given as goal

abbrev pub invariant-loop-wait : goal.invariant-loop-wait
invariant-loop-wait l = Adds l.initial.text (flat_map after_comma (take l.wait-index l.others)) l.text
