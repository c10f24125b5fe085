use Rattle.adm_match.proofs.RepeatedElements.{SeenAll}
use Rattle.adm_match.proofs.repeats.has_repeat.Given as goal

abbrev pub invariant-loop-index : goal.invariant-loop-index
invariant-loop-index g l = SeenAll g.K.Ord.cmp l.keys l.seen l.index
