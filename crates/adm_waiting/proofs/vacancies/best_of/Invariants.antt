use Rattle.std.proofs.Common.{◌≡◌, take, map}
use Rattle.std.specs.List.{zip}
use Rattle.adm_waiting.specs.Ranks.{ranked_child_of, best_of}
use Rattle.adm_waiting.proofs.vacancies.best_of.Given as goal

abbrev pub invariant-loop-index : goal.invariant-loop-index
invariant-loop-index l = l.best ≡ best_of (take l.index (map (ranked_child_of l.school) (zip l.children l.lots)))
