use Rattle.std.proofs.Common.{◌≡◌, true, take, map}
use Rattle.std.specs.List.{zip}
use Rattle.adm_waiting.specs.Ranks.{ranked_child_of, is_before_others}
use Rattle.adm_waiting.proofs.vacancies.is_before_others.Given as goal

abbrev pub invariant-loop-index : goal.invariant-loop-index
invariant-loop-index l = is_before_others (take l.index (map (ranked_child_of l.school) (zip l.children l.lots))) l.one ≡ true
