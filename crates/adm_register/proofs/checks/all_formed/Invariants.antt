use Rattle.std.proofs.Common.{◌≡◌, length}
use Rattle.std.specs.List.{list_all}
use Rattle.adm_draws.specs.Draws.{is_draw}
use Rattle.adm_register.proofs.checks.all_formed.Given as goal

-- those that remain decide for all
abbrev pub invariant-loop-draw : goal.invariant-loop-draw
invariant-loop-draw l = list_all is_draw l.rest ≡ list_all is_draw l.draws

abbrev pub decreases-loop-draw : goal.decreases-loop-draw
decreases-loop-draw l = length l.rest
