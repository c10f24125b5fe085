use Rattle.std.proofs.Common.{◌≡◌, length}
use Rattle.adm_register.specs.Draws.{no_draws, are_in_order, IsWithin}
use Rattle.adm_register.proofs.draws_so_far.are_in_order.Given as goal

-- those that remain decide for all
abbrev pub invariant-loop-draw : goal.invariant-loop-draw
invariant-loop-draw l = IsWithin l.before × (are_in_order l.season l.before l.rest ≡ are_in_order l.season no_draws l.draws)

abbrev pub decreases-loop-draw : goal.decreases-loop-draw
decreases-loop-draw l = length l.rest
