use Rattle.std.proofs.Common.{◌≡◌, true, length}
use Rattle.adm_types.specs.Seasons.{SeasonFacts}
use Rattle.adm_register.specs.Draws.{count_draws, are_in_order, IsWithin}
use Rattle.adm_register.proofs.draws_so_far.DrawsSoFar.with_draws.Given as goal

-- those that remain come after those before, and with them make all
abbrev pub invariant-loop-draw : goal.invariant-loop-draw
invariant-loop-draw l = IsWithin l.before × ((season : SeasonFacts) × (are_in_order season l.before l.rest ≡ true)) × (count_draws l.before l.rest ≡ count_draws l.self l.draws)

abbrev pub decreases-loop-draw : goal.decreases-loop-draw
decreases-loop-draw l = length l.rest
