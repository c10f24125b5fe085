use Rattle.std.proofs.Common.{◌≡◌, ◌<◌, ℕ, true, ◌==◌, length}
use Rattle.std.specs.Prelude.{All}
use Rattle.std.specs.List.{list_any}
use Rattle.adm_match.proofs.acceptance.queue_of.Given as goal

abbrev pub invariant-loop-index : goal.invariant-loop-index
invariant-loop-index l = ((k : ℕ) → k < l.index → list_any (λ q. q == k) l.queue.items ≡ true) × All (λ q. q < length l.entrants) l.queue.items
