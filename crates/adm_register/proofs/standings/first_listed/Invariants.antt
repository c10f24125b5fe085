use Rattle.std.proofs.Common.{◌≡◌, ◌<◌, ℕ, false, get_or}
use Rattle.adm_waiting.specs.declared.tallies.Tally.{Tally}
use Rattle.adm_register.specs.Tallies.{lists_tallied}
use Rattle.adm_register.proofs.standings.first_listed.Given as goal

-- no school before the index is in the list
abbrev pub invariant-loop-index : goal.invariant-loop-index
invariant-loop-index l = (k : ℕ) (d : Tally) → k < l.index → lists_tallied l.list (get_or l.tallies k d) ≡ false
