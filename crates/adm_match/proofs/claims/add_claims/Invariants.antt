use Rattle.std.proofs.Common.{◌≡◌, ◌++◌, take}
use Rattle.adm_match.specs.Claims.{asked}
use Rattle.adm_match.proofs.claims.add_claims.Given as goal

abbrev pub invariant-loop-index : goal.invariant-loop-index
invariant-loop-index l = l.claims.items ≡ l.initial.claims.items ++ asked l.entrant (take l.index l.list)
