use Rattle.std.proofs.Common.{◌≡◌, take}
use Rattle.adm_match.specs.Claims.{all_claims}
use Rattle.adm_match.proofs.claims.all_claims.Given as goal

abbrev pub invariant-loop-index : goal.invariant-loop-index
invariant-loop-index l = l.claims.items ≡ all_claims (take l.index l.entrants)
