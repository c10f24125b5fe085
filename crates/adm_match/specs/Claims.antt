-- The keys by which the entrants that are no tenants compete for the schools.
use Rattle.std.specs.Prelude.{not, List, map, filter}
use Rattle.std.specs.List.{flat_map}
use Rattle.adm_match.specs.declared.problem.Wish.{Wish}
use Rattle.adm_match.specs.declared.claims.Claim.{Claim}
use Rattle.adm_match.specs.Market.{Candidate, is_tenant}

-- the school and the key of a wish
abbrev pub claim_of : Wish → Claim
claim_of wish = record { school = wish.school; key = wish.key }

-- those of some wishes of the entrant, without the school of which it is a tenant
abbrev pub asked : Candidate → List Wish → List Claim
asked entrant list = map claim_of (filter (λ wish. not (is_tenant entrant wish.school)) list)

-- those of its list
abbrev pub claims_of : Candidate → List Claim
claims_of entrant = asked entrant entrant.list

-- those of all entrants
abbrev pub all_claims : List Candidate → List Claim
all_claims entrants = flat_map claims_of entrants
