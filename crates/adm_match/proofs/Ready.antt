-- A well-formed problem is ready to be allotted.
use Rattle.std.proofs.Common.{◌≡◌, ℕ, List, None, sym, subst}
use Rattle.adm_match.specs.declared.problem.Seats.{Seats}
use Rattle.adm_match.specs.Market.{Candidate, Market, market_of, first_fault}
use Rattle.adm_match.specs.Distinct.{Distinct, Seated}
use Rattle.adm_match.specs.Places.{IsPlaced}
use Rattle.adm_match.proofs.Posed.{posed}
use Rattle.adm_match.proofs.Distinct.{distinct}
use Rattle.adm_match.proofs.Relisted.{seated}

pub ready_distinct : (es es' : List Candidate) (ss ss' : List Seats) → first_fault (market_of es ss) ≡ None → es' ≡ es → ss' ≡ ss → Distinct (market_of es' ss')
ready_distinct es es' ss ss' ok e s = subst (λ (m : Market). Distinct m) (λ i. market_of (sym e i) (sym s i)) (distinct (market_of es ss) (posed (market_of es ss) ok))

pub ready_seated : (es es' : List Candidate) (ss ss' : List Seats) → first_fault (market_of es ss) ≡ None → es' ≡ es → ss' ≡ ss → Seated (market_of es' ss')
ready_seated es es' ss ss' ok e s = subst (λ (m : Market). Seated m) (λ i. market_of (sym e i) (sym s i)) (seated (market_of es ss) (posed (market_of es ss) ok))

pub still_placed : (es es' : List Candidate) (ss ss' : List Seats) (ps ps' : List (List ℕ)) → IsPlaced (market_of es ss) ps → es' ≡ es → ss' ≡ ss → ps' ≡ ps → IsPlaced (market_of es' ss') ps'
still_placed es es' ss ss' ps ps' h e s p =
    subst (λ (x : List (List ℕ)). IsPlaced (market_of es' ss') x) (sym p) (subst (λ (m : Market). IsPlaced m ps) (λ i. market_of (sym e i) (sym s i)) h)
