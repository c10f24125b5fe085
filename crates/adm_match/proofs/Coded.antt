-- What the tests of a problem by sets and lists of keys say of it.
use Rattle.std.proofs.Common.{◌≡◌, ℕ, ◌+◌, ◌<◌, List, [], ◌∷◌, ◌++◌, length, get_or, take, map, Bool, true, cond, not, sym, ap, ◌∙◌, add-one, bytes_eq}
use Rattle.std.specs.Prelude.{Result, Ok, Err, IfOk}
use Rattle.std.specs.List.{list_any}
use Rattle.std.specs.Ordering.{is_eq, nat_cmp}
use Rattle.std.specs.Cmp.Lexicographic.{slice_cmp}
use Rattle.std.specs.BTreeSet.{BTreeSet, contains, Updates}
use Rattle.std.proofs.Math.Seq.{take-suc}
use Rattle.std.proofs.lemmas.List.Folds.{list_any-append}
use Rattle.std.proofs.lemmas.Map.Text.{is_eq-slice_cmp}
use Rattle.adm_lists.proofs.Tests.{or_test}
use Rattle.adm_lists.proofs.Orders.{eq_number}
use Rattle.adm_match.specs.declared.problem.Wish.{Wish}
use Rattle.adm_match.specs.declared.problem.Seats.{Seats}
use Rattle.adm_match.specs.Market.{Code, Candidate, market_of, some_pair, same_code, same_school, same_child, names_unknown}
use Rattle.adm_match.proofs.RepeatedElements.{pair_map, pair_same}

pub answer_as : {E : Type 0} (r : Result Bool E) (a b : Bool) → a ≡ b → IfOk r (λ answer. answer ≡ a) → IfOk r (λ answer. answer ≡ b)
answer_as (Ok x) a b same h = h ∙ same
answer_as (Err e) a b same h = tt

pub codes_twice : (seats : List Seats) (codes : List Code) → codes ≡ map (λ seat. seat.code) seats → some_pair (λ a b. is_eq (slice_cmp nat_cmp a b)) codes ≡ some_pair same_code seats
codes_twice seats codes is =
    ap (some_pair (λ a b. is_eq (slice_cmp nat_cmp a b))) is
    ∙ (pair_map (λ a b. is_eq (slice_cmp nat_cmp a b)) (λ (seat : Seats). seat.code) seats
    ∙ pair_same (λ x y. is_eq (slice_cmp nat_cmp x.code y.code)) same_code seats (λ x y. is_eq-slice_cmp x.code y.code))

pub schools_twice : (list : List Wish) (schools : List Code) → schools ≡ map (λ wish. wish.school) list → some_pair (λ a b. is_eq (slice_cmp nat_cmp a b)) schools ≡ some_pair same_school list
schools_twice list schools is =
    ap (some_pair (λ a b. is_eq (slice_cmp nat_cmp a b))) is
    ∙ (pair_map (λ a b. is_eq (slice_cmp nat_cmp a b)) (λ (wish : Wish). wish.school) list
    ∙ pair_same (λ x y. is_eq (slice_cmp nat_cmp x.school y.school)) same_school list (λ x y. is_eq-slice_cmp x.school y.school))

pub children_twice : (entrants : List Candidate) (children : List ℕ) → children ≡ map (λ entrant. entrant.child) entrants
    → some_pair (λ a b. is_eq (nat_cmp a b)) children ≡ some_pair same_child entrants
children_twice entrants children is =
    ap (some_pair (λ a b. is_eq (nat_cmp a b))) is
    ∙ (pair_map (λ a b. is_eq (nat_cmp a b)) (λ (entrant : Candidate). entrant.child) entrants
    ∙ pair_same (λ x y. is_eq (nat_cmp x.child y.child)) same_child entrants (λ x y. eq_number x.child y.child))

-- one more code goes into the set
pub codes_more : (seats : List Seats) (old new : BTreeSet Code) (i : ℕ) (seat : Seats) → i < length seats → seat ≡ get_or seats i seat
    → ((code : Code) → contains (slice_cmp nat_cmp) old code ≡ list_any (λ seat. bytes_eq seat.code code) (take i seats))
    → Updates (slice_cmp nat_cmp) old new seat.code true → (code : Code) → contains (slice_cmp nat_cmp) new code ≡ list_any (λ seat. bytes_eq seat.code code) (take (i + 1) seats)
codes_more seats old new i seat l at h up code =
    let step : take (i + 1) seats ≡ take i seats ++ seat ∷ [] = rw add-one (take-suc seats i seat l ∙ ap (λ z. take i seats ++ z ∷ []) (sym at)) in
    up.0 code ∙ ((λ j. cond (is_eq-slice_cmp seat.code code j) true (h code j))
    ∙ (or_test (bytes_eq seat.code code) (list_any (λ s. bytes_eq s.code code) (take i seats))
    ∙ sym (ap (list_any (λ (s : Seats). bytes_eq s.code code)) step ∙ list_any-append (λ s. bytes_eq s.code code) (take i seats) (seat ∷ []))))

pub unknown_same : (entrants : List Candidate) (seats : List Seats) (codes : BTreeSet Code)
    → ((code : Code) → contains (slice_cmp nat_cmp) codes code ≡ list_any (λ seat. bytes_eq seat.code code) seats)
    → list_any (λ entrant. list_any (λ wish. not (contains (slice_cmp nat_cmp) codes wish.school)) entrant.list) entrants ≡ names_unknown (market_of entrants seats)
unknown_same entrants seats codes h = λ i. list_any (λ entrant. list_any (λ wish. not (h wish.school i)) entrant.list) entrants
