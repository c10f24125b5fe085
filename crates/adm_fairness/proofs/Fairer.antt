-- No fair allocation is better for a child than the best one: with no more places than it fills it is stable, and more places hurt nobody.
use Rattle.std.proofs.Common.{◌≡◌, ap, cond, false, ◌&&◌, ◌||◌, ℕ, ◌≤◌, List, [], ◌∷◌, map, Some, inl, inr, arith}
use Rattle.std.specs.Prelude.{nat_lt, bytes_eq, find, option_map, unwrap_or}
use Rattle.std.specs.List.{list_any, slice_get}
use Rattle.std.proofs.lemmas.Bool.{cases_Bool, ltb-true, ltb-false}
use Rattle.std.proofs.lemmas.Slice.Eq.{bytes_eq-Decides}
use Rattle.adm_match.specs.declared.problem.Seats.{Seats}
use Rattle.adm_match.specs.Market.{Code, Candidate, Market, is_tenant, quota_of}
use Rattle.adm_match.specs.Stability.{Allocation, count_at, prefers, ranks_after, IsContent, IsStable}
use Rattle.adm_match_laws.specs.Generous.{NoLoss, KindsOfGenerosity, with_seats}
use Rattle.adm_match.proofs.RanksAndBlocks.{at_All, All_at}
use Rattle.adm_fairness.specs.Optimal.{HasNoClaim, IsFair, NoneFairer}
use Rattle.adm_fairness.proofs.Codes.{not_blocked}

-- the smaller of two numbers
abbrev fewer : ℕ → ℕ → ℕ
fewer a b = cond (nat_lt a b) a b

fewer_first : (a b : ℕ) → fewer a b ≤ a
fewer_first a b = elim (cases_Bool (nat_lt a b)) [
  | inl less ↦ omega (arith, ap (λ t. cond t a b) less)
  | inr most ↦ omega (arith, ap (λ t. cond t a b) most, ltb-false a b most)
]

fewer_second : (a b : ℕ) → fewer a b ≤ b
fewer_second a b = elim (cases_Bool (nat_lt a b)) [
  | inl less ↦ omega (arith, ap (λ t. cond t a b) less, ltb-true a b less)
  | inr most ↦ omega (arith, ap (λ t. cond t a b) most)
]

fewer_all : (a b : ℕ) → a ≤ b → a ≤ fewer a b
fewer_all a b le = elim (cases_Bool (nat_lt a b)) [
  | inl less ↦ omega (arith, ap (λ t. cond t a b) less)
  | inr most ↦ omega (arith, ap (λ t. cond t a b) most, le)
]

-- a number that is not below another
pub at_least : (a b : ℕ) → b ≤ a → nat_lt a b ≡ false
at_least a b le = elim (cases_Bool (nat_lt a b)) [ inl less ↦ absurd (omega (arith, ltb-true a b less, le)) | inr none ↦ none ]

module _ (m : Market) (a : Allocation) where
  -- no more places than the allocation fills
  abbrev cut : Seats → Seats
  cut seat = record seat { quota = fewer (count_at m a seat.code) seat.quota }

  -- the places of a school are then as many as before, or as many as are taken there
  record IsCut (s : Code) (before now : ℕ) : Type 0 where
    pub upto : now ≤ before
    pub taken : now ≤ count_at m a s
    pub enough : count_at m a s ≤ before → count_at m a s ≤ now

  cut_at : (s : Code) (seats : List Seats) → IsCut s (quota_of seats s) (quota_of (map cut seats) s)
  cut_at s [] = record { upto = omega arith; taken = omega arith; enough = λ le. le }
  cut_at s (x ∷ xs) = elim (cases_Bool (bytes_eq x.code s)) [
    | inl hit ↦
        let before : quota_of (x ∷ xs) s ≡ x.quota =
        ap (λ b. unwrap_or (option_map (λ (seat : Seats). seat.quota) (cond b (Some x) (find (λ (seat : Seats). bytes_eq seat.code s) xs))) 0) hit in
        let now : quota_of (map cut (x ∷ xs)) s ≡ fewer (count_at m a x.code) x.quota =
        ap (λ b. unwrap_or (option_map (λ (seat : Seats). seat.quota) (cond b (Some (cut x)) (find (λ (seat : Seats). bytes_eq seat.code s) (map cut xs)))) 0) hit in
        let code : count_at m a x.code ≡ count_at m a s = ap (count_at m a) ((bytes_eq-Decides x.code s).0 hit) in
        record {
          upto = omega (arith, before, now, fewer_second (count_at m a x.code) x.quota);
          taken = omega (arith, now, code, fewer_first (count_at m a x.code) x.quota);
          enough = λ le. (let all = fewer_all (count_at m a x.code) x.quota (omega (arith, le, before, code)) in omega (arith, all, now, code));
        }
    | inr miss ↦
        let before : quota_of (x ∷ xs) s ≡ quota_of xs s =
        ap (λ b. unwrap_or (option_map (λ (seat : Seats). seat.quota) (cond b (Some x) (find (λ (seat : Seats). bytes_eq seat.code s) xs))) 0) miss in
        let now : quota_of (map cut (x ∷ xs)) s ≡ quota_of (map cut xs) s =
        ap (λ b. unwrap_or (option_map (λ (seat : Seats). seat.quota) (cond b (Some (cut x)) (find (λ (seat : Seats). bytes_eq seat.code s) (map cut xs)))) 0) miss in
        let rest = cut_at s xs in
        record {
          upto = omega (arith, before, now, rest.upto);
          taken = omega (arith, now, rest.taken);
          enough = λ le. (let all = rest.enough (omega (arith, le, before)) in omega (arith, all, now));
        }
  ]

  abbrev cut_market : Market
  cut_market = with_seats (map cut m.seats) m

  module _ (fair : IsFair m a) where
    unblocked : (k : ℕ) (e : Candidate) → slice_get m.entrants k ≡ Some e → IsContent cut_market a e
    unblocked k e ek s = elim (cases_Bool (prefers a e s)) [
      | inr none ↦ ap (λ b. b && (is_tenant e s || (nat_lt (count_at m a s) (quota_of (map cut m.seats) s) || list_any (ranks_after a s e) m.entrants))) none
      | inl wished ↦
          let claim = at_All (HasNoClaim m a) m.entrants k e fair.no_claims ek s wished in
          let full = at_least (count_at m a s) (quota_of (map cut m.seats) s) (cut_at s m.seats).taken in
          (λ i. wished i && (claim.0 i || (full i || claim.1 i)))
    ]

    stable_where_cut : IsStable cut_market a
    stable_where_cut = record {
      acceptable = fair.acceptable;
      feasible = λ s some. (cut_at s m.seats).enough (fair.feasible s some);
      unblocked = All_at (IsContent cut_market a) m.entrants unblocked;
    }

stable_is_fair : (m : Market) (a : Allocation) → IsStable m a → IsFair m a
stable_is_fair m a stable = record {
  acceptable = stable.acceptable;
  feasible = stable.feasible;
  no_claims = All_at (HasNoClaim m a) m.entrants (λ k e ek s wished.
      let parts = not_blocked (prefers a e s) (is_tenant e s) (nat_lt (count_at m a s) (quota_of m.seats s)) (list_any (ranks_after a s e) m.entrants)
      (at_All (IsContent m a) m.entrants k e stable.unblocked ek s) wished in
      (parts.0, parts.2));
}

pub none_fairer_law : KindsOfGenerosity → NoLoss → NoneFairer
none_fairer_law kinds law = record {
  stable = stable_is_fair;
  best = λ m best a fits b fair. law m (cut_market m a) best a fits (kinds.adds (cut_market m a) m.seats (λ s. (cut_at m a s m.seats).upto)) b (stable_where_cut m a fair);
}
