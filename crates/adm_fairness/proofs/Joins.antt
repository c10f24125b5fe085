-- The better of two stable allocations for each child is stable, and what is best for children is the last choice of schools.
use Rattle.std.proofs.Common.{◌≡◌, ◌≢◌, ◌∙◌, ap, sym, subst, refl, cond, Bool, true, false, not, ◌&&◌, ◌||◌, ℕ, zero, suc, ◌<◌, ◌≤◌, List, [], ◌∷◌, length, Option, Some, None, inl, inr, arith}
use Rattle.std.specs.Prelude.{◌⊎◌, ◌==◌, All, IfSome, nat_lt, is_some, bytes_eq, count_by, sum_by, find, option_and_then}
use Rattle.std.specs.List.{list_any, slice_get}
use Rattle.std.proofs.lemmas.Bool.{cases_Bool, cases_lt, cases_order, false≢true, and_parts, and_from, not-true, not_from_false, lt-ltb, ltb-true, ltb-false, eq-eqb, eqb-true}
use Rattle.std.proofs.lemmas.List.Sums.{sum_by-cons}
use Rattle.std.proofs.lemmas.Option.{none-some, same_Some}
use Rattle.std.proofs.lemmas.Slice.Eq.{bytes_eq-Decides}
use Rattle.adm_lists.proofs.Members.{finds, find_gives}
use Rattle.adm_types.specs.Code.{has}
use Rattle.adm_match.specs.declared.problem.Seats.{Seats}
use Rattle.adm_match.specs.Market.{Code, Candidate, Market, preference_rank, assigned_rank, is_tenant, ranks_before, quota_of}
use Rattle.adm_match.specs.Stability.{Allocation, IsAcceptable, count_at, is_guest, prefers, ranks_after, IsContent, IsStable}
use Rattle.adm_match.specs.Distinct.{Distinct, Seated}
use Rattle.adm_match.proofs.Posed.{posed, list_any_not}
use Rattle.adm_match.proofs.Distinct.{distinct}
use Rattle.adm_match.proofs.Placed.{on_list, prefers_best, sum_upto, swap_sums, placed, placed_from, placed_upto}
use Rattle.adm_match.proofs.RanksAndBlocks.{has_tells, has_true, not_has, at_All, All_at, list_any_of, list_any_gives, wish_at_rank, same_rank, guest_from, guest_gives}
use Rattle.adm_match.proofs.Relisted.{seated}
use Rattle.adm_match.proofs.SideBySide.{more_pass}
use Rattle.adm_match_laws.specs.FullSchools.{SameSchoolsFill}
use Rattle.adm_match_laws.proofs.Generous.{count_upto}
use Rattle.adm_fairness.specs.Lattice.{better_of, join, JoinIsStable, BestIsLastChoice}
use Rattle.adm_fairness.proofs.Codes.{not_blocked, at_index, in_index, other_first}

-- a sum with no larger terms, of which one is smaller, is smaller
sum_less : (f g : Seats → ℕ) (xs : List Seats) (k : ℕ) (x : Seats) → ((y : Seats) → f y ≤ g y) → slice_get xs k ≡ Some x → f x < g x → sum_by f xs < sum_by g xs
sum_less f g [] k x h at less = absurd (none-some x at)
sum_less f g (y ∷ ys) zero x h at less =
    let same : y ≡ x = same_Some y x at in
    omega (arith, sum_by-cons f y ys, sum_by-cons g y ys, sum_upto f g ys h, less, ap f same, ap g same)
sum_less f g (y ∷ ys) (suc k) x h at less = omega (arith, sum_by-cons f y ys, sum_by-cons g y ys, h y, sum_less f g ys k x h at less)

-- what an entrant lacks in an allocation that gives it nothing better it prefers
pub prefers_other : (m : Market) (a b : Allocation) (k : ℕ) (e : Candidate) (s : Code) → IsAcceptable m b → slice_get m.entrants k ≡ Some e → b e.child ≡ Some s
    → (a e.child ≡ Some s → ⊥) → assigned_rank e.list (b e.child) ≤ assigned_rank e.list (a e.child) → prefers a e s ≡ true
prefers_other m a b k e s fits ek at other least =
    let w = wish_at_rank e.list s (on_list m b k e s fits ek at) in
    let here : assigned_rank e.list (b e.child) ≡ preference_rank e.list s = ap (assigned_rank e.list) at in
    let apart : assigned_rank e.list (a e.child) ≡ preference_rank e.list s → ⊥ = λ same. other (same_rank e.list (a e.child) (preference_rank e.list s) w.0 w.1 same ∙ ap Some w.2) in
    lt-ltb _ _ (omega (arith, least, here, apart))

-- what is not blocked though it is preferred
pub parts_of : (m : Market) (a : Allocation) → IsStable m a → (k : ℕ) (e : Candidate) (s : Code) → slice_get m.entrants k ≡ Some e → prefers a e s ≡ true
    → (is_tenant e s ≡ false) × (nat_lt (count_at m a s) (quota_of m.seats s) ≡ false) × (list_any (ranks_after a s e) m.entrants ≡ false)
parts_of m a stable k e s ek wished = not_blocked (prefers a e s) (is_tenant e s) (nat_lt (count_at m a s) (quota_of m.seats s)) (list_any (ranks_after a s e) m.entrants)
    (at_All (IsContent m a) m.entrants k e stable.unblocked ek s) wished

-- so nobody there ranks after it
pub none_after : (m : Market) (a : Allocation) (e g : Candidate) (l : ℕ) (s : Code) → list_any (ranks_after a s e) m.entrants ≡ false → slice_get m.entrants l ≡ Some g → is_guest a s g ≡ true
    → ranks_before s e g ≡ false
none_after m a e g l s none gl guest = sym (ap (λ p. p && ranks_before s e g) guest) ∙ list_any_not (ranks_after a s e) m.entrants l g none gl

-- the entrant of a child is found by its number
pub found_itself : (m : Market) → Distinct m → (k : ℕ) (e : Candidate) → slice_get m.entrants k ≡ Some e → find (λ x. x.child == e.child) m.entrants ≡ Some e
found_itself m d k e ek =
    let test : Candidate → Bool = λ x. x.child == e.child in
    let found = finds test m.entrants e (in_index m.entrants k e ek) (eq-eqb e.child e.child refl) in
    let gives = find_gives test m.entrants found.0 found.1 in
    let l = at_index m.entrants found.0 gives.0 in
    found.1 ∙ ap Some (one l.0 found.0 l.1 (eqb-true found.0.child e.child gives.1))
  where
    one : (l : ℕ) (c : Candidate) → slice_get m.entrants l ≡ Some c → c.child ≡ e.child → c ≡ e
    one l c cl is = elim (cases_order k l) [
      | inl equal ↦ same_Some c e (sym cl ∙ (ap (slice_get m.entrants) (sym equal) ∙ ek))
      | inr order ↦ absurd (elim order [ inl less ↦ d.children k l e c ek cl less (sym is) | inr more ↦ d.children l k c e cl ek more is ])
    ]

module _ (m : Market) (d : Distinct m) (seats : Seated m) (a b : Allocation) (sa : IsStable m a) (sb : IsStable m b) (fill : (s : Code) → count_at m a s ≡ count_at m b s) where
  abbrev pub j : Allocation
  j = join m a b

  -- what an entrant has by both together
  pub joined : (k : ℕ) (e : Candidate) → slice_get m.entrants k ≡ Some e → j e.child ≡ better_of e.list (a e.child) (b e.child)
  joined k e ek = ap (option_and_then (λ (x : Candidate). better_of x.list (a e.child) (b e.child))) (found_itself m d k e ek)

  -- one of the two, and not after either
  pub record IsPick (e : Candidate) : Type 0 where
    pub which : (j e.child ≡ a e.child) ⊎ (j e.child ≡ b e.child)
    pub first : assigned_rank e.list (j e.child) ≤ assigned_rank e.list (a e.child)
    pub second : assigned_rank e.list (j e.child) ≤ assigned_rank e.list (b e.child)

  pub pick : (k : ℕ) (e : Candidate) → slice_get m.entrants k ≡ Some e → IsPick e
  pick k e ek = elim (cases_Bool (nat_lt (assigned_rank e.list (b e.child)) (assigned_rank e.list (a e.child)))) [
    | inl less ↦
        let is : j e.child ≡ b e.child = joined k e ek ∙ ap (λ t. cond t (b e.child) (a e.child)) less in
        record { which = inr is; first = omega (arith, ap (assigned_rank e.list) is, ltb-true _ _ less); second = omega (arith, ap (assigned_rank e.list) is) }
    | inr most ↦
        let is : j e.child ≡ a e.child = joined k e ek ∙ ap (λ t. cond t (b e.child) (a e.child)) most in
        record { which = inl is; first = omega (arith, ap (assigned_rank e.list) is); second = omega (arith, ap (assigned_rank e.list) is, ltb-false _ _ most) }
  ]

  pub acceptable : IsAcceptable m j
  acceptable = All_at (λ (e : Candidate). IfSome (j e.child) (λ s. preference_rank e.list s < length e.list)) m.entrants (λ k e ek. elim (pick k e ek).which [
    | inl is ↦ subst (λ o. IfSome o (λ s. preference_rank e.list s < length e.list)) (sym is) (at_All (λ (x : Candidate). IfSome (a x.child) (λ s. preference_rank x.list s < length x.list)) m.entrants k e sa.acceptable ek)
    | inr is ↦ subst (λ o. IfSome o (λ s. preference_rank e.list s < length e.list)) (sym is) (at_All (λ (x : Candidate). IfSome (b x.child) (λ s. preference_rank x.list s < length x.list)) m.entrants k e sb.acceptable ek)
  ])

  -- who has a school by both together has it by one of the two
  module _ (s : Code) where
    abbrev pub AllOf : Allocation → Type 0
    AllOf c = (k : ℕ) (e : Candidate) → slice_get m.entrants k ≡ Some e → has (j e.child) s ≡ true → has (c e.child) s ≡ true

    pub one_of : AllOf a ⊎ AllOf b
    one_of = elim (cases_Bool (list_any (λ (e : Candidate). has (j e.child) s && not (has (a e.child) s)) m.entrants)) [
      | inr none ↦ inl (λ k e ek at. elim (cases_Bool (has (a e.child) s)) [
        | inl there ↦ there
        | inr away ↦ absurd (false≢true (sym (list_any_not (λ (x : Candidate). has (j x.child) s && not (has (a x.child) s)) m.entrants k e none ek)
            ∙ and_from (has (j e.child) s) (not (has (a e.child) s)) at (not_from_false (has (a e.child) s) away)))
      ])
      | inl some ↦
          let found = list_any_gives (λ (e : Candidate). has (j e.child) s && not (has (a e.child) s)) m.entrants some in
          let l = found.0 in
          let c = found.1 in
          let both = and_parts (has (j c.child) s) (not (has (a c.child) s)) found.3 in
          let c_at : j c.child ≡ Some s = (has_tells (j c.child) s).0 both.0 in
          let c_away : a c.child ≡ Some s → ⊥ = not_has (a c.child) s (not-true (has (a c.child) s) both.1) in
          let c_b : b c.child ≡ Some s = elim (pick l c found.2).which [ inl is ↦ absurd (c_away (sym is ∙ c_at)) | inr is ↦ sym is ∙ c_at ] in
          let c_wants = prefers_other m a j l c s acceptable found.2 c_at c_away (pick l c found.2).first in
          let c_parts = parts_of m a sa l c s found.2 c_wants in
          inr (λ k e ek at. elim (cases_Bool (has (b e.child) s)) [
            | inl there ↦ there
            | inr away ↦ absurd (
                let e_at : j e.child ≡ Some s = (has_tells (j e.child) s).0 at in
                let e_away : b e.child ≡ Some s → ⊥ = not_has (b e.child) s away in
                let e_a : a e.child ≡ Some s = elim (pick k e ek).which [ inl is ↦ sym is ∙ e_at | inr is ↦ absurd (e_away (sym is ∙ e_at)) ] in
                let e_parts = parts_of m b sb k e s ek (prefers_other m b j k e s acceptable ek e_at e_away (pick k e ek).second) in
                let differ : k ≢ l = λ same. c_away (sym (ap (λ (x : Candidate). a x.child) (same_Some e c (sym ek ∙ (ap (slice_get m.entrants) same ∙ found.2)))) ∙ e_a) in
                let not_c = none_after m a c e k s c_parts.2 ek (guest_from a s e e_a e_parts.0) in
                let not_e = none_after m b e c l s e_parts.2 found.2 (guest_from b s c c_b c_parts.0) in
                let first = other_first m d k l e c s ek found.2 differ (on_list m j k e s acceptable ek e_at) (on_list m j l c s acceptable found.2 c_at) e_parts.0 c_parts.0 not_e in
                false≢true (sym not_c ∙ first))
          ])
    ]

    upto : count_at m j s ≤ count_at m a s
    upto = elim one_of [
      | inl all ↦ count_upto (λ (e : Candidate). has (a e.child) s) (λ (e : Candidate). has (j e.child) s) m.entrants all
      | inr all ↦ omega (arith, count_upto (λ (e : Candidate). has (b e.child) s) (λ (e : Candidate). has (j e.child) s) m.entrants all, fill s)
    ]

    feasible : list_any (is_guest j s) m.entrants ≡ true → count_at m j s ≤ quota_of m.seats s
    feasible some =
        let one = list_any_gives (is_guest j s) m.entrants some in
        let guest = guest_gives j s one.1 one.3 in
        elim one_of [
          | inl all ↦
              let at = (has_tells (a one.1.child) s).0 (all one.0 one.1 one.2 (has_true (j one.1.child) s guest.0)) in
              omega (arith, upto, sa.feasible s (list_any_of (is_guest a s) m.entrants one.0 one.1 one.2 (guest_from a s one.1 at guest.1)))
          | inr all ↦
              let at = (has_tells (b one.1.child) s).0 (all one.0 one.1 one.2 (has_true (j one.1.child) s guest.0)) in
              omega (arith, upto, fill s, sb.feasible s (list_any_of (is_guest b s) m.entrants one.0 one.1 one.2 (guest_from b s one.1 at guest.1)))
        ]

  -- whom one of them places, both together do
  still_placed : (k : ℕ) (e : Candidate) → slice_get m.entrants k ≡ Some e → placed a e ≡ true → placed j e ≡ true
  still_placed k e ek in' = by (a e.child) refl (j e.child) refl
    where
      by : (o : Option Code) → a e.child ≡ o → (p : Option Code) → j e.child ≡ p → placed j e ≡ true
      by None is p is' = absurd (false≢true (ap is_some (sym is) ∙ in'))
      by (Some s) is (Some t) is' = ap is_some is'
      by (Some s) is None is' =
          absurd (omega (arith, (pick k e ek).first, ap (assigned_rank e.list) is, ap (assigned_rank e.list) is', on_list m a k e s sa.acceptable ek is))

  -- so each school has as many
  pub as_many : (s : Code) → count_at m j s ≡ count_at m a s
  as_many s = elim (cases_lt (count_at m j s) (count_at m a s)) [
    | inr most ↦ omega (arith, most, upto s)
    | inl less ↦ absurd (
        let one = more_pass (λ (e : Candidate). has (a e.child) s) (λ (e : Candidate). has (j e.child) s) m.entrants m.entrants refl less in
        let w = wish_at_rank one.1.list s (on_list m a one.0 one.1 s sa.acceptable one.3 ((has_tells (a one.1.child) s).0 one.5)) in
        let seat = list_any_gives (λ (seat : Seats). bytes_eq seat.code w.0.school) m.seats (seats.known one.0 one.1 _ w.0 one.3 w.1) in
        let code : seat.1.code ≡ s = (bytes_eq-Decides seat.1.code w.0.school).0 seat.3 ∙ w.2 in
        let here : count_at m j seat.1.code < count_at m a seat.1.code = subst (λ (t : Code). count_at m j t < count_at m a t) (sym code) less in
        let fewer = sum_less (λ (x : Seats). count_at m j x.code) (λ (x : Seats). count_at m a x.code) m.seats seat.0 seat.1 (λ x. upto x.code) seat.2 here in
        let all : count_by (placed a) m.entrants ≤ count_by (placed j) m.entrants = count_upto (placed j) (placed a) m.entrants still_placed in
        omega (arith, fewer, all, swap_sums j m.seats m.entrants, swap_sums a m.seats m.entrants, placed_upto m a seats, placed_from m j seats acceptable))
  ]

  content : (k : ℕ) (e : Candidate) → slice_get m.entrants k ≡ Some e → IsContent m j e
  content k e ek s = elim (cases_Bool (prefers j e s)) [
    | inr none ↦ ap (λ p. p && (is_tenant e s || (nat_lt (count_at m j s) (quota_of m.seats s) || list_any (ranks_after j s e) m.entrants))) none
    | inl wished ↦ full wished
  ]
    where
      full : prefers j e s ≡ true → (prefers j e s && (is_tenant e s || (nat_lt (count_at m j s) (quota_of m.seats s) || list_any (ranks_after j s e) m.entrants))) ≡ false
      full wished =
          let less = ltb-true _ _ wished in
          let pa = parts_of m a sa k e s ek (lt-ltb _ _ (omega (arith, less, (pick k e ek).first))) in
          let pb = parts_of m b sb k e s ek (lt-ltb _ _ (omega (arith, less, (pick k e ek).second))) in
          let room : nat_lt (count_at m j s) (quota_of m.seats s) ≡ false = ap (λ n. nat_lt n (quota_of m.seats s)) (as_many s) ∙ pa.1 in
          let behind : list_any (ranks_after j s e) m.entrants ≡ false = elim (cases_Bool (list_any (ranks_after j s e) m.entrants)) [
            | inr none ↦ none
            | inl some ↦ absurd (
                let one = list_any_gives (ranks_after j s e) m.entrants some in
                let both = and_parts (is_guest j s one.1) (ranks_before s e one.1) one.3 in
                let guest = guest_gives j s one.1 both.0 in
                elim (pick one.0 one.1 one.2).which [
                  | inl is ↦ false≢true (sym (none_after m a e one.1 one.0 s pa.2 one.2 (guest_from a s one.1 (sym is ∙ guest.0) guest.1)) ∙ both.1)
                  | inr is ↦ false≢true (sym (none_after m b e one.1 one.0 s pb.2 one.2 (guest_from b s one.1 (sym is ∙ guest.0) guest.1)) ∙ both.1)
                ])
          ] in
          λ i. wished i && (pa.0 i || (room i || behind i))

  join_stable : IsStable m j
  join_stable = record { acceptable = acceptable; feasible = feasible; unblocked = All_at (IsContent m j) m.entrants content }

pub join_is_stable_law : SameSchoolsFill → JoinIsStable
join_is_stable_law law m one other fits first second =
    let p = posed m fits in
    join_stable m (distinct m p) (seated m p) one other first second (λ s. (law m one other fits first second s).numbers)

pub best_is_last_choice_law : BestIsLastChoice
best_is_last_choice_law m best a s fits b stable =
    let d = distinct m (posed m fits) in
    All_at (λ (e : Candidate). has (best e.child) s ≡ true → has (a e.child) s ≡ false
    → All (λ (c : Candidate). has (a c.child) s ≡ true → (is_tenant c s || ranks_before s c e) ≡ true) m.entrants) m.entrants (λ k e ek there away.
    let here = (has_tells (best e.child) s).0 there in
    let parts = parts_of m a stable k e s ek (prefers_best m best a k e s b stable ek here (not_has (a e.child) s away)) in
    All_at (λ (c : Candidate). has (a c.child) s ≡ true → (is_tenant c s || ranks_before s c e) ≡ true) m.entrants (λ l c cl at. elim (cases_Bool (is_tenant c s)) [
      | inl tenant ↦ ap (λ t. t || ranks_before s c e) tenant
      | inr free ↦
          let c_at = (has_tells (a c.child) s).0 at in
          let after' = none_after m a e c l s parts.2 cl (guest_from a s c c_at free) in
          let differ : k ≢ l = λ same. not_has (a e.child) s away (ap (λ (x : Candidate). a x.child) (same_Some e c (sym ek ∙ (ap (slice_get m.entrants) same ∙ cl))) ∙ c_at) in
          ap (λ t. t || ranks_before s c e) free ∙ other_first m d k l e c s ek cl differ (on_list m best k e s b.stable.acceptable ek here) (on_list m a l c s stable.acceptable cl c_at) parts.0 free after'
    ]))
