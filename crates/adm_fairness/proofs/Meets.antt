-- The worse of two stable allocations for each child is stable.
use Rattle.std.proofs.Common.{◌≡◌, ◌≢◌, ◌∙◌, ap, sym, subst, refl, cond, Bool, true, false, not, ◌&&◌, ◌||◌, ℕ, suc, ◌+◌, ◌<◌, ◌≤◌, List, [], ◌∷◌, length, Some, inl, inr, arith}
use Rattle.std.specs.Prelude.{◌⊎◌, IfSome, nat_lt, count_by, option_and_then}
use Rattle.std.specs.List.{list_any, slice_get}
use Rattle.std.proofs.lemmas.Bool.{cases_Bool, false≢true, and_parts, and_from, not-true, not_from_false}
use Rattle.std.proofs.lemmas.List.Sums.{sum_by-cons}
use Rattle.std.proofs.lemmas.Option.{same_Some}
use Rattle.adm_lists.proofs.Counts.{one_if}
use Rattle.adm_types.specs.Code.{has}
use Rattle.adm_match.specs.Market.{Code, Candidate, Market, preference_rank, assigned_rank, is_tenant, ranks_before, quota_of}
use Rattle.adm_match.specs.Stability.{Allocation, IsAcceptable, count_at, is_guest, prefers, ranks_after, IsContent, IsStable}
use Rattle.adm_match.specs.Distinct.{Distinct, Seated}
use Rattle.adm_match.proofs.Posed.{posed, list_any_not}
use Rattle.adm_match.proofs.Distinct.{distinct}
use Rattle.adm_match.proofs.Placed.{on_list, count_less}
use Rattle.adm_match.proofs.RanksAndBlocks.{has_tells, has_true, not_has, at_All, All_at, list_any_of, list_any_gives, ranks_before_trans, guest_from, guest_gives}
use Rattle.adm_match.proofs.Relisted.{seated}
use Rattle.adm_match_laws.specs.FullSchools.{SameSchoolsFill}
use Rattle.adm_fairness.specs.Lattice.{worse_of, join, meet, MeetIsStable}
use Rattle.adm_fairness.proofs.Codes.{other_first}
use Rattle.adm_fairness.proofs.Joins as joins
use Rattle.adm_fairness.proofs.Joins.{found_itself, prefers_other, parts_of, none_after}

-- where one or the other of two tests passes for each element as often as of two others, so they do in all
count_pairs : {X : Type 0} (p q r t : X → Bool) (xs : List X) → ((k : ℕ) (x : X) → slice_get xs k ≡ Some x → one_if (p x) + one_if (q x) ≡ one_if (r x) + one_if (t x))
    → count_by p xs + count_by q xs ≡ count_by r xs + count_by t xs
count_pairs p q r t [] each = refl
count_pairs p q r t (x ∷ xs) each = omega (
  arith,
  sum_by-cons (λ y. one_if (p y)) x xs,
  sum_by-cons (λ y. one_if (q y)) x xs,
  sum_by-cons (λ y. one_if (r y)) x xs,
  sum_by-cons (λ y. one_if (t y)) x xs,
  each 0 x refl,
  count_pairs p q r t xs (λ k y yk. each (suc k) y yk),
)

module _ (m : Market) (d : Distinct m) (seats : Seated m) (a b : Allocation) (sa : IsStable m a) (sb : IsStable m b) (fill : (s : Code) → count_at m a s ≡ count_at m b s) where
  abbrev j : Allocation
  j = join m a b

  abbrev w : Allocation
  w = meet m a b

  -- what an entrant has by the worse of both
  met : (k : ℕ) (e : Candidate) → slice_get m.entrants k ≡ Some e → w e.child ≡ worse_of e.list (a e.child) (b e.child)
  met k e ek = ap (option_and_then (λ (x : Candidate). worse_of x.list (a e.child) (b e.child))) (found_itself m d k e ek)

  -- of what two allocations give it, an entrant has the one by the better of both and the other by the worse
  record IsPair (e : Candidate) : Type 0 where
    pub which : ((j e.child ≡ a e.child) × (w e.child ≡ b e.child)) ⊎ ((j e.child ≡ b e.child) × (w e.child ≡ a e.child))
    pub first : assigned_rank e.list (j e.child) ≤ assigned_rank e.list (a e.child)
    pub second : assigned_rank e.list (j e.child) ≤ assigned_rank e.list (b e.child)

  pair : (k : ℕ) (e : Candidate) → slice_get m.entrants k ≡ Some e → IsPair e
  pair k e ek =
      let better = joins.joined m d seats a b sa sb fill k e ek in
      let pick = joins.pick m d seats a b sa sb fill k e ek in
      record {
        which = elim (cases_Bool (nat_lt (assigned_rank e.list (b e.child)) (assigned_rank e.list (a e.child)))) [
          | inl less ↦ inr (better ∙ ap (λ t. cond t (b e.child) (a e.child)) less, met k e ek ∙ ap (λ t. cond t (a e.child) (b e.child)) less)
          | inr most ↦ inl (better ∙ ap (λ t. cond t (b e.child) (a e.child)) most, met k e ek ∙ ap (λ t. cond t (a e.child) (b e.child)) most)
        ];
        first = pick.first;
        second = pick.second;
      }

  acceptable : IsAcceptable m w
  acceptable = All_at (λ (e : Candidate). IfSome (w e.child) (λ s. preference_rank e.list s < length e.list)) m.entrants (λ k e ek. elim (pair k e ek).which [
    | inl is ↦ subst (λ o. IfSome o (λ s. preference_rank e.list s < length e.list)) (sym is.1) (at_All (λ (x : Candidate). IfSome (b x.child) (λ s. preference_rank x.list s < length x.list)) m.entrants k e sb.acceptable ek)
    | inr is ↦ subst (λ o. IfSome o (λ s. preference_rank e.list s < length e.list)) (sym is.1) (at_All (λ (x : Candidate). IfSome (a x.child) (λ s. preference_rank x.list s < length x.list)) m.entrants k e sa.acceptable ek)
  ])

  as_many : (s : Code) → count_at m w s ≡ count_at m a s
  as_many s =
      let all = count_pairs (λ (e : Candidate). has (j e.child) s) (λ (e : Candidate). has (w e.child) s) (λ (e : Candidate). has (a e.child) s) (λ (e : Candidate). has (b e.child) s) m.entrants (λ k e ek. elim (pair k e ek).which [
        | inl is ↦ omega (arith, ap (λ o. one_if (has o s)) is.0, ap (λ o. one_if (has o s)) is.1)
        | inr is ↦ omega (arith, ap (λ o. one_if (has o s)) is.0, ap (λ o. one_if (has o s)) is.1)
      ]) in
      omega (arith, all, joins.as_many m d seats a b sa sb fill s, fill s)

  -- Whom a school has by the better of both it has by the one allocation, and whom it has by the worse of both by the other.
  record IsSide (s : Code) (c o : Allocation) : Type 0 where
    pub stable : IsStable m c
    pub other : IsStable m o
    pub even : count_at m c s ≡ count_at m o s
    pub ahead : (k : ℕ) (e : Candidate) → slice_get m.entrants k ≡ Some e → assigned_rank e.list (j e.child) ≤ assigned_rank e.list (o e.child)
    pub which : (k : ℕ) (e : Candidate) → slice_get m.entrants k ≡ Some e → (w e.child ≡ c e.child) ⊎ (w e.child ≡ o e.child)
    pub better : (k : ℕ) (e : Candidate) → slice_get m.entrants k ≡ Some e → has (c e.child) s ≡ true → has (j e.child) s ≡ true
    pub worse : (k : ℕ) (e : Candidate) → slice_get m.entrants k ≡ Some e → has (w e.child) s ≡ true → has (o e.child) s ≡ true

  module _ (s : Code) where
    -- who is at the school by an allocation is there by the better of both, where as many are, and nobody else
    filled : (c : Allocation) → ((k : ℕ) (e : Candidate) → slice_get m.entrants k ≡ Some e → has (j e.child) s ≡ true → has (c e.child) s ≡ true) → count_at m c s ≡ count_at m j s
        → (k : ℕ) (e : Candidate) → slice_get m.entrants k ≡ Some e → has (c e.child) s ≡ true → has (j e.child) s ≡ true
    filled c all even k e ek there = elim (cases_Bool (has (j e.child) s)) [
      | inl here ↦ here
      | inr away ↦ absurd (omega (arith, even, count_less (λ (x : Candidate). has (c x.child) s) (λ (x : Candidate). has (j x.child) s) m.entrants k e all ek there away))
    ]

    side : IsSide s a b ⊎ IsSide s b a
    side = elim (joins.one_of m d seats a b sa sb fill s) [
      | inl all ↦
          let back = filled a all (sym (joins.as_many m d seats a b sa sb fill s)) in
          inl (record {
            stable = sa;
            other = sb;
            even = fill s;
            ahead = λ k e ek. (pair k e ek).second;
            which = λ k e ek. elim (pair k e ek).which [ inl is ↦ inr is.1 | inr is ↦ inl is.1 ];
            better = back;
            worse = λ k e ek there. elim (pair k e ek).which [
              | inl is ↦ sym (ap (λ o. has o s) is.1) ∙ there
              | inr is ↦ sym (ap (λ o. has o s) is.0) ∙ back k e ek (sym (ap (λ o. has o s) is.1) ∙ there)
            ];
          })
      | inr all ↦
          let back = filled b all (omega (arith, fill s, joins.as_many m d seats a b sa sb fill s)) in
          inr (record {
            stable = sb;
            other = sa;
            even = sym (fill s);
            ahead = λ k e ek. (pair k e ek).first;
            which = λ k e ek. elim (pair k e ek).which [ inl is ↦ inl is.1 | inr is ↦ inr is.1 ];
            better = back;
            worse = λ k e ek there. elim (pair k e ek).which [
              | inl is ↦ sym (ap (λ o. has o s) is.0) ∙ back k e ek (sym (ap (λ o. has o s) is.1) ∙ there)
              | inr is ↦ sym (ap (λ o. has o s) is.1) ∙ there
            ];
          })
    ]

    module _ (c o : Allocation) (of : IsSide s c o) where
      feasible : list_any (is_guest w s) m.entrants ≡ true → count_at m o s ≤ quota_of m.seats s
      feasible some =
          let one = list_any_gives (is_guest w s) m.entrants some in
          let guest = guest_gives w s one.1 one.3 in
          let there = of.worse one.0 one.1 one.2 (has_true (w one.1.child) s guest.0) in
          of.other.feasible s (list_any_of (is_guest o s) m.entrants one.0 one.1 one.2 (guest_from o s one.1 ((has_tells (o one.1.child) s).0 there) guest.1))

      -- an entrant that ranks before a guest wants the school more by neither allocation
      module _ (k l : ℕ) (e g : Candidate) (ek : slice_get m.entrants k ≡ Some e) (gl : slice_get m.entrants l ≡ Some g) (there : w g.child ≡ Some s) (free : is_tenant g s ≡ false) (before : ranks_before s e g ≡ true) where
        g_other : o g.child ≡ Some s
        g_other = (has_tells (o g.child) s).0 (of.worse l g gl (has_true (w g.child) s there))

        not_other : prefers o e s ≡ true → ⊥
        not_other wished = false≢true (sym (none_after m o e g l s (parts_of m o of.other k e s ek wished).2 gl (guest_from o s g g_other free)) ∙ before)

        not_first : prefers c e s ≡ true → ⊥
        not_first wished =
            let parts = parts_of m c of.stable k e s ek wished in
            elim (cases_Bool (has (c g.child) s)) [
              | inl here ↦ false≢true (sym (none_after m c e g l s parts.2 gl (guest_from c s g ((has_tells (c g.child) s).0 here) free)) ∙ before)
              | inr away ↦ absurd (chain parts.2 (one away))
            ]
          where
            -- so the one has a child there that the other has not
            one : has (c g.child) s ≡ false → (i : ℕ) × (h : Candidate) × (slice_get m.entrants i ≡ Some h) × (has (c h.child) s ≡ true) × (has (o h.child) s ≡ false)
            one away = elim (cases_Bool (list_any (λ (h : Candidate). has (c h.child) s && not (has (o h.child) s)) m.entrants)) [
              | inl some ↦
                  let found = list_any_gives (λ (h : Candidate). has (c h.child) s && not (has (o h.child) s)) m.entrants some in
                  let both = and_parts (has (c found.1.child) s) (not (has (o found.1.child) s)) found.3 in
                  (found.0, found.1, found.2, both.0, not-true (has (o found.1.child) s) both.1)
              | inr none ↦ absurd (
                  let all : (i : ℕ) (h : Candidate) → slice_get m.entrants i ≡ Some h → has (c h.child) s ≡ true → has (o h.child) s ≡ true =
                  λ i h hi in'. elim (cases_Bool (has (o h.child) s)) [
                    | inl yes' ↦ yes'
                    | inr no' ↦ absurd (false≢true (sym (list_any_not (λ (x : Candidate). has (c x.child) s && not (has (o x.child) s)) m.entrants i h none hi)
                        ∙ and_from (has (c h.child) s) (not (has (o h.child) s)) in' (not_from_false (has (o h.child) s) no')))
                  ] in
                  omega (arith, of.even, count_less (λ (x : Candidate). has (o x.child) s) (λ (x : Candidate). has (c x.child) s) m.entrants l g all gl (has_true (o g.child) s g_other) away))
            ]

            chain : list_any (ranks_after c s e) m.entrants ≡ false
                → ((i : ℕ) × (h : Candidate) × (slice_get m.entrants i ≡ Some h) × (has (c h.child) s ≡ true) × (has (o h.child) s ≡ false)) → ⊥
            chain none found =
                let i = found.0 in
                let h = found.1 in
                let hi = found.2 in
                let h_better : j h.child ≡ Some s = (has_tells (j h.child) s).0 (of.better i h hi found.3) in
                let accepts = joins.acceptable m d seats a b sa sb fill in
                let h_wants = prefers_other m o j i h s accepts hi h_better (not_has (o h.child) s found.4) (of.ahead i h hi) in
                let h_parts = parts_of m o of.other i h s hi h_wants in
                let differ : i ≢ l = λ same. not_has (o h.child) s found.4 (ap (λ (x : Candidate). o x.child) (same_Some h g (sym hi ∙ (ap (slice_get m.entrants) same ∙ gl))) ∙ g_other) in
                let first = other_first m d i l h g s hi gl differ (on_list m j i h s accepts hi h_better) (on_list m o l g s of.other.acceptable gl g_other) h_parts.0 free
                (none_after m o h g l s h_parts.2 gl (guest_from o s g g_other free)) in
                false≢true (sym (none_after m c e h i s none hi (guest_from c s h ((has_tells (c h.child) s).0 found.3) h_parts.0)) ∙ ranks_before_trans s e g h before first)

        unwanted : prefers w e s ≡ true → ⊥
        unwanted wished = elim (of.which k e ek) [
          | inl is ↦ not_first (ap (λ x. nat_lt (preference_rank e.list s) (assigned_rank e.list x)) (sym is) ∙ wished)
          | inr is ↦ not_other (ap (λ x. nat_lt (preference_rank e.list s) (assigned_rank e.list x)) (sym is) ∙ wished)
        ]

      none_behind : (k : ℕ) (e : Candidate) → slice_get m.entrants k ≡ Some e → prefers w e s ≡ true → list_any (ranks_after w s e) m.entrants ≡ false
      none_behind k e ek wished = elim (cases_Bool (list_any (ranks_after w s e) m.entrants)) [
        | inr none ↦ none
        | inl some ↦ absurd (
            let one = list_any_gives (ranks_after w s e) m.entrants some in
            let both = and_parts (is_guest w s one.1) (ranks_before s e one.1) one.3 in
            let guest = guest_gives w s one.1 both.0 in
            unwanted k one.0 e one.1 ek one.2 guest.0 guest.1 both.1 wished)
      ]

  content : (k : ℕ) (e : Candidate) → slice_get m.entrants k ≡ Some e → IsContent m w e
  content k e ek s = elim (cases_Bool (prefers w e s)) [
    | inr none ↦ ap (λ p. p && (is_tenant e s || (nat_lt (count_at m w s) (quota_of m.seats s) || list_any (ranks_after w s e) m.entrants))) none
    | inl wished ↦ full wished
  ]
    where
      full : prefers w e s ≡ true → (prefers w e s && (is_tenant e s || (nat_lt (count_at m w s) (quota_of m.seats s) || list_any (ranks_after w s e) m.entrants))) ≡ false
      full wished =
          let parts : (is_tenant e s ≡ false) × (nat_lt (count_at m w s) (quota_of m.seats s) ≡ false) = elim (pair k e ek).which [
            | inl is ↦
                let of_b = parts_of m b sb k e s ek (ap (λ x. nat_lt (preference_rank e.list s) (assigned_rank e.list x)) (sym is.1) ∙ wished) in
                (of_b.0, ap (λ n. nat_lt n (quota_of m.seats s)) (as_many s ∙ fill s) ∙ of_b.1)
            | inr is ↦
                let of_a = parts_of m a sa k e s ek (ap (λ x. nat_lt (preference_rank e.list s) (assigned_rank e.list x)) (sym is.1) ∙ wished) in
                (of_a.0, ap (λ n. nat_lt n (quota_of m.seats s)) (as_many s) ∙ of_a.1)
          ] in
          let behind : list_any (ranks_after w s e) m.entrants ≡ false = elim (side s) [
            | inl of ↦ none_behind s a b of k e ek wished
            | inr of ↦ none_behind s b a of k e ek wished
          ] in
          λ i. wished i && (parts.0 i || (parts.1 i || behind i))

  meet_stable : IsStable m w
  meet_stable = record {
    acceptable = acceptable;
    feasible = λ s some. elim (side s) [
      | inl of ↦ omega (arith, feasible s a b of some, as_many s, fill s)
      | inr of ↦ omega (arith, feasible s b a of some, as_many s)
    ];
    unblocked = All_at (IsContent m w) m.entrants content;
  }

pub meet_is_stable_law : SameSchoolsFill → MeetIsStable
meet_is_stable_law law m one other fits first second =
    let p = posed m fits in
    meet_stable m (distinct m p) (seated m p) one other first second (λ s. (law m one other fits first second s).numbers)
