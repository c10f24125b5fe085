-- What is stable where each entrant is tenant of what it was given is stable by the lists of before too, among those who remain.
use Rattle.std.proofs.Common.{◌≡◌, ◌∙◌, ap, sym, subst, refl, Bool, true, false, ◌&&◌, ◌||◌, ℕ, ◌<◌, ◌≤◌, List, [], length, Option, Some, None, inl, inr, arith}
use Rattle.std.specs.Prelude.{◌⊎◌, IfSome, nat_lt, count_by, filter}
use Rattle.std.specs.List.{AllZip, list_any, slice_get}
use Rattle.std.proofs.lemmas.Bool.{cases_Bool, cases_lt, false≢true, and_parts, and_from, lt-ltb, ltb-true}
use Rattle.adm_lists.proofs.Members.{in_filter}
use Rattle.adm_types.specs.Code.{has}
use Rattle.adm_match.specs.declared.problem.Wish.{Wish}
use Rattle.adm_match.specs.Market.{Code, Candidate, Market, preference_rank, assigned_rank, is_tenant, key_at, both_precede, ranks_before, quota_of}
use Rattle.adm_match.specs.Stability.{Allocation, count_at, is_guest, prefers, ranks_after, IsContent, IsStable, IsBest}
use Rattle.adm_match.proofs.Posed.{list_any_not}
use Rattle.adm_match.proofs.RanksAndBlocks.{has_tells, has_true, not_has, at_All, All_at, list_any_of, list_any_gives, wish_at_rank, same_rank, guest_from, guest_gives}
use Rattle.adm_match.proofs.FoundWishes.{rank_within}
use Rattle.adm_match.proofs.Placed.{on_list, full_if_unblocked}
use Rattle.adm_match_laws.proofs.Generous.{count_upto}
use Rattle.adm_fairness.proofs.Beside.{zip_there}
use Rattle.adm_fairness.proofs.Codes.{at_index, in_index, not_blocked}
use Rattle.adm_fairness.proofs.CutoffLemmas.{same_by_rank}
use Rattle.adm_fairness.proofs.Zipped.{zip_back, count_zipped, left_at, all_left, count_left}

-- An entrant, and the same one as tenant of what it was given: its list ends there, or is as long as before where it was given nothing.
-- Before that its keys are the same.
pub record IsSettled (best : Allocation) (e f : Candidate) : Type 0 where
  pub child : f.child ≡ e.child
  pub tenant : f.tenant ≡ best e.child
  pub shorter : length f.list ≤ length e.list
  pub whole : best e.child ≡ None → length f.list ≡ length e.list
  pub there : (s : Code) → best e.child ≡ Some s → preference_rank f.list s < length f.list
  pub upto : (s : Code) → preference_rank e.list s ≤ assigned_rank e.list (best e.child) → preference_rank f.list s ≡ preference_rank e.list s
  pub back : (s : Code) → preference_rank f.list s < length f.list → preference_rank e.list s ≡ preference_rank f.list s
  pub keys : (s : Code) → preference_rank e.list s < assigned_rank e.list (best e.child) → key_at f.list s ≡ key_at e.list s

-- A problem, that of those of its entrants who remain, with no fewer places, and the one in which each of these is tenant of what it was
-- given; who left may still be in it, with no school on the list.
pub record IsResumed (m mid now : Market) (stays : ℕ → Bool) (best : Allocation) : Type 0 where
  pub stable : IsStable m best
  pub among : (k : ℕ) (e : Candidate) → slice_get mid.entrants k ≡ Some e → (l : ℕ) × (slice_get m.entrants l ≡ Some e)
  pub fewer : (test : ℕ → Bool) → count_by (λ e. test e.child) mid.entrants ≤ count_by (λ e. test e.child) m.entrants
  pub more : (s : Code) → quota_of m.seats s ≤ quota_of mid.seats s
  pub same : (s : Code) → quota_of now.seats s ≡ quota_of mid.seats s
  pub gone : (j : ℕ) (f : Candidate) → slice_get now.entrants j ≡ Some f → stays f.child ≡ false → f.list ≡ []
  pub settled : AllZip (IsSettled best) mid.entrants (filter (λ f. stays f.child) now.entrants)

module _ (m mid now : Market) (stays : ℕ → Bool) (best : Allocation) (resumed : IsResumed m mid now stays best) where
  -- the entrant of a child that remains, as it is now
  pub record IsNow (e : Candidate) : Type 0 where
    pub index : ℕ
    pub entrant : Candidate
    pub at : slice_get now.entrants index ≡ Some entrant
    pub remains : stays entrant.child ≡ true
    pub held : IsSettled best e entrant

  pub now_of : (k : ℕ) (e : Candidate) → slice_get mid.entrants k ≡ Some e → IsNow e
  now_of k e ek =
      let beside = zip_there (IsSettled best) mid.entrants (filter (λ f. stays f.child) now.entrants) k e resumed.settled ek in
      let was = left_at (λ f. stays f.child) now.entrants k beside.0 beside.1 in
      record { index = was.0; entrant = beside.0; at = was.1; remains = was.2; held = beside.2 }

  -- whom an entrant now was, if it remains
  pub record IsThen (f : Candidate) : Type 0 where
    pub index : ℕ
    pub entrant : Candidate
    pub at : slice_get mid.entrants index ≡ Some entrant
    pub remains : stays f.child ≡ true
    pub held : IsSettled best entrant f

  pub then_of : (j : ℕ) (f : Candidate) → slice_get now.entrants j ≡ Some f → (stays f.child ≡ false) ⊎ IsThen f
  then_of j f fj = elim (cases_Bool (stays f.child)) [
    | inr away ↦ inl away
    | inl here ↦
        let left = filter (λ (x : Candidate). stays x.child) now.entrants in
        let k = at_index left f (in_filter (λ (x : Candidate). stays x.child) now.entrants f (in_index now.entrants j f fj) here) in
        let beside = zip_back (IsSettled best) mid.entrants left k.0 f resumed.settled k.1 in
        inr (record { index = k.0; entrant = beside.0; at = beside.1; remains = here; held = beside.2 })
  ]

  -- who left counts nowhere
  pub count_now : (a c : Allocation) (s : Code) → ((j : ℕ) (f : Candidate) → slice_get now.entrants j ≡ Some f → stays f.child ≡ false → a f.child ≡ None)
      → ((k : ℕ) (e f : Candidate) → slice_get mid.entrants k ≡ Some e → IsSettled best e f → stays f.child ≡ true → a f.child ≡ c e.child) → count_at now a s ≡ count_at mid c s
  count_now a c s none given =
      let remains : Candidate → Bool = λ f. stays f.child in
      let whole = count_left remains (λ (f : Candidate). has (a f.child) s) now.entrants (λ j f fj away. ap (λ o. has o s) (none j f fj away)) in
      let same = count_zipped (IsSettled best) (λ (e : Candidate). has (c e.child) s) (λ (f : Candidate). has (a f.child) s) mid.entrants (filter remains now.entrants) resumed.settled
      (λ k e f ek fk is. ap (λ o. has o s) (given k e f ek is (left_at remains now.entrants k f fk).2)) in
      sym whole ∙ same

  -- ---- an entrant of before, and what it was given

  module _ (k : ℕ) (e : Candidate) (ek : slice_get mid.entrants k ≡ Some e) where
    abbrev l : ℕ
    l = (resumed.among k e ek).0

    el : slice_get m.entrants l ≡ Some e
    el = (resumed.among k e ek).1

    -- a tenant of before was given nothing that it wants less
    pub tenant_kept : (s : Code) → is_tenant e s ≡ true → assigned_rank e.list (best e.child) ≤ preference_rank e.list s
    tenant_kept s tenant = elim (cases_lt (preference_rank e.list s) (assigned_rank e.list (best e.child))) [
      | inr most ↦ most
      | inl less ↦ absurd (
          let free = (full_if_unblocked m best e s (lt-ltb _ _ less) (at_All (IsContent m best) m.entrants l e resumed.stable.unblocked el s)).0 in
          false≢true (sym free ∙ tenant))
    ]

    module _ (f : Candidate) (held : IsSettled best e f) where
      -- what is not after what it was given has the same rank on both lists
      pub same_given : (o : Option Code) → assigned_rank e.list o ≤ assigned_rank e.list (best e.child) → assigned_rank f.list o ≡ assigned_rank e.list o
      same_given (Some s) least = held.upto s least
      same_given None least = by (best e.child) refl
        where
          by : (o : Option Code) → best e.child ≡ o → length f.list ≡ length e.list
          by None is = held.whole is
          by (Some t) is = absurd (omega (arith, least, ap (assigned_rank e.list) is, on_list m best l e t resumed.stable.acceptable el is))

      -- and is on the shorter one too
      pub kept_on : (s : Code) → preference_rank e.list s ≤ assigned_rank e.list (best e.child) → preference_rank e.list s < length e.list → preference_rank f.list s < length f.list
      kept_on s least on = by (best e.child) refl
        where
          by : (o : Option Code) → best e.child ≡ o → preference_rank f.list s < length f.list
          by None is = omega (arith, held.upto s least, held.whole is, on)
          by (Some t) is = omega (arith, held.upto s least, held.there t is, held.upto t (omega (arith, ap (assigned_rank e.list) is)), least, ap (assigned_rank e.list) is)

    -- at a school that it has and was not given, it has a rank before what it was given
    pub ranked : (a : Allocation) (s : Code) → assigned_rank e.list (a e.child) ≤ assigned_rank e.list (best e.child) → preference_rank e.list s < length e.list
        → a e.child ≡ Some s → has (best e.child) s ≡ false → preference_rank e.list s < assigned_rank e.list (best e.child)
    ranked a s least inside is away = elim (cases_lt (preference_rank e.list s) (assigned_rank e.list (best e.child))) [
      | inl less ↦ less
      | inr most ↦ absurd (
          let w = wish_at_rank e.list s inside in
          let equal : assigned_rank e.list (best e.child) ≡ preference_rank e.list s = omega (arith, most, least, ap (assigned_rank e.list) is) in
          not_has (best e.child) s away (same_rank e.list (best e.child) (preference_rank e.list s) w.0 w.1 equal ∙ ap Some w.2))
    ]

  -- ---- an allocation that is stable now

  module _ (a : Allocation) (stable : IsStable now a) where
    -- who left has no school
    none_gone : (j : ℕ) (f : Candidate) → slice_get now.entrants j ≡ Some f → stays f.child ≡ false → a f.child ≡ None
    none_gone j f fj away = by (a f.child) refl
      where
        by : (o : Option Code) → a f.child ≡ o → a f.child ≡ None
        by None is = is
        by (Some s) is = absurd (omega (arith, subst (λ (ws : List Wish). preference_rank ws s < length ws) (resumed.gone j f fj away) (on_list now a j f s stable.acceptable fj is)))

    counted : (s : Code) → count_at now a s ≡ count_at mid a s
    counted s = count_now a a s none_gone (λ k e f ek held remains. ap a held.child)

    module _ (k : ℕ) (e : Candidate) (ek : slice_get mid.entrants k ≡ Some e) where
      abbrev then : IsNow e
      then = now_of k e ek

      abbrev f : Candidate
      f = then.entrant

      on_shorter : (s : Code) → a e.child ≡ Some s → preference_rank f.list s < length f.list
      on_shorter s is = on_list now a then.index f s stable.acceptable then.at (ap a then.held.child ∙ is)

      same_there : (s : Code) → a e.child ≡ Some s → preference_rank e.list s ≡ preference_rank f.list s
      same_there s is = then.held.back s (on_shorter s is)

      on_whole : (s : Code) → a e.child ≡ Some s → preference_rank e.list s < length e.list
      on_whole s is = omega (arith, on_shorter s is, same_there s is, then.held.shorter)

      -- nobody has what it wants less than what it was given
      pub not_worse : assigned_rank e.list (a e.child) ≤ assigned_rank e.list (best e.child)
      not_worse = by (best e.child) refl
        where
          of_place : (t : Code) → best e.child ≡ Some t → (o : Option Code) → a e.child ≡ o → assigned_rank f.list (a f.child) ≤ preference_rank f.list t → assigned_rank e.list o ≤ preference_rank e.list t
          of_place t is None none most = absurd (omega (arith, most, ap (assigned_rank f.list) (ap a then.held.child ∙ none), then.held.there t is))
          of_place t is (Some s) given most =
              omega (arith, most, ap (assigned_rank f.list) (ap a then.held.child ∙ given), same_there s given, then.held.upto t (omega (arith, ap (assigned_rank e.list) is)))

          by : (o : Option Code) → best e.child ≡ o → assigned_rank e.list (a e.child) ≤ assigned_rank e.list (best e.child)
          by None is = omega (arith, rank_within e.list (a e.child), ap (assigned_rank e.list) is)
          by (Some t) is =
              let most : assigned_rank f.list (a f.child) ≤ preference_rank f.list t = elim (cases_lt (preference_rank f.list t) (assigned_rank f.list (a f.child))) [
                | inr most ↦ most
                | inl less ↦ absurd (
                    let free = (full_if_unblocked now a f t (lt-ltb _ _ less) (at_All (IsContent now a) now.entrants then.index f stable.unblocked then.at t)).0 in
                    false≢true (sym free ∙ has_true f.tenant t (then.held.tenant ∙ is)))
              ] in
              omega (arith, of_place t is (a e.child) refl most, ap (assigned_rank e.list) is)

      -- what it has has the same rank on both lists
      pub rank_kept : assigned_rank f.list (a f.child) ≡ assigned_rank e.list (a e.child)
      rank_kept = ap (λ n. assigned_rank f.list (a n)) then.held.child ∙ same_given k e ek f then.held (a e.child) not_worse

      given_on_list : (o : Option Code) → a e.child ≡ o → IfSome o (λ s. preference_rank e.list s < length e.list)
      given_on_list None is = tt
      given_on_list (Some s) is = on_whole s is

    feasible : (s : Code) → list_any (is_guest a s) mid.entrants ≡ true → count_at mid a s ≤ quota_of mid.seats s
    feasible s some =
        let one = list_any_gives (is_guest a s) mid.entrants some in
        let guest = guest_gives a s one.1 one.3 in
        elim (cases_Bool (list_any (is_guest a s) now.entrants)) [
          | inl new ↦ omega (arith, stable.feasible s new, counted s, resumed.same s)
          | inr none ↦
              let stay : (k : ℕ) (e : Candidate) → slice_get mid.entrants k ≡ Some e → has (a e.child) s ≡ true → has (best e.child) s ≡ true =
              λ k e ek at. (
              let d = then k e ek in
              let there : a d.entrant.child ≡ Some s = ap a d.held.child ∙ (has_tells (a e.child) s).0 at in
              elim (cases_Bool (is_tenant d.entrant s)) [
                | inl tenant ↦ sym (ap (λ o. has o s) d.held.tenant) ∙ tenant
                | inr free ↦ absurd (false≢true (sym (list_any_not (is_guest a s) now.entrants d.index d.entrant none d.at) ∙ guest_from a s d.entrant there free))
              ]) in
              let fewer = count_upto (λ (e : Candidate). has (best e.child) s) (λ (e : Candidate). has (a e.child) s) mid.entrants stay in
              let kept = (has_tells (best one.1.child) s).0 (stay one.0 one.1 one.2 (has_true (a one.1.child) s guest.0)) in
              let all = resumed.stable.feasible s (list_any_of (is_guest best s) m.entrants (l one.0 one.1 one.2) one.1 (el one.0 one.1 one.2) (guest_from best s one.1 kept guest.1)) in
              omega (arith, fewer, resumed.fewer (λ n. has (best n) s), all, resumed.more s)
        ]

    unblocked : (k : ℕ) (e : Candidate) → slice_get mid.entrants k ≡ Some e → IsContent mid a e
    unblocked k e ek s = elim (cases_Bool (prefers a e s)) [
      | inr none ↦ ap (λ p. p && (is_tenant e s || (nat_lt (count_at mid a s) (quota_of mid.seats s) || list_any (ranks_after a s e) mid.entrants))) none
      | inl wished ↦ full wished
    ]
      where
        full : prefers a e s ≡ true → (prefers a e s && (is_tenant e s || (nat_lt (count_at mid a s) (quota_of mid.seats s) || list_any (ranks_after a s e) mid.entrants))) ≡ false
        full wished =
            let less : preference_rank e.list s < assigned_rank e.list (a e.child) = ltb-true _ _ wished in
            let before : preference_rank e.list s < assigned_rank e.list (best e.child) = omega (arith, less, not_worse k e ek) in
            let d = then k e ek in
            let old_parts = not_blocked (prefers best e s) (is_tenant e s) (nat_lt (count_at m best s) (quota_of m.seats s)) (list_any (ranks_after best s e) m.entrants)
            (at_All (IsContent m best) m.entrants (l k e ek) e resumed.stable.unblocked (el k e ek) s) (lt-ltb _ _ before) in
            let still : prefers a d.entrant s ≡ true = lt-ltb _ _ (omega (arith, less, rank_kept k e ek, d.held.upto s (omega (arith, before)))) in
            let parts = not_blocked (prefers a d.entrant s) (is_tenant d.entrant s) (nat_lt (count_at now a s) (quota_of now.seats s)) (list_any (ranks_after a s d.entrant) now.entrants)
            (at_All (IsContent now a) now.entrants d.index d.entrant stable.unblocked d.at s) still in
            let room : nat_lt (count_at mid a s) (quota_of mid.seats s) ≡ false = sym (λ i. nat_lt (counted s i) (resumed.same s i)) ∙ parts.1 in
            let behind : list_any (ranks_after a s e) mid.entrants ≡ false = elim (cases_Bool (list_any (ranks_after a s e) mid.entrants)) [
              | inr none ↦ none
              | inl some ↦ absurd (
                  let one = list_any_gives (ranks_after a s e) mid.entrants some in
                  let g = one.1 in
                  let both = and_parts (is_guest a s g) (ranks_before s e g) one.3 in
                  let guest = guest_gives a s g both.0 in
                  elim (cases_Bool (has (best g.child) s)) [
                    | inl there ↦
                        let was : ranks_after best s e g ≡ true = and_from (is_guest best s g) (ranks_before s e g) (guest_from best s g ((has_tells (best g.child) s).0 there) guest.1) both.1 in
                        false≢true (sym old_parts.2 ∙ list_any_of (ranks_after best s e) m.entrants (l one.0 g one.2) g (el one.0 g one.2) was)
                    | inr away ↦
                        let h = then one.0 g one.2 in
                        let free : is_tenant h.entrant s ≡ false = ap (λ o. has o s) h.held.tenant ∙ away in
                        let keys = h.held.keys s (ranked one.0 g one.2 a s (not_worse one.0 g one.2) (on_whole one.0 g one.2 s guest.0) guest.0 away) in
                        let order : ranks_before s d.entrant h.entrant ≡ true = (λ i. both_precede (d.held.keys s before i) (keys i)) ∙ both.1 in
                        let is : ranks_after a s d.entrant h.entrant ≡ true =
                        and_from (is_guest a s h.entrant) (ranks_before s d.entrant h.entrant) (guest_from a s h.entrant (ap a h.held.child ∙ guest.0) free) order in
                        false≢true (sym parts.2 ∙ list_any_of (ranks_after a s d.entrant) now.entrants h.index h.entrant h.at is)
                  ])
            ] in
            λ i. wished i && (old_parts.0 i || (room i || behind i))

    -- what is stable now is stable among those who remain
    pub stable_before : IsStable mid a
    stable_before = record {
      acceptable = All_at (λ (e : Candidate). IfSome (a e.child) (λ s. preference_rank e.list s < length e.list)) mid.entrants (λ k e ek. given_on_list k e ek (a e.child) refl);
      feasible = feasible;
      unblocked = All_at (IsContent mid a) mid.entrants unblocked;
    }

-- where nobody left and the places are the same, each entrant has what it was given
pub keeps_all : (m now : Market) (best a : Allocation) → IsBest m best → now.seats ≡ m.seats → AllZip (IsSettled best) m.entrants now.entrants → IsStable now a
    → (k : ℕ) (e : Candidate) → slice_get m.entrants k ≡ Some e → a e.child ≡ best e.child
keeps_all m now best a b seats settled stable k e ek =
    let stays : ℕ → Bool = λ n. true in
    let resumed : IsResumed m m now stays best = record {
      stable = b.stable;
      among = λ i x xi. (i, xi);
      fewer = λ test. omega arith;
      more = λ s. omega arith;
      same = λ s. ap (λ xs. quota_of xs s) seats;
      gone = λ j f fj away. absurd (false≢true (sym away));
      settled = subst (AllZip (IsSettled best) m.entrants) (sym (all_left now.entrants)) settled;
    } in
    let before = stable_before m m now stays best resumed a stable in
    let least = at_All (λ (x : Candidate). assigned_rank x.list (best x.child) ≤ assigned_rank x.list (a x.child)) m.entrants k e (b.none_better a before) ek in
    same_by_rank m best a k e b.stable.acceptable before.acceptable ek (omega (arith, least, not_worse m m now stays best resumed a stable k e ek))
