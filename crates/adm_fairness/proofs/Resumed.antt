-- Rounds that follow one another give what the last would give as the first.
use Rattle.std.proofs.Common.{◌≡◌, ◌≢◌, ◌∙◌, ap, sym, subst, refl, cond, Bool, true, false, ◌&&◌, ◌||◌, ℕ, ◌+◌, ◌<◌, ◌≤◌, List, [], ◌∷◌, length, take, Option, Some, None, inl, inr, arith}
use Rattle.std.specs.Prelude.{IfSome, nat_lt, filter}
use Rattle.std.specs.List.{AllZip, list_any, slice_get}
use Rattle.std.proofs.lemmas.Bool.{cases_Bool, cases_order, false≢true, and_parts, and_from, lt-ltb, ltb-true}
use Rattle.std.proofs.lemmas.Option.{none-some, same_Some}
use Rattle.adm_types.specs.Code.{has}
use Rattle.adm_match.specs.declared.problem.Wish.{Wish}
use Rattle.adm_match.specs.declared.problem.Seats.{Seats}
use Rattle.adm_match.specs.Market.{Code, Candidate, Market, preference_rank, assigned_rank, is_tenant, key_at, both_precede, ranks_before, quota_of}
use Rattle.adm_match.specs.Stability.{Allocation, count_at, is_guest, prefers, ranks_after, IsContent, IsStable, IsBest}
use Rattle.adm_match.specs.Turns.{IsWithin}
use Rattle.adm_match.specs.Distinct.{Distinct}
use Rattle.adm_match.proofs.Beginning.{rank_take, rank_taken, key_take}
use Rattle.adm_match.proofs.Distinct.{distinct}
use Rattle.adm_match.proofs.Existence.{best_ahead}
use Rattle.adm_match.proofs.FoundWishes.{rank_within}
use Rattle.adm_match.proofs.Placed.{on_list}
use Rattle.adm_match.proofs.Posed.{posed}
use Rattle.adm_match.proofs.RanksAndBlocks.{has_false, at_All, All_at, list_any_of, list_any_gives, guest_from, guest_gives}
use Rattle.adm_fairness.specs.Anew.{remaining, settled_at, settled, NextRound, anew, given_last, AreHeld, RoundsAnew}
use Rattle.adm_fairness.proofs.Codes.{not_blocked}
use Rattle.adm_fairness.proofs.Settled.{IsSettled, IsResumed, IsThen, now_of, then_of, count_now, tenant_kept, same_given, kept_on, ranked, rank_kept, stable_before}
use Rattle.adm_fairness.proofs.Zipped.{zip_images, left_at, all_left, order_left, count_fewer, take_upto, take_whole, take_length}

module _ (m mid now : Market) (stays : ℕ → Bool) (best : Allocation) (resumed : IsResumed m mid now stays best) where
  -- ---- an allocation that is stable among those who remain, and gives nobody what it wants less than what it was given

  module _ (x : Allocation) (stable : IsStable mid x) (least : (k : ℕ) (e : Candidate) → slice_get mid.entrants k ≡ Some e → assigned_rank e.list (x e.child) ≤ assigned_rank e.list (best e.child)) where
    -- to those who remain alone
    abbrev y : Allocation
    y n = cond (stays n) (x n) None

    y_gone : (j : ℕ) (f : Candidate) → slice_get now.entrants j ≡ Some f → stays f.child ≡ false → y f.child ≡ None
    y_gone j f fj away = ap (λ b. cond b (x f.child) None) away

    y_given : (e f : Candidate) → IsSettled best e f → stays f.child ≡ true → y f.child ≡ x e.child
    y_given e f held remains = ap (λ b. cond b (x f.child) None) remains ∙ ap x held.child

    counted : (s : Code) → count_at now y s ≡ count_at mid x s
    counted s = count_now m mid now stays best resumed y x s y_gone (λ k e f ek held remains. y_given e f held remains)

    rank_given : (k : ℕ) (e : Candidate) (ek : slice_get mid.entrants k ≡ Some e) (f : Candidate) (held : IsSettled best e f) → stays f.child ≡ true → assigned_rank f.list (y f.child) ≡ assigned_rank e.list (x e.child)
    rank_given k e ek f held remains =
        ap (assigned_rank f.list) (y_given e f held remains) ∙ same_given m mid now stays best resumed k e ek f held (x e.child) (least k e ek)

    acceptable : (j : ℕ) (f : Candidate) → slice_get now.entrants j ≡ Some f → IfSome (y f.child) (λ s. preference_rank f.list s < length f.list)
    acceptable j f fj = elim (then_of m mid now stays best resumed j f fj) [
      | inl away ↦ subst (λ o. IfSome o (λ s. preference_rank f.list s < length f.list)) (sym (y_gone j f fj away)) tt
      | inr was ↦ subst (λ o. IfSome o (λ s. preference_rank f.list s < length f.list)) (sym (y_given was.entrant f was.held was.remains)) (by was (x was.entrant.child) refl)
    ]
      where
        by : (was : IsThen m mid now stays best resumed f) (o : Option Code) → x was.entrant.child ≡ o → IfSome o (λ s. preference_rank f.list s < length f.list)
        by was None is = tt
        by was (Some s) is =
            kept_on m mid now stays best resumed was.index was.entrant was.at f was.held s (omega (arith, least was.index was.entrant was.at, ap (assigned_rank was.entrant.list) is))
            (on_list mid x was.index was.entrant s stable.acceptable was.at is)

    -- whom a school has that was not given it is no tenant of before
    guest_before : (k : ℕ) (e : Candidate) → slice_get mid.entrants k ≡ Some e → (s : Code) → x e.child ≡ Some s → has (best e.child) s ≡ false → is_guest x s e ≡ true
    guest_before k e ek s is away = elim (cases_Bool (is_tenant e s)) [
      | inr free ↦ guest_from x s e is free
      | inl tenant ↦ absurd (omega (
        arith,
        tenant_kept m mid now stays best resumed k e ek s tenant,
        ranked m mid now stays best resumed k e ek x s (least k e ek) (on_list mid x k e s stable.acceptable ek is) is away,
      ))
    ]

    feasible : (s : Code) → list_any (is_guest y s) now.entrants ≡ true → count_at now y s ≤ quota_of now.seats s
    feasible s some =
        let one = list_any_gives (is_guest y s) now.entrants some in
        let guest = guest_gives y s one.1 one.3 in
        elim (then_of m mid now stays best resumed one.0 one.1 one.2) [
          | inl away ↦ absurd (none-some s (sym (y_gone one.0 one.1 one.2 away) ∙ guest.0))
          | inr was ↦
              let e = was.entrant in
              let is : x e.child ≡ Some s = sym (y_given e one.1 was.held was.remains) ∙ guest.0 in
              let away : has (best e.child) s ≡ false = sym (ap (λ o. has o s) was.held.tenant) ∙ guest.1 in
              let most = stable.feasible s (list_any_of (is_guest x s) mid.entrants was.index e was.at (guest_before was.index e was.at s is away)) in
              omega (arith, most, counted s, resumed.same s)
        ]

    unblocked : (j : ℕ) (f : Candidate) → slice_get now.entrants j ≡ Some f → IsContent now y f
    unblocked j f fj s = elim (cases_Bool (prefers y f s)) [
      | inr none ↦ ap (λ p. p && (is_tenant f s || (nat_lt (count_at now y s) (quota_of now.seats s) || list_any (ranks_after y s f) now.entrants))) none
      | inl wished ↦ elim (then_of m mid now stays best resumed j f fj) [
        | inl away ↦ absurd (
            let less : preference_rank f.list s < assigned_rank f.list (y f.child) = ltb-true _ _ wished in
            let upto = rank_within f.list (y f.child) in
            let none : length f.list ≡ 0 = ap length (resumed.gone j f fj away) in
            omega (arith, less, upto, none))
        | inr was ↦ full was wished
      ]
    ]
      where
        full : IsThen m mid now stays best resumed f → prefers y f s ≡ true → (prefers y f s && (is_tenant f s || (nat_lt (count_at now y s) (quota_of now.seats s) || list_any (ranks_after y s f) now.entrants))) ≡ false
        full was wished =
            let e = was.entrant in
            let i = was.index in
            let less : preference_rank f.list s < assigned_rank f.list (y f.child) = ltb-true _ _ wished in
            let same = was.held.back s (omega (arith, less, rank_within f.list (y f.child))) in
            let here : preference_rank e.list s < assigned_rank e.list (x e.child) = omega (arith, less, same, rank_given i e was.at f was.held was.remains) in
            let before : preference_rank e.list s < assigned_rank e.list (best e.child) = omega (arith, here, least i e was.at) in
            let parts = not_blocked (prefers x e s) (is_tenant e s) (nat_lt (count_at mid x s) (quota_of mid.seats s)) (list_any (ranks_after x s e) mid.entrants)
            (at_All (IsContent mid x) mid.entrants i e stable.unblocked was.at s) (lt-ltb _ _ here) in
            let free : is_tenant f s ≡ false = has_false f.tenant s (λ is. absurd (omega (arith, before, ap (assigned_rank e.list) (sym was.held.tenant ∙ is)))) in
            let room : nat_lt (count_at now y s) (quota_of now.seats s) ≡ false = (λ i. nat_lt (counted s i) (resumed.same s i)) ∙ parts.1 in
            let behind : list_any (ranks_after y s f) now.entrants ≡ false = elim (cases_Bool (list_any (ranks_after y s f) now.entrants)) [
              | inr none ↦ none
              | inl some ↦ absurd (
                  let one = list_any_gives (ranks_after y s f) now.entrants some in
                  let both = and_parts (is_guest y s one.1) (ranks_before s f one.1) one.3 in
                  let guest = guest_gives y s one.1 both.0 in
                  elim (then_of m mid now stays best resumed one.0 one.1 one.2) [
                    | inl gone ↦ none-some s (sym (y_gone one.0 one.1 one.2 gone) ∙ guest.0)
                    | inr old ↦
                        let g = old.entrant in
                        let is : x g.child ≡ Some s = sym (y_given g one.1 old.held old.remains) ∙ guest.0 in
                        let away : has (best g.child) s ≡ false = sym (ap (λ o. has o s) old.held.tenant) ∙ guest.1 in
                        let keys = old.held.keys s (ranked m mid now stays best resumed old.index g old.at x s (least old.index g old.at) (on_list mid x old.index g s stable.acceptable old.at is) is away) in
                        let order : ranks_before s e g ≡ true = sym (λ i. both_precede (was.held.keys s before i) (keys i)) ∙ both.1 in
                        let after' : ranks_after x s e g ≡ true = and_from (is_guest x s g) (ranks_before s e g) (guest_before old.index g old.at s is away) order in
                        false≢true (sym parts.2 ∙ list_any_of (ranks_after x s e) mid.entrants old.index g old.at after')
                  ])
            ] in
            λ i. wished i && (free i || (room i || behind i))

    stable_now : IsStable now y
    stable_now = record {
      acceptable = All_at (λ (f : Candidate). IfSome (y f.child) (λ s. preference_rank f.list s < length f.list)) now.entrants acceptable;
      feasible = feasible;
      unblocked = All_at (IsContent now y) now.entrants unblocked;
    }

  -- ---- what is best now

  within : IsWithin mid m
  within = record {
    members = λ k e ek.
        let there = resumed.among k e ek in
        (there.0, e, there.1, record { child = refl; tenant = λ s. refl; rank = λ s less. refl; key = λ s less. refl; later = λ o. omega arith });
    counts = resumed.fewer;
    places = resumed.more;
  }

  -- what is best now is best among those who remain
  pub best_anew : Distinct mid → (again : Allocation) → IsBest now again → IsBest mid again
  best_anew d again b =
      let run = best_ahead mid d in
      let x = run.0 in
      let least : (k : ℕ) (e : Candidate) → slice_get mid.entrants k ≡ Some e → assigned_rank e.list (x e.child) ≤ assigned_rank e.list (best e.child) =
      λ k e ek. at_All (λ (e : Candidate). assigned_rank e.list (x e.child) ≤ assigned_rank e.list (best e.child)) mid.entrants k e (run.2 m within best resumed.stable) ek in
      record {
        stable = stable_before m mid now stays best resumed again b.stable;
        none_better = λ z other. All_at (λ (e : Candidate). assigned_rank e.list (again e.child) ≤ assigned_rank e.list (z e.child)) mid.entrants (λ k e ek.
            let d = now_of m mid now stays best resumed k e ek in
            let f = d.entrant in
            let first = at_All (λ (f : Candidate). assigned_rank f.list (again f.child) ≤ assigned_rank f.list (y x run.1.stable least f.child)) now.entrants d.index f
            (b.none_better (y x run.1.stable least) (stable_now x run.1.stable least)) d.at in
            let second = at_All (λ (e : Candidate). assigned_rank e.list (x e.child) ≤ assigned_rank e.list (z e.child)) mid.entrants k e (run.1.none_better z other) ek in
            omega (arith, first, second, rank_kept m mid now stays best resumed again b.stable k e ek, rank_given x run.1.stable least k e ek f d.held d.remains));
      }

-- ---- problems without those who left

-- entrants who remain can be distinguished as before
pub distinct_left : (m : Market) (stays : ℕ → Bool) (seats : List Seats) → Distinct m → Distinct (remaining stays seats m)
distinct_left m stays seats d =
    let remains : Candidate → Bool = λ e. stays e.child in
    let old : (k : ℕ) (e : Candidate) → slice_get (filter remains m.entrants) k ≡ Some e → (l : ℕ) × (slice_get m.entrants l ≡ Some e) =
    λ k e ek. (let found = left_at remains m.entrants k e ek in (found.0, found.1)) in
    let once : (i j : ℕ) (e c : Candidate) → slice_get (filter remains m.entrants) i ≡ Some e → slice_get (filter remains m.entrants) j ≡ Some c → i < j → e.child ≡ c.child → ⊥ =
    λ i j e c ei cj less same. (let two = order_left remains m.entrants i j e c ei cj less in d.children two.0 two.1 e c two.2 two.3 two.4 same) in
    record {
      well = record { own_rank = λ k e j w ek jw. d.well.own_rank (old k e ek).0 e j w (old k e ek).1 jw };
      children = once;
      key_of = λ k e j w ek jw. d.key_of (old k e ek).0 e j w (old k e ek).1 jw;
      keys = λ k l e c j i w z apart ek cl jw iz same free free' none.
          let a = old k e ek in
          let b = old l c cl in
          let differ : a.0 ≢ b.0 = λ is. (
          let equal : e ≡ c = same_Some e c (sym a.1 ∙ (ap (slice_get m.entrants) is ∙ b.1)) in
          elim (cases_order k l) [
            | inl here ↦ apart here
            | inr order ↦ elim order [
              | inl less ↦ once k l e c ek cl less (ap (λ (x : Candidate). x.child) equal)
              | inr more ↦ once l k c e cl ek more (sym (ap (λ (x : Candidate). x.child) equal))
            ]
          ]) in
          d.keys a.0 b.0 e c j i w z differ a.1 b.1 jw iz same free free' none;
    }

-- an entrant as tenant of what it was given
settles : (e : Candidate) (best : Allocation) (o : Option Code) → best e.child ≡ o → ((s : Code) → o ≡ Some s → preference_rank e.list s < length e.list) → IsSettled best e (settled_at o e)
settles e best None is on =
    let whole = take_whole e.list in
    record {
      child = refl;
      tenant = sym is;
      shorter = take_upto (length e.list) e.list;
      whole = λ _. ap length whole;
      there = λ s given. absurd (none-some s (sym is ∙ given));
      upto = λ s least. ap (λ (ws : List Wish). preference_rank ws s) whole;
      back = λ s less. sym (ap (λ (ws : List Wish). preference_rank ws s) whole);
      keys = λ s less. ap (λ (ws : List Wish). key_at ws s) whole;
    }
settles e best (Some t) is on =
    let n = preference_rank e.list t + 1 in
    let long : length (take n e.list) ≡ n = take_length n e.list (omega (arith, on t refl)) in
    let given : assigned_rank e.list (best e.child) ≡ preference_rank e.list t = ap (assigned_rank e.list) is in
    record {
      child = refl;
      tenant = sym is;
      shorter = take_upto n e.list;
      whole = λ none. absurd (none-some t (sym none ∙ is));
      there = λ s here.
          let same : t ≡ s = same_Some t s (sym is ∙ here) in
          omega (arith, rank_take e.list n s (omega (arith, ap (preference_rank e.list) same)), long, ap (preference_rank e.list) same);
      upto = λ s least. rank_take e.list n s (omega (arith, least, given));
      back = λ s less. sym (rank_take e.list n s (rank_taken e.list n s less));
      keys = λ s less. key_take e.list n s (omega (arith, less, given));
    }

-- one more round
resumes : (m : Market) (best : Allocation) (next : NextRound) → IsStable m best → ((s : Code) → quota_of m.seats s ≤ quota_of next.seats s)
    → IsResumed m (remaining next.stays next.seats m) (settled best (remaining next.stays next.seats m)) (λ n. true) best
resumes m best next stable more =
    let mid = remaining next.stays next.seats m in
    let remains : Candidate → Bool = λ e. next.stays e.child in
    let among : (k : ℕ) (e : Candidate) → slice_get mid.entrants k ≡ Some e → (l : ℕ) × (slice_get m.entrants l ≡ Some e) =
    λ k e ek. (let found = left_at remains m.entrants k e ek in (found.0, found.1)) in
    let now = settled best mid in
    let each : AllZip (IsSettled best) mid.entrants now.entrants = zip_images (IsSettled best) (λ (e : Candidate). settled_at (best e.child) e) mid.entrants (λ k e ek.
    settles e best (best e.child) refl (λ s is. on_list m best (among k e ek).0 e s stable.acceptable (among k e ek).1 is)) in
    record {
      stable = stable;
      among = among;
      fewer = λ test. count_fewer remains (λ (e : Candidate). test e.child) m.entrants;
      more = more;
      same = λ s. refl;
      gone = λ j f fj away. absurd (false≢true (sym away));
      settled = subst (AllZip (IsSettled best) mid.entrants) (sym (all_left now.entrants)) each;
    }

rounds_anew : (later : List NextRound) (m : Market) (best : Allocation) → Distinct m → IsBest m best → AreHeld m best later → IsBest (anew m later) (given_last best later)
rounds_anew [] m best d b held = b
rounds_anew (next ∷ later) m best d b held =
    let mid = remaining next.stays next.seats m in
    let d' = distinct_left m next.stays next.seats d in
    let b' = best_anew m mid (settled best mid) (λ n. true) best (resumes m best next b.stable held.0.places) d' next.gives held.0.best in
    rounds_anew later mid next.gives d' b' held.1

pub rounds_anew_law : RoundsAnew
rounds_anew_law m best later fits b held = rounds_anew later m best (distinct m (posed m fits)) b held
