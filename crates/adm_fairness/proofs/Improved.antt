-- A child never loses by ranking higher.
use Rattle.std.proofs.Common.{◌≡◌, ◌≢◌, ◌∙◌, ap, sym, subst, refl, cond, Bool, true, false, not, ◌&&◌, ◌||◌, ◌==◌, ℕ, ◌+◌, ◌<◌, ◌≤◌, List, [], ◌∷◌, length, Option, Some, None, inl, inr, arith, length-set}
use Rattle.std.specs.Prelude.{bytes_eq, IfSome, nat_lt, option_map}
use Rattle.std.specs.List.{slice_get, list_any}
use Rattle.std.proofs.lemmas.Bool.{cases_Bool, cases_eq, cases_order, false≢true, and_parts, and_from, eq-eqb, eqb-true, ltb-true}
use Rattle.std.proofs.lemmas.Bool.Decides.{nat_tests}
use Rattle.std.proofs.lemmas.Option.{same_Some, none-some, slice_get_within}
use Rattle.std.proofs.lemmas.Slice.Eq.{bytes_eq-Decides}
use Rattle.adm_types.specs.Code.{has}
use Rattle.adm_rank.specs.declared.keys.RankKey.{RankKey}
use Rattle.adm_rank.specs.Ranking.{precedes}
use Rattle.adm_match.specs.declared.problem.Wish.{Wish}
use Rattle.adm_match.specs.declared.problem.Seats.{Seats}
use Rattle.adm_match.specs.Market.{Code, Candidate, Market, preference_rank, assigned_rank, is_tenant, key_at, both_precede, ranks_before, quota_of, first_fault}
use Rattle.adm_match.specs.Stability.{Allocation, count_at, is_guest, prefers, ranks_after, blocks, IsContent, IsStable, IsBest}
use Rattle.adm_match.specs.Distinct.{Distinct}
use Rattle.adm_match.proofs.Posed.{posed, child_once}
use Rattle.adm_match.proofs.Distinct.{distinct}
use Rattle.adm_match.proofs.FoundWishes.{rank_within}
use Rattle.adm_match.proofs.Moved.{Differs, set_here, set_there, replaced}
use Rattle.adm_match.proofs.NoGain.{Listing, no_gain}
use Rattle.adm_match.proofs.Placed.{on_list}
use Rattle.adm_match.proofs.RanksAndBlocks.{at_All, All_at, list_any_of, list_any_gives, wish_at_rank, guest_from, guest_gives}
use Rattle.adm_match.proofs.Relisted.{seated, tenant_last}
use Rattle.adm_match.proofs.SideBySide.{count_beside}
use Rattle.adm_round.proofs.ListedSchools.{code_self}
use Rattle.adm_fairness.specs.Improvements.{RanksNoLower, IsRaised, RaisesChild, NoLossByRank}
use Rattle.adm_fairness.proofs.Codes.{not_blocked, rank_in, rank_wishes, length_wishes}
use Rattle.adm_fairness.proofs.Beside.{zip_length, zip_there, none_there}

-- ---- keys

-- before a key that is not after another is before the other
before_both : (d w key : RankKey) → precedes d key ≡ true → precedes w key ≡ false → precedes d w ≡ true
before_both d w key before none = grind (arith, nat_tests)

-- what holds of both keys, where both are there
both_keys : (one other : Option RankKey) (w key : RankKey) → one ≡ Some w → other ≡ Some key → IfSome one (λ was. IfSome other (λ now. precedes was now ≡ false)) → precedes w key ≡ false
both_keys None other w key is is' h = absurd (none-some w is)
both_keys (Some was) None w key is is' h = absurd (none-some key is')
both_keys (Some was) (Some now) w key is is' h = (λ i. precedes (sym (same_Some was w is) i) (sym (same_Some now key is') i)) ∙ h

module _ (m now : Market) (child : ℕ) (best a : Allocation) (fits : first_fault m ≡ None) (fits' : first_fault now ≡ None) (raises : RaisesChild child m now)
    (is_best : IsBest now best) (stable : IsStable m a) (k : ℕ) (e : Candidate) (ek : slice_get m.entrants k ≡ Some e) (is : e.child ≡ child) where
  apart : Distinct m
  apart = distinct m (posed m fits)

  apart' : Distinct now
  apart' = distinct now (posed now fits')

  found : (f : Candidate) × (slice_get now.entrants k ≡ Some f) × IsRaised child e f
  found = zip_there (IsRaised child) m.entrants now.entrants k e raises.entrants ek

  f : Candidate
  f = found.0

  fk : slice_get now.entrants k ≡ Some f
  unfolding f
  fk = found.1

  up : RanksNoLower e f
  unfolding f
  up = found.2.raised (eq-eqb e.child child is)

  -- the same schools at the same ranks
  same_rank_at : (s : Code) → preference_rank f.list s ≡ preference_rank e.list s
  same_rank_at s = rank_wishes f.list s ∙ (ap (λ (codes : List Code). rank_in codes s) up.schools ∙ sym (rank_wishes e.list s))

  same_length : length f.list ≡ length e.list
  same_length = length_wishes f.list ∙ (ap (λ (codes : List Code). length codes) up.schools ∙ sym (length_wishes e.list))

  same_assigned : (o : Option Code) → assigned_rank f.list o ≡ assigned_rank e.list o
  same_assigned None = same_length
  same_assigned (Some s) = same_rank_at s

  -- each other entrant is as it was
  other_same : (j : ℕ) → j ≢ k → slice_get now.entrants j ≡ slice_get m.entrants j
  other_same j apart_j = by (slice_get m.entrants j) refl
    where
      by : (o : Option Candidate) → slice_get m.entrants j ≡ o → slice_get now.entrants j ≡ slice_get m.entrants j
      by None at = none_there (IsRaised child) m.entrants now.entrants j raises.entrants at ∙ sym at
      by (Some d) at =
          let it = zip_there (IsRaised child) m.entrants now.entrants j d raises.entrants at in
          let differs : d.child == child ≡ false = elim (cases_Bool (d.child == child)) [
            | inr miss ↦ miss
            | inl hit ↦ absurd (elim (cases_order j k) [
              | inl same ↦ apart_j same
              | inr order ↦ elim order [
                | inl less ↦ child_once m (posed m fits) j k d e at ek less (eqb-true d.child child hit ∙ sym is)
                | inr more ↦ child_once m (posed m fits) k j e d ek at more (is ∙ sym (eqb-true d.child child hit))
              ]
            ])
          ] in
          it.1 ∙ (ap Some (it.2.others differs) ∙ sym at)

  module _ (s : Code) (at : a e.child ≡ Some s) where
    inside : preference_rank e.list s < length e.list
    inside = on_list m a k e s stable.acceptable ek at

    was : (w : Wish) × (slice_get e.list (preference_rank e.list s) ≡ Some w) × (w.school ≡ s)
    was = wish_at_rank e.list s inside

    was_key : key_at e.list s ≡ Some was.0.key
    was_key = ap (key_at e.list) (sym was.2) ∙ apart.key_of k e (preference_rank e.list s) was.0 ek was.1

    inside' : preference_rank f.list s < length f.list
    inside' = omega (arith, inside, same_rank_at s, same_length)

    is_now : (w : Wish) × (slice_get f.list (preference_rank f.list s) ≡ Some w) × (w.school ≡ s)
    is_now = wish_at_rank f.list s inside'

    now_key : key_at f.list s ≡ Some is_now.0.key
    now_key = ap (key_at f.list) (sym is_now.2) ∙ apart'.key_of k f (preference_rank f.list s) is_now.0 fk is_now.1

    not_later : precedes was.0.key is_now.0.key ≡ false
    not_later = both_keys (key_at e.list s) (key_at f.list s) was.0.key is_now.0.key was_key now_key (up.keys s)

    -- the child with this school alone
    abbrev alone : Candidate
    alone = record { child = e.child; list = record { school = s; key = is_now.0.key } ∷ []; tenant = cond (is_tenant e s) (Some s) None }

    abbrev with_one : Market
    with_one = replaced now k alone

    differs : Differs m with_one k e alone
    differs = record {
      seats = raises.seats;
      same = length-set now.entrants k alone ∙ zip_length (IsRaised child) m.entrants now.entrants raises.entrants;
      here = ek;
      here' = set_here now.entrants k alone (slice_get_within now.entrants k f fk);
      others = λ j apart_j. set_there now.entrants k j alone apart_j ∙ other_same j apart_j;
      child = refl;
    }

    differs' : Differs now with_one k f alone
    differs' = record {
      seats = refl;
      same = length-set now.entrants k alone;
      here = fk;
      here' = set_here now.entrants k alone (slice_get_within now.entrants k f fk);
      others = λ j apart_j. set_there now.entrants k j alone apart_j;
      child = sym up.child;
    }

    alone_key : key_at alone.list s ≡ Some is_now.0.key
    alone_key = ap (λ b. option_map (λ (w : Wish). w.key) (cond b (Some (record { school = s; key = is_now.0.key })) None)) (code_self s)

    -- an entrant beside the one that it was
    pub record IsBeside (x y : Candidate) : Type 0 where
      pub child_is : x.child ≡ y.child
      pub guest : (t : Code) → is_guest a t x ≡ true → is_guest a t y ≡ true
      pub ranks : (t : Code) (d : Candidate) → is_guest a t x ≡ true → ranks_before t d x ≡ true → ranks_before t d y ≡ true

    guest_was : (t : Code) → is_guest a t alone ≡ true → is_guest a t e ≡ true
    guest_was t guest =
        let parts = guest_gives a t alone guest in
        let same : s ≡ t = same_Some s t (sym at ∙ parts.0) in
        guest_from a t e parts.0 (subst (λ (c : Code). is_tenant e c ≡ false) same (free (is_tenant e s) refl (subst (λ (c : Code). has (cond (is_tenant e s) (Some s) None) c ≡ false) (sym same) parts.1)))
      where
        free : (b : Bool) → is_tenant e s ≡ b → has (cond b (Some s) None) s ≡ false → is_tenant e s ≡ false
        free true tenant none = absurd (false≢true (sym none ∙ code_self s))
        free false tenant none = tenant

    ranks_was : (t : Code) (d : Candidate) → is_guest a t alone ≡ true → ranks_before t d alone ≡ true → ranks_before t d e ≡ true
    ranks_was t d guest before =
        let parts = guest_gives a t alone guest in
        let same : s ≡ t = same_Some s t (sym at ∙ parts.0) in
        subst (λ (c : Code). ranks_before c d e ≡ true) same (by (key_at d.list s) (subst (λ (c : Code). both_precede (key_at d.list c) (key_at alone.list c) ≡ true) (sym same) before))
      where
        by : (o : Option RankKey) → both_precede o (key_at alone.list s) ≡ true → both_precede o (key_at e.list s) ≡ true
        by None before = absurd (false≢true before)
        by (Some key) before =
            ap (both_precede (Some key)) was_key ∙ before_both key was.0.key is_now.0.key (ap (both_precede (Some key)) (sym alone_key) ∙ before) not_later

    beside_at : (j : ℕ) (x y : Candidate) → slice_get with_one.entrants j ≡ Some x → slice_get m.entrants j ≡ Some y → IsBeside x y
    beside_at j x y xj yj = elim (cases_eq j k) [
      | inl same ↦
          let x_is : alone ≡ x = same_Some alone x (sym differs.here' ∙ (ap (slice_get with_one.entrants) (sym same) ∙ xj)) in
          let y_is : e ≡ y = same_Some e y (sym ek ∙ (ap (slice_get m.entrants) (sym same) ∙ yj)) in
          subst (λ (z : Candidate). IsBeside z y) x_is (subst (IsBeside alone) y_is (record { child_is = refl; guest = guest_was; ranks = ranks_was }))
      | inr other ↦
          let same : x ≡ y = same_Some x y (sym xj ∙ (differs.others j other ∙ yj)) in
          subst (IsBeside x) same (record { child_is = refl; guest = λ t h. h; ranks = λ t d guest h. h })
    ]

    -- the one beside an index
    was_at : (j : ℕ) (x : Candidate) → slice_get with_one.entrants j ≡ Some x → (y : Candidate) × (slice_get m.entrants j ≡ Some y) × IsBeside x y
    was_at j x xj = elim (cases_eq j k) [
      | inl same ↦ let yj = ap (slice_get m.entrants) same ∙ ek in (e, yj, beside_at j x e xj yj)
      | inr other ↦ let yj = sym (differs.others j other) ∙ xj in (x, yj, beside_at j x x xj yj)
    ]

    same_count : (t : Code) → count_at with_one a t ≡ count_at m a t
    same_count t = count_beside (λ (x : Candidate). has (a x.child) t) (λ (x : Candidate). has (a x.child) t) with_one.entrants m.entrants differs.same
        (λ j x y xj yj. ap (λ n. has (a n) t) (beside_at j x y xj yj).child_is)

    -- a test that passes there passed before
    any_was : (p q : Candidate → Bool) → ((x y : Candidate) → IsBeside x y → p x ≡ true → q y ≡ true) → list_any p with_one.entrants ≡ true → list_any q m.entrants ≡ true
    any_was p q step some =
        let one = list_any_gives p with_one.entrants some in
        let y = was_at one.0 one.1 one.2 in
        list_any_of q m.entrants one.0 y.0 y.1 (step one.1 y.0 y.2 one.3)

    still_content : (j : ℕ) (x : Candidate) → slice_get with_one.entrants j ≡ Some x → IsContent with_one a x
    still_content j x xj t = elim (cases_eq j k) [
      | inl same ↦
          let x_is : alone ≡ x = same_Some alone x (sym differs.here' ∙ (ap (slice_get with_one.entrants) (sym same) ∙ xj)) in
          subst (λ (z : Candidate). blocks with_one a z t ≡ false) x_is (nothing_better t)
      | inr other ↦
          let yj : slice_get m.entrants j ≡ Some x = sym (differs.others j other) ∙ xj in
          let was_content = at_All (IsContent m a) m.entrants j x stable.unblocked yj t in
          elim (cases_Bool (prefers a x t)) [
            | inr indifferent ↦ ap (λ b. b && (is_tenant x t || (nat_lt (count_at with_one a t) (quota_of with_one.seats t) || list_any (ranks_after a t x) with_one.entrants))) indifferent
            | inl wished ↦
                let parts = not_blocked (prefers a x t) (is_tenant x t) (nat_lt (count_at m a t) (quota_of m.seats t)) (list_any (ranks_after a t x) m.entrants) was_content wished in
                let none : list_any (ranks_after a t x) with_one.entrants ≡ false = elim (cases_Bool (list_any (ranks_after a t x) with_one.entrants)) [
                  | inr out ↦ out
                  | inl some ↦ absurd (false≢true (sym parts.2 ∙ any_was (ranks_after a t x) (ranks_after a t x) (λ z y beside after'.
                      let both = and_parts (is_guest a t z) (ranks_before t x z) after' in
                      and_from (is_guest a t y) (ranks_before t x y) (beside.guest t both.0) (beside.ranks t x both.0 both.1)) some))
                ] in
                (λ i. prefers a x t && (parts.0 i || (nat_lt (same_count t i) (quota_of (raises.seats i) t) || none i)))
                ∙ (ap (λ b. prefers a x t && (false || (b || false))) parts.1 ∙ ap (λ b. b && false) wished)
          ]
    ]
      where
        nothing_better : (t : Code) → blocks with_one a alone t ≡ false
        nothing_better t =
            let own : preference_rank alone.list s ≡ 0 = ap (λ b. cond (not b) (1 + 0) 0) (code_self s) in
            let none : prefers a alone t ≡ false = elim (cases_Bool (prefers a alone t)) [
              | inr out ↦ out
              | inl wished ↦ absurd (omega (arith, own, ltb-true _ _ (sym (ap (λ o. nat_lt (preference_rank alone.list t) (assigned_rank alone.list o)) at) ∙ wished)))
            ] in
            ap (λ b. b && (is_tenant alone t || (nat_lt (count_at with_one a t) (quota_of with_one.seats t) || list_any (ranks_after a t alone) with_one.entrants))) none

    still_stable : IsStable with_one a
    still_stable = record {
      acceptable = All_at (λ x. IfSome (a x.child) (λ t. preference_rank x.list t < length x.list)) with_one.entrants (λ j x xj. elim (cases_eq j k) [
        | inl same ↦
            let x_is : alone ≡ x = same_Some alone x (sym differs.here' ∙ (ap (slice_get with_one.entrants) (sym same) ∙ xj)) in
            subst (λ (z : Candidate). IfSome (a z.child) (λ t. preference_rank z.list t < length z.list)) x_is
            (subst (λ o. IfSome o (λ t. preference_rank alone.list t < length alone.list)) (sym at) (omega (arith, ap {B = ℕ} (λ b. cond (not b) (1 + 0) 0) (code_self s))))
        | inr other ↦ at_All (λ x. IfSome (a x.child) (λ t. preference_rank x.list t < length x.list)) m.entrants j x stable.acceptable (sym (differs.others j other) ∙ xj)
      ]);
      feasible = λ t some.
          let few = stable.feasible t (any_was (is_guest a t) (is_guest a t) (λ x y beside guest. beside.guest t guest) some) in
          omega (arith, few, same_count t, ap (λ (x : List Seats). quota_of x t) raises.seats);
      unblocked = All_at (IsContent with_one a) with_one.entrants still_content;
    }

    listing : Listing f alone
    listing = record {
      guest = λ t free. elim (cases_Bool (is_tenant alone t)) [
        | inr out ↦ out
        | inl there ↦ absurd (false≢true (sym free ∙ tenant_still (is_tenant e s) refl t there))
      ];
      own = λ t on on'.
          let same : s ≡ t = on_alone t on' in
          subst (λ (c : Code). key_at alone.list c ≡ key_at f.list c) same (alone_key ∙ sym now_key);
    }
      where
        tenant_still : (b : Bool) → is_tenant e s ≡ b → (t : Code) → has (cond b (Some s) None) t ≡ true → is_tenant f t ≡ true
        tenant_still true tenant t there =
            let same : s ≡ t = (bytes_eq-Decides s t).0 there in
            ap (λ o. has o t) up.tenant ∙ (ap (is_tenant e) (sym same) ∙ tenant)
        tenant_still false tenant t there = absurd (false≢true there)

        on_alone : (t : Code) → preference_rank alone.list t < length alone.list → s ≡ t
        on_alone t less = elim (cases_Bool (bytes_eq s t)) [
          | inl hit ↦ (bytes_eq-Decides s t).0 hit
          | inr miss ↦ absurd (omega (arith, less, ap {B = ℕ} (λ b. cond (not b) (1 + 0) 0) miss))
        ]

    not_worse : assigned_rank f.list (best f.child) ≤ assigned_rank f.list (a f.child)
    not_worse =
        let p = posed now fits' in
        no_gain now with_one k f alone best a differs' listing apart' (seated now p) (tenant_last now p k f fk) is_best still_stable

  no_worse : assigned_rank e.list (best child) ≤ assigned_rank e.list (a child)
  no_worse = by (a e.child) refl
    where
      by : (o : Option Code) → a e.child ≡ o → assigned_rank e.list (best child) ≤ assigned_rank e.list (a child)
      by None at = omega (arith, rank_within e.list (best child), ap (assigned_rank e.list) (ap a (sym is) ∙ at))
      by (Some s) at =
          let less = not_worse s at in
          omega (
            arith,
            less,
            same_assigned (best f.child),
            same_assigned (a f.child),
            ap (λ n. assigned_rank e.list (best n)) (up.child ∙ is),
            ap (λ n. assigned_rank e.list (a n)) (up.child ∙ is),
          )

pub no_loss_by_rank_law : NoLossByRank
no_loss_by_rank_law m now child best a fits fits' raises is_best stable =
    All_at (λ e. e.child ≡ child → assigned_rank e.list (best child) ≤ assigned_rank e.list (a child)) m.entrants
    (λ k e ek is. no_worse m now child best a fits fits' raises is_best stable k e ek is)
