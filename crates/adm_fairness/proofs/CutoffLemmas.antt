-- Cutoffs decide each stable allocation.
use Rattle.std.proofs.Common.{◌≡◌, ◌≢◌, ◌∙◌, ap, sym, subst, refl, cond, Bool, true, false, ◌&&◌, ◌||◌, ◌==◌, ℕ, ◌<◌, List, [], ◌∷◌, length, Option, Some, None, inl, inr, arith}
use Rattle.std.specs.Prelude.{◌⊎◌, is_some, IfSome, nat_lt, option_and_then}
use Rattle.std.specs.List.{slice_get, list_any}
use Rattle.std.proofs.lemmas.Bool.{cases_Bool, cases_lt, false≢true, ltb-false, ltb-true, lt-ltb}
use Rattle.std.proofs.lemmas.Bool.Decides.{nat_tests}
use Rattle.std.proofs.lemmas.Option.{same_Some, none-some, slice_get_within, slice_get-get_or, get_or_from_slice_get}
use Rattle.adm_rank.specs.declared.keys.RankKey.{RankKey}
use Rattle.adm_rank.specs.Ranking.{precedes}
use Rattle.adm_match.specs.declared.problem.Wish.{Wish}
use Rattle.adm_match.specs.Market.{Code, Candidate, Market, preference_rank, assigned_rank, is_tenant, key_at, both_precede, ranks_before, quota_of, first_fault}
use Rattle.adm_match.specs.Stability.{Allocation, IsAcceptable, count_at, is_guest, prefers, ranks_after, IsContent, IsStable}
use Rattle.adm_match.specs.Distinct.{Distinct}
use Rattle.adm_match.proofs.Posed.{posed, list_any_not}
use Rattle.adm_match.proofs.Distinct.{distinct}
use Rattle.adm_match.proofs.RanksAndBlocks.{at_All, All_at, wish_at_rank, same_rank, guest_from, guest_gives}
use Rattle.adm_match.proofs.FoundWishes.{rank_within}
use Rattle.adm_match.proofs.Placed.{on_list}
use Rattle.adm_cutoffs.specs.Reasons.{reason_after}
use Rattle.adm_cutoffs.specs.declared.reasons.Reason.TheVariants.{ByClass, ByDistance, ByLot}
use Rattle.adm_fairness.specs.Cutoffs.{Cutoff, Open, Last, Closed, IsCutoff, reason_by, refusal_at, IsDecided, CutoffsDecide, SameCutoffsSamePlaces, SomeCutoff}
use Rattle.adm_lists.proofs.Members.{In, in_All}
use Rattle.adm_fairness.proofs.Codes.{not_blocked, at_index, other_first}
use Rattle.adm_fairness.proofs.ExplainedLists.{before_itself}

-- ---- keys

-- a key that is not after the last is refused by nothing
not_after : (last key : RankKey) → precedes last key ≡ false → reason_after last key ≡ None
not_after last key none =
    by (nat_lt last.class key.class) (last.class == key.class) (nat_lt last.distance key.distance) (last.distance == key.distance) (nat_lt last.lot key.lot) none
  where
    by : (c e d f l : Bool) → (c || (e && (d || (f && l)))) ≡ false → cond c (Some ByClass) (cond (e && d) (Some ByDistance) (cond (e && (f && l)) (Some ByLot) None)) ≡ None
    by true e d f l none = absurd (false≢true (sym none))
    by false false d f l none = refl
    by false true true f l none = absurd (false≢true (sym none))
    by false true false false l none = refl
    by false true false true true none = absurd (false≢true (sym none))
    by false true false true false none = refl

-- and one that is after it is refused
is_after : (last key : RankKey) → precedes last key ≡ true → is_some (reason_after last key) ≡ true
is_after last key after' =
    by (nat_lt last.class key.class) (last.class == key.class) (nat_lt last.distance key.distance) (last.distance == key.distance) (nat_lt last.lot key.lot) after'
  where
    by : (c e d f l : Bool) → (c || (e && (d || (f && l)))) ≡ true → is_some (cond c (Some ByClass) (cond (e && d) (Some ByDistance) (cond (e && (f && l)) (Some ByLot) None))) ≡ true
    by true e d f l after' = refl
    by false false d f l after' = absurd (false≢true after')
    by false true true f l after' = refl
    by false true false false l after' = absurd (false≢true after')
    by false true false true true after' = refl
    by false true false true false after' = absurd (false≢true after')

module _ (m : Market) (a : Allocation) (fits : first_fault m ≡ None) (stable : IsStable m a) where
  apart : Distinct m
  apart = distinct m (posed m fits)

  -- the wish of a school of an entrant's list, and its key
  wish_of : (k : ℕ) (e : Candidate) (s : Code) → slice_get m.entrants k ≡ Some e → preference_rank e.list s < length e.list
      → (w : Wish) × (slice_get e.list (preference_rank e.list s) ≡ Some w) × (w.school ≡ s) × (key_at e.list s ≡ Some w.key)
  wish_of k e s ek less =
      let w = wish_at_rank e.list s less in
      (w.0, w.1, w.2, subst (λ (t : Code). key_at e.list t ≡ Some w.0.key) w.2 (apart.key_of k e (preference_rank e.list s) w.0 ek w.1))

  -- what an entrant prefers is on its list
  preferred_on : (e : Candidate) (s : Code) → prefers a e s ≡ true → preference_rank e.list s < length e.list
  preferred_on e s wished = by (a e.child) (ltb-true _ _ wished)
    where
      by : (o : Option Code) → preference_rank e.list s < assigned_rank e.list o → preference_rank e.list s < length e.list
      by None less = less
      by (Some t) less = omega (arith, less, rank_within e.list (Some t))

  module _ (cutoffs : Code → Cutoff) (are : (s : Code) → IsCutoff m a s (cutoffs s)) (k : ℕ) (e : Candidate) (ek : slice_get m.entrants k ≡ Some e) where
    -- it is not refused where it is
    not_refused : (s : Code) → a e.child ≡ Some s → refusal_at e s (cutoffs s) ≡ None
    not_refused s at = by (is_tenant e s) refl
      where
        by : (tenant : Bool) → is_tenant e s ≡ tenant → cond tenant None (reason_by (cutoffs s) (key_at e.list s)) ≡ None
        by true is = refl
        by false is = of_cutoff (cutoffs s) (are s)
          where
            guest : is_guest a s e ≡ true
            guest = guest_from a s e at is

            of_key : (last : RankKey) (o : Option RankKey) → IfSome o (λ other. precedes last other ≡ false) → option_and_then (reason_after last) o ≡ None
            of_key last None h = refl
            of_key last (Some other) h = not_after last other h

            of_cutoff : (c : Cutoff) → IsCutoff m a s c → reason_by c (key_at e.list s) ≡ None
            of_cutoff Open h = refl
            of_cutoff (Last last) h = of_key last (key_at e.list s)
                (at_All (λ g. is_guest a s g ≡ true → IfSome (key_at g.list s) (λ other. precedes last other ≡ false)) m.entrants k e h.1.last ek guest)
            of_cutoff Closed h = absurd (false≢true (sym (at_All (λ g. is_guest a s g ≡ false) m.entrants k e h.1 ek) ∙ guest))

    -- it is refused at a school that it prefers
    refused_above : (s : Code) → prefers a e s ≡ true → is_some (refusal_at e s (cutoffs s)) ≡ true
    refused_above s wished =
        let parts = not_blocked (prefers a e s) (is_tenant e s) (nat_lt (count_at m a s) (quota_of m.seats s)) (list_any (ranks_after a s e) m.entrants)
        (at_All (IsContent m a) m.entrants k e stable.unblocked ek s) wished in
        ap (λ b. is_some (cond b None (reason_by (cutoffs s) (key_at e.list s)))) parts.0 ∙ of_cutoff parts.0 parts.1 parts.2 (cutoffs s) (are s)
      where
        of_cutoff : is_tenant e s ≡ false → nat_lt (count_at m a s) (quota_of m.seats s) ≡ false → list_any (ranks_after a s e) m.entrants ≡ false
            → (c : Cutoff) → IsCutoff m a s c → is_some (reason_by c (key_at e.list s)) ≡ true
        of_cutoff free full first Open h = absurd (omega (arith, h, ltb-false _ _ full))
        of_cutoff free full first Closed h = refl
        of_cutoff free full first (Last last) h =
            let had = h.1.had in
            let l = had.0 in
            let g = had.1 in
            let gl : slice_get m.entrants l ≡ Some g = slice_get-get_or m.entrants l g had.2 ∙ ap Some had.3 in
            let guest = guest_gives a s g had.4.0 in
            let w = wish_of k e s ek (preferred_on e s wished) in
            let z = wish_of l g s gl (on_list m a l g s stable.acceptable gl guest.0) in
            let last_is : z.0.key ≡ last = same_Some z.0.key last (sym z.3 ∙ had.4.1) in
            let differ : k ≢ l = λ same.
            let one : e ≡ g = same_Some e g (sym ek ∙ (ap (slice_get m.entrants) same ∙ gl)) in
            let mine : a e.child ≡ Some s = ap (λ (x : Candidate). a x.child) one ∙ guest.0 in
            omega (arith, ltb-true _ _ (sym (ap (λ o. nat_lt (preference_rank e.list s) (assigned_rank e.list o)) mine) ∙ wished)) in
            let not_later : ranks_before s e g ≡ false =
            sym (ap (λ b. b && ranks_before s e g) had.4.0) ∙ list_any_not (ranks_after a s e) m.entrants l g first gl in
            let later : precedes z.0.key w.0.key ≡ true =
            sym (λ i. both_precede (z.3 i) (w.3 i))
            ∙ other_first m apart k l e g s ek gl differ (preferred_on e s wished) (on_list m a l g s stable.acceptable gl guest.0) free guest.1 not_later in
            ap (λ o. is_some (option_and_then (reason_after last) o)) w.3 ∙ is_after last w.0.key (subst (λ (x : RankKey). precedes x w.0.key ≡ true) last_is later)

    decided : IsDecided a cutoffs e
    decided = record { given = not_refused; refused = refused_above }

pub cutoffs_decide_law : CutoffsDecide
cutoffs_decide_law m a cutoffs fits stable are = All_at (IsDecided a cutoffs) m.entrants (λ k e ek. decided m a fits stable cutoffs are k e ek)

-- two allocations give an entrant the same where this has the same rank on its list
pub same_by_rank : (m : Market) (a other : Allocation) (k : ℕ) (e : Candidate) → IsAcceptable m a → IsAcceptable m other → slice_get m.entrants k ≡ Some e
    → assigned_rank e.list (other e.child) ≡ assigned_rank e.list (a e.child) → other e.child ≡ a e.child
same_by_rank m a other k e fits fits' ek same = by (a e.child) refl (other e.child) refl
  where
    by : (o : Option Code) → a e.child ≡ o → (p : Option Code) → other e.child ≡ p → other e.child ≡ a e.child
    by (Some s) is p is' =
        let w = wish_at_rank e.list s (on_list m a k e s fits ek is) in
        same_rank e.list (other e.child) (preference_rank e.list s) w.0 w.1 (same ∙ ap (assigned_rank e.list) is) ∙ (ap Some w.2 ∙ sym is)
    by None is None is' = is' ∙ sym is
    by None is (Some t) is' = absurd (omega (arith, on_list m other k e t fits' ek is', sym (ap (assigned_rank e.list) is') ∙ (same ∙ ap (assigned_rank e.list) is)))

-- ---- the same cutoffs

module _ (m : Market) (a other : Allocation) (cutoffs : Code → Cutoff) (fits : first_fault m ≡ None) (stable : IsStable m a) (stable' : IsStable m other)
    (are : (s : Code) → IsCutoff m a s (cutoffs s)) (are' : (s : Code) → IsCutoff m other s (cutoffs s)) (k : ℕ) (e : Candidate) (ek : slice_get m.entrants k ≡ Some e) where
  -- what one gives is not before what the other gives
  not_before : (b : Allocation) → IsDecided b cutoffs e → (c : Allocation) → IsDecided c cutoffs e → (o : Option Code) → b e.child ≡ o → assigned_rank e.list o < assigned_rank e.list (c e.child) → ⊥
  not_before b one c two None is less = omega (arith, less, rank_within e.list (c e.child))
  not_before b one c two (Some s) is less =
      let none = one.given s is in
      let some = two.refused s (lt-ltb _ _ less) in
      false≢true (ap is_some (sym none) ∙ some)

  same_place : other e.child ≡ a e.child
  same_place =
      let one = decided m a fits stable cutoffs are k e ek in
      let two = decided m other fits stable' cutoffs are' k e ek in
      let same : assigned_rank e.list (other e.child) ≡ assigned_rank e.list (a e.child) = elim (cases_lt (assigned_rank e.list (a e.child)) (assigned_rank e.list (other e.child))) [
        | inl less ↦ absurd (not_before a one other two (a e.child) refl less)
        | inr most ↦ elim (cases_lt (assigned_rank e.list (other e.child)) (assigned_rank e.list (a e.child))) [
          | inl less ↦ absurd (not_before other two a one (other e.child) refl less)
          | inr least ↦ omega (arith, most, least)
        ]
      ] in
      same_by_rank m a other k e stable.acceptable stable'.acceptable ek same

pub same_cutoffs_same_places_law : SameCutoffsSamePlaces
same_cutoffs_same_places_law m a other cutoffs fits stable stable' are are' =
    All_at (λ e. other e.child ≡ a e.child) m.entrants (λ k e ek. same_place m a other cutoffs fits stable stable' are are' k e ek)

-- ---- each school has one

not_before_chain : (x y z : RankKey) → precedes x y ≡ true → precedes x z ≡ false → precedes y z ≡ false
not_before_chain x y z before none = grind (arith, nat_tests)

module _ (a : Allocation) (s : Code) where
  -- the last of some guests
  record LastOf (xs : List Candidate) : Type 0 where
    pub guest : Candidate
    pub among : In guest xs
    pub is_one : is_guest a s guest ≡ true
    pub key : RankKey
    pub its_key : key_at guest.list s ≡ Some key
    pub last : (x : Candidate) → In x xs → is_guest a s x ≡ true → IfSome (key_at x.list s) (λ other. precedes key other ≡ false)

  -- what holds of the key that it has
  at_key : (P : RankKey → Type 0) (o : Option RankKey) (key : RankKey) → o ≡ Some key → P key → IfSome o P
  at_key P None key is p = absurd (none-some key is)
  at_key P (Some other) key is p = subst P (sym (same_Some other key is)) p

  if_weaker : (P Q : RankKey → Type 0) (o : Option RankKey) → ((key : RankKey) → P key → Q key) → IfSome o P → IfSome o Q
  if_weaker P Q None step h = tt
  if_weaker P Q (Some key) step h = step key h

  last_of : (xs : List Candidate) → ((x : Candidate) → In x xs → is_guest a s x ≡ true → (key : RankKey) × (key_at x.list s ≡ Some key))
      → ((x : Candidate) → In x xs → is_guest a s x ≡ false) ⊎ LastOf xs
  last_of [] keys = inl (λ x at. absurd at)
  last_of (x ∷ xs) keys = elim (last_of xs (λ y at. keys y (inr at))) [
    | inl none ↦ elim (cases_Bool (is_guest a s x)) [
      | inr out ↦ inl (λ y at. elim at [ inl same ↦ ap (is_guest a s) (sym same) ∙ out | inr later ↦ none y later ])
      | inl one ↦
          let mine = keys x (inl refl) one in
          inr (record {
            guest = x;
            among = inl refl;
            is_one = one;
            key = mine.0;
            its_key = mine.1;
            last = λ y at guest. elim at [
              | inl same ↦ subst (λ (z : Candidate). IfSome (key_at z.list s) (λ other. precedes mine.0 other ≡ false)) same (at_key (λ other. precedes mine.0 other ≡ false) (key_at x.list s) mine.0 mine.1 (before_itself mine.0))
              | inr later ↦ absurd (false≢true (sym (none y later) ∙ guest))
            ];
          })
    ]
    | inr found ↦ elim (cases_Bool (is_guest a s x)) [
      | inr out ↦ inr (record {
        guest = found.guest;
        among = inr found.among;
        is_one = found.is_one;
        key = found.key;
        its_key = found.its_key;
        last = λ y at guest. elim at [ inl same ↦ absurd (false≢true (sym (ap (is_guest a s) (sym same) ∙ out) ∙ guest)) | inr later ↦ found.last y later guest ];
      })
      | inl one ↦
          let mine = keys x (inl refl) one in
          elim (cases_Bool (precedes found.key mine.0)) [
            | inl after' ↦ inr (record {
              guest = x;
              among = inl refl;
              is_one = one;
              key = mine.0;
              its_key = mine.1;
              last = λ y at guest. elim at [
                | inl same ↦ subst (λ (z : Candidate). IfSome (key_at z.list s) (λ other. precedes mine.0 other ≡ false)) same (at_key (λ other. precedes mine.0 other ≡ false) (key_at x.list s) mine.0 mine.1 (before_itself mine.0))
                | inr later ↦ if_weaker (λ other. precedes found.key other ≡ false) (λ other. precedes mine.0 other ≡ false) (key_at y.list s)
                    (λ other none. not_before_chain found.key mine.0 other after' none) (found.last y later guest)
              ];
            })
            | inr none ↦ inr (record {
              guest = found.guest;
              among = inr found.among;
              is_one = found.is_one;
              key = found.key;
              its_key = found.its_key;
              last = λ y at guest. elim at [
                | inl same ↦ subst (λ (z : Candidate). IfSome (key_at z.list s) (λ other. precedes found.key other ≡ false)) same (at_key (λ other. precedes found.key other ≡ false) (key_at x.list s) mine.0 mine.1 none)
                | inr later ↦ found.last y later guest
              ];
            })
          ]
    ]
  ]

pub some_cutoff_law : SomeCutoff
some_cutoff_law m a s fits stable = elim (cases_lt (count_at m a s) (quota_of m.seats s)) [
  | inl room ↦ (Open, room)
  | inr full ↦ elim (last_of a s m.entrants (λ x at guest.
      let k = at_index m.entrants x at in
      let w = wish_of m a fits stable k.0 x s k.1 (on_list m a k.0 x s stable.acceptable k.1 (guest_gives a s x guest).0) in
      (w.0.key, w.3))) [
        | inl none ↦ (Closed, (full, in_All (λ g. is_guest a s g ≡ false) m.entrants none))
        | inr found ↦
            let k = at_index m.entrants found.guest found.among in (
              Last found.key,
              (
                full,
                record {
                  had = (k.0, found.guest, slice_get_within m.entrants k.0 found.guest k.1, get_or_from_slice_get m.entrants k.0 found.guest found.guest k.1, (found.is_one, found.its_key));
                  last = in_All (λ g. is_guest a s g ≡ true → IfSome (key_at g.list s) (λ other. precedes found.key other ≡ false)) m.entrants found.last;
                },
              ),
            )
      ]
]
