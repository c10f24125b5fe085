-- No feasible allocation is better for each child: each could have listed what it is given there alone.
use Rattle.std.proofs.Common.{◌≡◌, ◌∙◌, ap, sym, subst, refl, cond, Bool, true, false, not, ◌&&◌, ◌||◌, ℕ, zero, suc, ◌+◌, ◌<◌, List, [], ◌∷◌, length, map, Option, Some, None, inl, inr, arith}
use Rattle.std.specs.Prelude.{Any, IfSome, nat_lt, bytes_eq, filter, find, option_map, count_by}
use Rattle.std.specs.List.{AllZip, list_any, slice_get}
use Rattle.std.proofs.lemmas.Bool.{cases_Bool, true≢false, ltb-true, ltb-false, lt-ltb, not-true}
use Rattle.std.proofs.lemmas.Option.{same_Some, slice_get_within, get_or_from_slice_get}
use Rattle.std.proofs.lemmas.List.Elements.{All-map}
use Rattle.std.proofs.lemmas.List.Sums.{sum_by-cons}
use Rattle.std.proofs.lemmas.Slice.Eq.{bytes_eq-Decides}
use Rattle.adm_lists.proofs.Counts.{one_if}
use Rattle.adm_lists.proofs.Each.{any-map}
use Rattle.adm_lists.proofs.Members.{from_filter, find_gives}
use Rattle.adm_types.specs.Code.{has}
use Rattle.adm_match.specs.declared.problem.Wish.{Wish}
use Rattle.adm_match.specs.Market.{Code, Candidate, Market, preference_rank, assigned_rank, is_tenant, key_at, quota_of, first_fault}
use Rattle.adm_match.specs.Stability.{Allocation, IsFeasible, IsStable, IsBest, IsContent, count_at, is_guest, ranks_after}
use Rattle.adm_match.specs.Distinct.{Distinct}
use Rattle.adm_match.proofs.Posed.{posed, list_any_not}
use Rattle.adm_match.proofs.Distinct.{distinct}
use Rattle.adm_match.proofs.RanksAndBlocks.{at_All, All_at, guest_from, guest_gives, list_any_of, list_any_gives}
use Rattle.adm_match.proofs.FoundWishes.{rank_within}
use Rattle.adm_match.proofs.Placed.{full_if_unblocked}
use Rattle.adm_match_laws.specs.AnyList.{MayHandIn}
use Rattle.adm_match_laws.specs.Groups.{HandsIn, IsHandedInBy, NoGroupGains}
use Rattle.adm_fairness.specs.Optimal.{NotAllBetter}
use Rattle.adm_fairness.proofs.Codes.{at_index}
use Rattle.adm_fairness.proofs.Fairer.{at_least}

-- whether the wish is for the school
abbrev is_for : Option Code → Wish → Bool
is_for None wish = false
is_for (Some school) wish = bytes_eq wish.school school

-- of a list the wishes for one of its schools begin with that school
only_that : (ws : List Wish) (s : Code) → preference_rank ws s < length ws → (preference_rank (filter (is_for (Some s)) ws) s ≡ 0) × (0 < length (filter (is_for (Some s)) ws))
only_that [] s less = absurd (omega (arith, less))
only_that (w ∷ ws) s less = elim (cases_Bool (bytes_eq w.school s)) [
  | inl hit ↦
      let all : filter (is_for (Some s)) (w ∷ ws) ≡ w ∷ filter (is_for (Some s)) ws = ap (λ b. cond b (w ∷ filter (is_for (Some s)) ws) (filter (is_for (Some s)) ws)) hit in (
        ap (λ xs. preference_rank xs s) all ∙ ap (λ b. cond (not b) (1 + preference_rank (filter (is_for (Some s)) ws) s) 0) hit,
        subst (λ (xs : List Wish). 0 < length xs) (sym all) (omega arith),
      )
  | inr miss ↦
      let all : filter (is_for (Some s)) (w ∷ ws) ≡ filter (is_for (Some s)) ws = ap (λ b. cond b (w ∷ filter (is_for (Some s)) ws) (filter (is_for (Some s)) ws)) miss in
      let later : preference_rank (w ∷ ws) s ≡ 1 + preference_rank ws s = ap (λ b. cond (not b) (1 + preference_rank ws s) 0) miss in
      let rest = only_that ws s (omega (arith, less, later)) in
      (ap (λ xs. preference_rank xs s) all ∙ rest.0, subst (λ (xs : List Wish). 0 < length xs) (sym all) rest.1)
]

zip_itself : {X : Type 0} (R : X → X → Type 0) (f : X → X) (xs : List X) → ((k : ℕ) (x : X) → slice_get xs k ≡ Some x → R x (f x)) → AllZip R xs (map f xs)
zip_itself R f [] each = tt
zip_itself R f (x ∷ xs) each = (each zero x refl, zip_itself R f xs (λ k y yk. each (suc k) y yk))

count_mapped : {X Y : Type 0} (p : Y → Bool) (f : X → Y) (xs : List X) → count_by p (map f xs) ≡ count_by (λ x. p (f x)) xs
count_mapped p f [] = refl
count_mapped p f (x ∷ xs) = omega (arith, sum_by-cons (λ y. one_if (p y)) (f x) (map f xs), sum_by-cons (λ y. one_if (p (f y))) x xs, count_mapped p f xs)

module _ (m : Market) (best a : Allocation) (fits : first_fault m ≡ None) (b : IsBest m best) (feasible : IsFeasible m a)
    (better : (k : ℕ) (e : Candidate) → slice_get m.entrants k ≡ Some e → assigned_rank e.list (a e.child) < assigned_rank e.list (best e.child)) where
  apart : Distinct m
  apart = distinct m (posed m fits)

  -- each entrant lists what it is given alone, and gives up its place
  abbrev alone : Candidate → Candidate
  alone e = record e { list = filter (is_for (a e.child)) e.list; tenant = None }

  abbrev now : Market
  now = record m { entrants = map alone m.entrants }

  -- it is given a school of its list
  given : (k : ℕ) (e : Candidate) → slice_get m.entrants k ≡ Some e → (s : Code) × (a e.child ≡ Some s) × (preference_rank e.list s < length e.list)
  given k e ek = by (a e.child) refl
    where
      by : (o : Option Code) → a e.child ≡ o → (s : Code) × (a e.child ≡ Some s) × (preference_rank e.list s < length e.list)
      by None is = absurd (omega (arith, ap (assigned_rank e.list) is, better k e ek, rank_within e.list (best e.child)))
      by (Some s) is = (s, is, omega (arith, ap (assigned_rank e.list) is, better k e ek, rank_within e.list (best e.child)))

  -- of which it is no tenant
  free : (k : ℕ) (e : Candidate) → slice_get m.entrants k ≡ Some e → (s : Code) → a e.child ≡ Some s → is_tenant e s ≡ false
  free k e ek s is =
      (full_if_unblocked m best e s (lt-ltb _ _ (omega (arith, ap (assigned_rank e.list) is, better k e ek))) (at_All (IsContent m best) m.entrants k e b.stable.unblocked ek s)).0

  -- and which is the first on the new list
  first : (k : ℕ) (e : Candidate) → slice_get m.entrants k ≡ Some e → (assigned_rank (alone e).list (a e.child) ≡ 0) × (0 < length (alone e).list)
  first k e ek =
      let it = given k e ek in
      subst (λ (o : Option Code). (assigned_rank (filter (is_for o) e.list) o ≡ 0) × (0 < length (filter (is_for o) e.list))) (sym it.1) (only_that e.list it.0 it.2)

  may : (k : ℕ) (e : Candidate) → slice_get m.entrants k ≡ Some e → MayHandIn (alone e).list None e
  may k e ek = record {
    keys = All_at (λ wish. IfSome (key_at (alone e).list wish.school) (λ key. key ≡ wish.key)) e.list (λ j w jw. key_is j w jw (find (λ (x : Wish). bytes_eq x.school w.school) (alone e).list) refl);
    tenancy = tt;
  }
    where
      key_is : (j : ℕ) (w : Wish) → slice_get e.list j ≡ Some w → (o : Option Wish) → find (λ (x : Wish). bytes_eq x.school w.school) (alone e).list ≡ o
          → IfSome (option_map (λ (x : Wish). x.key) o) (λ key. key ≡ w.key)
      key_is j w jw None found = tt
      key_is j w jw (Some x) found =
          let gives = find_gives (λ (x : Wish). bytes_eq x.school w.school) (alone e).list x found in
          let i = at_index e.list x (from_filter (is_for (a e.child)) e.list x gives.0).0 in
          let school : x.school ≡ w.school = (bytes_eq-Decides x.school w.school).0 gives.1 in
          same_Some x.key w.key (sym (apart.key_of k e i.0 x ek i.1) ∙ (ap (key_at e.list) school ∙ apart.key_of k e j w ek jw))

  handed : IsHandedInBy (λ _. true) m now
  handed = record {
    seats = refl;
    entrants = zip_itself (HandsIn (λ _. true)) alone m.entrants (λ k e ek. record { child = refl; own = λ out. absurd (true≢false out); any = λ _. may k e ek });
  }

  stable : IsStable now a
  stable = record {
    acceptable = All-map (λ e. IfSome (a e.child) (λ s. preference_rank e.list s < length e.list)) alone m.entrants
        (All_at (λ e. IfSome (a e.child) (λ s. preference_rank (alone e).list s < length (alone e).list)) m.entrants (λ k e ek. on_list e (a e.child) (first k e ek)));
    feasible = λ s some.
        let one = list_any_gives (λ e. is_guest a s (alone e)) m.entrants (sym (any-map (is_guest a s) alone m.entrants) ∙ some) in
        let at = (guest_gives a s (alone one.1) one.3).0 in
        let few = feasible s (list_any_of (is_guest a s) m.entrants one.0 one.1 one.2 (guest_from a s one.1 at (free one.0 one.1 one.2 s at))) in
        omega (arith, few, count_mapped (λ (e : Candidate). has (a e.child) s) alone m.entrants);
    unblocked = All-map (IsContent now a) alone m.entrants (All_at (λ e. IsContent now a (alone e)) m.entrants (λ k e ek s.
        ap (λ p. p && (is_tenant (alone e) s || (nat_lt (count_at now a s) (quota_of now.seats s) || list_any (ranks_after a s (alone e)) now.entrants)))
        (at_least _ _ (omega (arith, (first k e ek).0)))));
  }
    where
      on_list : (e : Candidate) (o : Option Code) → (assigned_rank (filter (is_for (a e.child)) e.list) o ≡ 0) × (0 < length (filter (is_for (a e.child)) e.list))
          → IfSome o (λ s. preference_rank (filter (is_for (a e.child)) e.list) s < length (filter (is_for (a e.child)) e.list))
      on_list e None it = tt
      on_list e (Some s) it = omega (arith, it.0, it.1)

-- some entrant of a list that is not empty
some_entrant : (es : List Candidate) → 0 < length es → Any (λ entrant. true ≡ true) es
some_entrant [] less = absurd (omega (arith, less))
some_entrant (e ∷ es) less = (zero, e, omega arith, refl, refl)

pub not_all_better_law : NoGroupGains → NotAllBetter
not_all_better_law law m best a fits b feasible some =
    let test : Candidate → Bool = λ e. not (nat_lt (assigned_rank e.list (a e.child)) (assigned_rank e.list (best e.child))) in
    elim (cases_Bool (list_any test m.entrants)) [
      | inl one ↦
          let it = list_any_gives test m.entrants one in
          (it.0, it.1, slice_get_within m.entrants it.0 it.1 it.2, get_or_from_slice_get m.entrants it.0 it.1 it.1 it.2, ltb-false _ _ (not-true _ it.3))
      | inr none ↦
          let better : (k : ℕ) (e : Candidate) → slice_get m.entrants k ≡ Some e → assigned_rank e.list (a e.child) < assigned_rank e.list (best e.child) =
          λ k e ek. ltb-true _ _ (passes _ (list_any_not test m.entrants k e none ek)) in
          let it = law m (now m best a fits b feasible better) (λ _. true) best a fits (handed m best a fits b feasible better) b (stable m best a fits b feasible better) (some_entrant m.entrants some) in
          (it.0, it.1, it.2, it.3, it.4.1)
    ]
  where
    passes : (p : Bool) → not p ≡ false → p ≡ true
    passes true is = refl
    passes false is = absurd (true≢false is)
