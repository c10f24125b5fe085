-- Two problems that differ in one entrant's list: what is stable in one stays stable in the other.
use Rattle.std.proofs.Common.{◌≡◌, ◌≢◌, ℕ, zero, suc, ◌<◌, List, [], ◌∷◌, length, set, Option, None, Some, Bool, true, false, not, ◌||◌, ◌&&◌, inl, inr, refl, sym, ap, ◌∙◌, subst, arith, length-set}
use Rattle.std.specs.Prelude.{IfSome, nat_lt}
use Rattle.std.specs.List.{slice_get, list_any}
use Rattle.std.proofs.lemmas.Bool.{cases_Bool, cases_eq, false≢true, and_from, and_parts, and_left}
use Rattle.std.proofs.lemmas.Option.{same_Some, slice_get_within}
use Rattle.adm_types.specs.Code.{has}
use Rattle.adm_match.specs.declared.problem.Seats.{Seats}
use Rattle.adm_match.specs.Market.{Code, Candidate, Market, preference_rank, is_tenant, key_at, both_precede, ranks_before, quota_of}
use Rattle.adm_match.specs.Stability.{Allocation, count_at, is_guest, prefers, ranks_after, blocks, IsContent, IsStable}
use Rattle.adm_match.proofs.SideBySide.{count_beside}
use Rattle.adm_match.proofs.RanksAndBlocks.{has_tells, at_All, All_at}

-- two problems that differ in the entrant at one index
pub record Differs (m m' : Market) (k : ℕ) (e e' : Candidate) : Type 0 where
  pub seats : m'.seats ≡ m.seats
  pub same : length m'.entrants ≡ length m.entrants
  pub here : slice_get m.entrants k ≡ Some e
  pub here' : slice_get m'.entrants k ≡ Some e'
  pub others : (j : ℕ) → j ≢ k → slice_get m'.entrants j ≡ slice_get m.entrants j
  pub child : e'.child ≡ e.child

pub differs_back : (m m' : Market) (k : ℕ) (e e' : Candidate) → Differs m m' k e e' → Differs m' m k e' e
differs_back m m' k e e' h = record {
  seats = sym h.seats;
  same = sym h.same;
  here = h.here';
  here' = h.here;
  others = λ j n. sym (h.others j n);
  child = sym h.child;
}

pub differs_on : (m m' n : Market) (k : ℕ) (e e' d : Candidate) → Differs m m' k e e' → Differs m n k e d → Differs m' n k e' d
differs_on m m' n k e e' d h g = record {
  seats = g.seats ∙ sym h.seats;
  same = g.same ∙ sym h.same;
  here = h.here';
  here' = g.here';
  others = λ j apart. g.others j apart ∙ sym (h.others j apart);
  child = g.child ∙ sym h.child;
}

pub set_here : {X : Type 0} (xs : List X) (k : ℕ) (v : X) → k < length xs → slice_get (set xs k v) k ≡ Some v
set_here [] k v l = absurd (omega arith)
set_here (x ∷ xs) zero v l = refl
set_here (x ∷ xs) (suc k) v l = set_here xs k v (omega arith)

pub set_there : {X : Type 0} (xs : List X) (k j : ℕ) (v : X) → j ≢ k → slice_get (set xs k v) j ≡ slice_get xs j
set_there [] k j v n = refl
set_there (x ∷ xs) zero zero v n = absurd (n refl)
set_there (x ∷ xs) zero (suc j) v n = refl
set_there (x ∷ xs) (suc k) zero v n = refl
set_there (x ∷ xs) (suc k) (suc j) v n = set_there xs k j v (λ h. n (ap suc h))

abbrev pub replaced : Market → ℕ → Candidate → Market
replaced m k e' = record m { entrants = set m.entrants k e' }

pub differs_set : (m : Market) (k : ℕ) (e e' : Candidate) → slice_get m.entrants k ≡ Some e → e'.child ≡ e.child → Differs m (replaced m k e') k e e'
differs_set m k e e' here child = record {
  seats = refl;
  same = length-set m.entrants k e';
  here = here;
  here' = set_here m.entrants k e' (slice_get_within m.entrants k e here);
  others = λ j n. set_there m.entrants k j e' n;
  child = child;
}

any_beside : {X Y : Type 0} (p : X → Bool) (q : Y → Bool) (xs : List X) (ys : List Y) → length xs ≡ length ys
    → ((j : ℕ) (x : X) (y : Y) → slice_get xs j ≡ Some x → slice_get ys j ≡ Some y → p x ≡ q y) → list_any p xs ≡ list_any q ys
any_beside p q [] [] e h = refl
any_beside p q [] (y ∷ ys) e h = absurd (omega arith)
any_beside p q (x ∷ xs) [] e h = absurd (omega arith)
any_beside p q (x ∷ xs) (y ∷ ys) e h =
    let first = h 0 x y refl refl in
    let rest = any_beside p q xs ys (omega arith) (λ j a b r s. h (suc j) a b r s) in
    λ i. first i || rest i

-- a fact about the two entrants at an index, where they are the same or the two that differ
beside : {X : Type 0} (f g : Candidate → X) (m m' : Market) (k : ℕ) (e e' : Candidate) → Differs m m' k e e' → g e' ≡ f e → ((x : Candidate) → g x ≡ f x)
    → (j : ℕ) (x y : Candidate) → slice_get m'.entrants j ≡ Some x → slice_get m.entrants j ≡ Some y → g x ≡ f y
beside f g m m' k e e' h here all j x y xj yj = elim (cases_eq j k) [
  | inl is ↦
      let x_is : e' ≡ x = same_Some e' x (sym h.here' ∙ (ap (slice_get m'.entrants) (sym is) ∙ xj)) in
      let y_is : e ≡ y = same_Some e y (sym h.here ∙ (ap (slice_get m.entrants) (sym is) ∙ yj)) in
      (ap g (sym x_is) ∙ here) ∙ ap f y_is
  | inr n ↦ all x ∙ ap f (same_Some x y (sym xj ∙ (h.others j n ∙ yj)))
]

-- at the school that it has, if any, the entrant ranks as before
abbrev pub RanksAlike : Allocation → Candidate → Candidate → Type 0
RanksAlike a e e' = (s : Code) → a e.child ≡ Some s → (is_tenant e' s ≡ is_tenant e s) × (key_at e'.list s ≡ key_at e.list s)

count_same : (m m' : Market) (k : ℕ) (e e' : Candidate) (a : Allocation) (s : Code) → Differs m m' k e e' → count_at m' a s ≡ count_at m a s
count_same m m' k e e' a s h =
    count_beside (λ (x : Candidate). has (a x.child) s) (λ (x : Candidate). has (a x.child) s) m'.entrants m.entrants h.same
    (beside (λ x. has (a x.child) s) (λ x. has (a x.child) s) m m' k e e' h (ap (λ n. has (a n) s) h.child) (λ x. refl))

guest_same : (k : ℕ) (e e' : Candidate) (a : Allocation) (s : Code) → e'.child ≡ e.child → RanksAlike a e e' → is_guest a s e' ≡ is_guest a s e
guest_same k e e' a s child alike = elim (cases_Bool (has (a e.child) s)) [
  | inl here ↦ (λ i. has (a (child i)) s && not ((alike s ((has_tells (a e.child) s).0 here)).0 i))
  | inr out ↦
      and_left (has (a e'.child) s) (not (is_tenant e' s)) (ap (λ n. has (a n) s) child ∙ out)
      ∙ sym (and_left (has (a e.child) s) (not (is_tenant e s)) out)
]

-- who ranks after d, where d's key at the school is the same
after_same : (e e' d d' : Candidate) (a : Allocation) (s : Code) → e'.child ≡ e.child → RanksAlike a e e' → key_at d'.list s ≡ key_at d.list s → ranks_after a s d' e' ≡ ranks_after a s d e
after_same e e' d d' a s child alike key = elim (cases_Bool (has (a e.child) s)) [
  | inl here ↦
      let both = alike s ((has_tells (a e.child) s).0 here) in
      (λ i. (has (a (child i)) s && not (both.0 i)) && both_precede (key i) (both.1 i))
  | inr out ↦
      let out' = ap (λ n. has (a n) s) child ∙ out in
      and_left (is_guest a s e') (ranks_before s d' e') (and_left (has (a e'.child) s) (not (is_tenant e' s)) out')
      ∙ sym (and_left (is_guest a s e) (ranks_before s d e) (and_left (has (a e.child) s) (not (is_tenant e s)) out))
]

some_after_same : (m m' : Market) (k : ℕ) (e e' d d' : Candidate) (a : Allocation) (s : Code) → Differs m m' k e e' → RanksAlike a e e'
    → key_at d'.list s ≡ key_at d.list s → list_any (ranks_after a s d') m'.entrants ≡ list_any (ranks_after a s d) m.entrants
some_after_same m m' k e e' d d' a s h alike key =
    any_beside (ranks_after a s d') (ranks_after a s d) m'.entrants m.entrants h.same
    (beside (ranks_after a s d) (ranks_after a s d') m m' k e e' h (after_same e e' d d' a s h.child alike key)
    (λ x i. is_guest a s x && both_precede (key i) (key_at x.list s)))

-- what entitles an entrant to a school stays
entitled_same : (m m' : Market) (k : ℕ) (e e' d d' : Candidate) (a : Allocation) (s : Code) → Differs m m' k e e' → RanksAlike a e e' → is_tenant d' s ≡ is_tenant d s
    → key_at d'.list s ≡ key_at d.list s
    → (is_tenant d' s || (nat_lt (count_at m' a s) (quota_of m'.seats s) || list_any (ranks_after a s d') m'.entrants)) ≡ (is_tenant d s
    || (nat_lt (count_at m a s) (quota_of m.seats s) || list_any (ranks_after a s d) m.entrants))
entitled_same m m' k e e' d d' a s h alike tenant key =
    let c = count_same m m' k e e' a s h in
    let r = some_after_same m m' k e e' d d' a s h alike key in
    λ i. tenant i || (nat_lt (c i) (quota_of (h.seats i) s) || r i)

-- a pair of the entrant that differs stays unblocked, where it was preferred before
pub unblocked_moves : (m m' : Market) (k : ℕ) (e e' : Candidate) (a : Allocation) (s : Code) → Differs m m' k e e' → RanksAlike a e e' → is_tenant e' s ≡ is_tenant e s
    → key_at e'.list s ≡ key_at e.list s → prefers a e s ≡ true → blocks m a e s ≡ false → blocks m' a e' s ≡ false
unblocked_moves m m' k e e' a s h alike tenant key wants unblocked =
    let now = entitled_same m m' k e e' e e' a s h alike tenant key in
    elim (cases_Bool (blocks m' a e' s)) [
      | inr unblocked' ↦ unblocked'
      | inl blocking ↦
          let parts = and_parts (prefers a e' s) _ blocking in
          absurd (false≢true (sym unblocked ∙ and_from (prefers a e s) _ wants (sym now ∙ parts.1)))
    ]

-- An allocation stays stable, where the entrant ranks as before at the school that it has, and is content.
pub stable_moves : (m m' : Market) (k : ℕ) (e e' : Candidate) (a : Allocation) → Differs m m' k e e' → RanksAlike a e e'
    → ((s : Code) → a e.child ≡ Some s → preference_rank e'.list s < length e'.list) → IsContent m' a e' → IsStable m a → IsStable m' a
stable_moves m m' k e e' a h alike listed content stable = record {
  acceptable = All_at (λ x. IfSome (a x.child) (λ s. preference_rank x.list s < length x.list)) m'.entrants (λ j x xj. elim (cases_eq j k) [
    | inl is ↦
        let x_is : e' ≡ x = same_Some e' x (sym h.here' ∙ (ap (slice_get m'.entrants) (sym is) ∙ xj)) in
        subst (λ (y : Candidate). IfSome (a y.child) (λ s. preference_rank y.list s < length y.list)) x_is
        (subst (λ n. IfSome (a n) (λ s. preference_rank e'.list s < length e'.list)) (sym h.child) (some_of (a e.child) e' listed))
    | inr n ↦ at_All (λ x. IfSome (a x.child) (λ s. preference_rank x.list s < length x.list)) m.entrants j x stable.acceptable (sym (h.others j n) ∙ xj)
  ]);
  feasible = λ s some.
      let was : list_any (is_guest a s) m'.entrants ≡ list_any (is_guest a s) m.entrants
      = any_beside (is_guest a s) (is_guest a s) m'.entrants m.entrants h.same
      (beside (is_guest a s) (is_guest a s) m m' k e e' h (guest_same k e e' a s h.child alike) (λ x. refl)) in
      let few = stable.feasible s (sym was ∙ some) in
      omega (arith, few, count_same m m' k e e' a s h, ap (λ (x : List Seats). quota_of x s) h.seats);
  unblocked = All_at (IsContent m' a) m'.entrants (λ j x xj. elim (cases_eq j k) [
    | inl is ↦ subst (λ (y : Candidate). IsContent m' a y) (same_Some e' x (sym h.here' ∙ (ap (slice_get m'.entrants) (sym is) ∙ xj))) content
    | inr n ↦ λ s.
        let unblocked = at_All (IsContent m a) m.entrants j x stable.unblocked (sym (h.others j n) ∙ xj) s in
        ap (λ b. prefers a x s && b) (entitled_same m m' k e e' x x a s h alike refl refl) ∙ unblocked
  ]);
}
  where
    some_of : (o : Option Code) (e' : Candidate) → ((s : Code) → o ≡ Some s → preference_rank e'.list s < length e'.list) → IfSome o (λ s. preference_rank e'.list s < length e'.list)
    some_of None e' g = tt
    some_of (Some s) e' g = g s refl
