-- All stable allocations of a problem place the same children.
use Rattle.std.proofs.Common.{◌≡◌, ℕ, zero, suc, ◌+◌, ◌<◌, ◌≤◌, List, [], ◌∷◌, length, Option, None, Some, Bool, true, false, ◌||◌, inl, inr, refl, sym, ap, ◌∙◌, subst, arith}
use Rattle.std.specs.Prelude.{IfSome, nat_lt, is_some, bytes_eq}
use Rattle.std.specs.List.{slice_get, list_any, count_by, sum_by}
use Rattle.std.proofs.lemmas.Bool.{cases_Bool, cases_lt, false≢true, true≢false, or_parts, and_from, or_cases, lt-ltb, ltb-false}
use Rattle.std.proofs.lemmas.Option.{none-some, same_Some}
use Rattle.std.proofs.lemmas.List.Sums.{sum_by-cons}
use Rattle.std.proofs.lemmas.Slice.Eq.{bytes_eq-Decides}
use Rattle.adm_types.specs.Code.{has}
use Rattle.adm_lists.proofs.Counts.{one_if}
use Rattle.adm_match.specs.declared.problem.Seats.{Seats}
use Rattle.adm_match.specs.Market.{Code, Candidate, Market, preference_rank, assigned_rank, is_tenant, quota_of, some_pair, same_code}
use Rattle.adm_match.specs.Distinct.{Seated}
use Rattle.adm_match.specs.Stability.{Allocation, IsAcceptable, count_at, is_guest, prefers, ranks_after, blocks, IsContent, IsStable, IsBest}
use Rattle.adm_match.proofs.SideBySide.{more_pass, count_yes, count_no}
use Rattle.adm_match.proofs.Turn.{sum_beside}
use Rattle.adm_match.proofs.RanksAndBlocks.{has_tells, not_has, at_All, list_any_of, wish_at_rank, same_rank, guest_from}

-- what an entrant has in an allocation is on its list
pub on_list : (m : Market) (a : Allocation) (k : ℕ) (e : Candidate) (s : Code) → IsAcceptable m a → slice_get m.entrants k ≡ Some e → a e.child ≡ Some s → preference_rank e.list s < length e.list
on_list m a k e s h ek at =
    subst (λ (o : Option Code). IfSome o (λ t. preference_rank e.list t < length e.list)) at
    (at_All (λ e. IfSome (a e.child) (λ t. preference_rank e.list t < length e.list)) m.entrants k e h ek)

-- the test of a block, from its parts
pub blocks_from : (m : Market) (a : Allocation) (e : Candidate) (s : Code) → prefers a e s ≡ true
    → (is_tenant e s || (nat_lt (count_at m a s) (quota_of m.seats s) || list_any (ranks_after a s e) m.entrants)) ≡ true → blocks m a e s ≡ true
blocks_from m a e s p q = and_from (prefers a e s) _ p q

-- a pair that is preferred and does not block: its school is full, and the entrant is no tenant of it
pub full_if_unblocked : (m : Market) (a : Allocation) (e : Candidate) (s : Code) → prefers a e s ≡ true → blocks m a e s ≡ false → (is_tenant e s ≡ false) × (quota_of m.seats s ≤ count_at m a s)
full_if_unblocked m a e s p unblocked =
    let room = nat_lt (count_at m a s) (quota_of m.seats s) in
    let behind = list_any (ranks_after a s e) m.entrants in
    let none : (is_tenant e s || (room || behind)) ≡ false = elim (cases_Bool (is_tenant e s || (room || behind))) [
      | inl yes' ↦ absurd (false≢true (sym unblocked ∙ blocks_from m a e s p yes'))
      | inr no' ↦ no'
    ] in
    let parts = or_parts (is_tenant e s) (room || behind) none in
    let full = or_parts room behind parts.1 in
    (parts.0, ltb-false _ _ full.0)

-- what differs in the best allocation is preferred there
pub prefers_best : (m : Market) (best a : Allocation) (k : ℕ) (e : Candidate) (s : Code) → IsBest m best → IsStable m a → slice_get m.entrants k ≡ Some e
    → best e.child ≡ Some s → (a e.child ≡ Some s → ⊥) → prefers a e s ≡ true
prefers_best m best a k e s b h ek at other =
    let inside = on_list m best k e s b.stable.acceptable ek at in
    let w = wish_at_rank e.list s inside in
    let least : assigned_rank e.list (best e.child) ≤ assigned_rank e.list (a e.child) = at_All
    (λ e. assigned_rank e.list (best e.child) ≤ assigned_rank e.list (a e.child)) m.entrants k e (b.none_better a h) ek in
    let here : assigned_rank e.list (best e.child) ≡ preference_rank e.list s = ap (assigned_rank e.list) at in
    let apart : assigned_rank e.list (a e.child) ≡ preference_rank e.list s → ⊥ = λ same. other (same_rank e.list (a e.child) (preference_rank e.list s) w.0 w.1 same ∙ ap Some w.2) in
    lt-ltb _ _ (omega (arith, least, here, apart))

-- no school has more children in the best allocation than in a stable one
pub no_more : (m : Market) (best a : Allocation) (s : Code) → IsBest m best → IsStable m a → count_at m best s ≤ count_at m a s
no_more m best a s b h = elim (cases_lt (count_at m a s) (count_at m best s)) [
  | inr most ↦ most
  | inl less ↦
      let one = more_pass (λ (e : Candidate). has (best e.child) s) (λ (e : Candidate). has (a e.child) s) m.entrants m.entrants refl less in
      let k = one.0 in
      let e = one.1 in
      let same : one.2 ≡ e = same_Some one.2 e (sym one.4 ∙ one.3) in
      let here : best e.child ≡ Some s = (has_tells (best e.child) s).0 one.5 in
      let other : has (a e.child) s ≡ false = subst (λ (x : Candidate). has (a x.child) s ≡ false) same one.6 in
      let wants = prefers_best m best a k e s b h one.3 here (not_has (a e.child) s other) in
      let full = full_if_unblocked m a e s wants (at_All (IsContent m a) m.entrants k e h.unblocked one.3 s) in
      let few = b.stable.feasible s (list_any_of (is_guest best s) m.entrants k e one.3 (guest_from best s e here full.0)) in
      omega (arith, few, full.1)
]

-- counts over the schools
abbrev pub at_seats : List Seats → Option Code → ℕ
at_seats seats o = sum_by (λ seat. one_if (has o seat.code)) seats

sum_plus : {X : Type 0} (f g : X → ℕ) (xs : List X) → sum_by (λ x. f x + g x) xs ≡ sum_by f xs + sum_by g xs
sum_plus f g [] = refl
sum_plus f g (x ∷ xs) = omega (arith, sum_by-cons (λ x. f x + g x) x xs, sum_by-cons f x xs, sum_by-cons g x xs, sum_plus f g xs)

sum_zero : {X : Type 0} (xs : List X) → sum_by (λ (x : X). 0) xs ≡ 0
sum_zero [] = refl
sum_zero (x ∷ xs) = omega (arith, sum_by-cons (λ x. 0) x xs, sum_zero xs)

pub sum_upto : {X : Type 0} (f g : X → ℕ) (xs : List X) → ((x : X) → f x ≤ g x) → sum_by f xs ≤ sum_by g xs
sum_upto f g [] h = omega arith
sum_upto f g (x ∷ xs) h = omega (arith, sum_by-cons f x xs, sum_by-cons g x xs, h x, sum_upto f g xs h)

-- the same children, counted by their schools or one by one
pub swap_sums : (a : Allocation) (seats : List Seats) (es : List Candidate) → sum_by (λ seat. count_by (λ e. has (a e.child) seat.code) es) seats ≡ sum_by (λ e. at_seats seats (a e.child)) es
swap_sums a seats [] = sum_zero seats
swap_sums a seats (e ∷ es) =
    let split : sum_by (λ seat. count_by (λ x. has (a x.child) seat.code) (e ∷ es)) seats ≡ sum_by (λ seat. one_if (has (a e.child) seat.code) + count_by (λ x. has (a x.child) seat.code) es) seats
    = ap (λ (f : Seats → ℕ). sum_by f seats) (λ i seat. sum_by-cons (λ (x : Candidate). one_if (has (a x.child) seat.code)) e es i) in
    omega (
      arith,
      split,
      sum_plus (λ (seat : Seats). one_if (has (a e.child) seat.code)) (λ seat. count_by (λ x. has (a x.child) seat.code) es) seats,
      swap_sums a seats es,
      sum_by-cons (λ (x : Candidate). at_seats seats (a x.child)) e es,
    )

none_of : (x : Seats) (t : Code) (xs : List Seats) → t ≡ x.code → list_any (same_code x) xs ≡ false → at_seats xs (Some t) ≡ 0
none_of x t [] is h = refl
none_of x t (y ∷ ys) is h =
    let parts = or_parts (same_code x y) (list_any (same_code x) ys) h in
    let out : one_if (bytes_eq t y.code) ≡ 0 = ap one_if (ap (λ c. bytes_eq c y.code) is ∙ parts.0) in
    omega (arith, sum_by-cons (λ (seat : Seats). one_if (has (Some t) seat.code)) y ys, out, none_of x t ys is parts.1)

seats_once : (seats : List Seats) (o : Option Code) → some_pair same_code seats ≡ false → at_seats seats o ≤ one_if (is_some o)
seats_once seats None h = omega (arith, sum_zero seats)
seats_once [] (Some t) h = omega arith
seats_once (x ∷ xs) (Some t) h =
    let parts = or_parts (list_any (same_code x) xs) (some_pair same_code xs) h in
    let sum = sum_by-cons (λ (seat : Seats). one_if (has (Some t) seat.code)) x xs in
    elim (cases_Bool (bytes_eq t x.code)) [
      | inl hit ↦
          let one : one_if (bytes_eq t x.code) ≡ 1 = ap one_if hit in
          omega (arith, sum, one, none_of x t xs ((bytes_eq-Decides t x.code).0 hit) parts.0)
      | inr miss ↦
          let none : one_if (bytes_eq t x.code) ≡ 0 = ap one_if miss in
          omega (arith, sum, none, seats_once xs (Some t) parts.1)
    ]

seats_has : (seats : List Seats) (s : Code) → list_any (λ seat. bytes_eq seat.code s) seats ≡ true → 1 ≤ at_seats seats (Some s)
seats_has [] s h = absurd (false≢true h)
seats_has (x ∷ xs) s h =
    let sum = sum_by-cons (λ (seat : Seats). one_if (has (Some s) seat.code)) x xs in
    elim (or_cases (bytes_eq x.code s) (list_any (λ seat. bytes_eq seat.code s) xs) h) [
      | inl hit ↦
          let one : one_if (bytes_eq s x.code) ≡ 1 = ap one_if ((bytes_eq-Decides s x.code).1 (sym ((bytes_eq-Decides x.code s).0 hit))) in
          omega (arith, sum, one)
      | inr rest ↦ omega (arith, sum, seats_has xs s rest)
    ]

abbrev pub placed : Allocation → Candidate → Bool
placed a e = is_some (a e.child)

some_of : (o : Option Code) → is_some o ≡ true → (s : Code) × (o ≡ Some s)
some_of None h = absurd (false≢true h)
some_of (Some s) h = (s, refl)

some_from : (o : Option Code) (s : Code) → o ≡ Some s → is_some o ≡ true
some_from o s e = ap is_some e

-- at most as many are placed as the schools have
pub placed_from : (m : Market) (a : Allocation) → Seated m → IsAcceptable m a → count_by (placed a) m.entrants ≤ sum_by (λ e. at_seats m.seats (a e.child)) m.entrants
placed_from m a h l = sum_beside (λ e. one_if (placed a e)) (λ e. at_seats m.seats (a e.child)) m.entrants m.entrants refl (λ k e e' ek ek'.
    subst (λ (x : Candidate). one_if (placed a e) ≤ at_seats m.seats (a x.child)) (same_Some e e' (sym ek ∙ ek')) (one k e ek))
  where
    one : (k : ℕ) (e : Candidate) → slice_get m.entrants k ≡ Some e → one_if (placed a e) ≤ at_seats m.seats (a e.child)
    one k e ek = elim (cases_Bool (placed a e)) [
      | inr out ↦ let zero' : one_if (placed a e) ≡ 0 = ap one_if out in omega (arith, zero')
      | inl in' ↦
          let one' : one_if (placed a e) ≡ 1 = ap one_if in' in
          let s = some_of (a e.child) in' in
          let w = wish_at_rank e.list s.0 (on_list m a k e s.0 l ek s.1) in
          let known = h.known k e (preference_rank e.list s.0) w.0 ek w.1 in
          let here : 1 ≤ at_seats m.seats (a e.child) = subst (λ o. 1 ≤ at_seats m.seats o) (ap Some w.2 ∙ sym s.1) (seats_has m.seats w.0.school known) in
          omega (arith, one', here)
    ]

pub placed_upto : (m : Market) (a : Allocation) → Seated m → sum_by (λ e. at_seats m.seats (a e.child)) m.entrants ≤ count_by (placed a) m.entrants
placed_upto m a h = sum_upto (λ e. at_seats m.seats (a e.child)) (λ e. one_if (placed a e)) m.entrants (λ e. seats_once m.seats (a e.child) h.once)

-- a test that passes wherever another one does, and once more, passes more often
pub count_less : {X : Type 0} (p q : X → Bool) (xs : List X) (k : ℕ) (x : X) → ((j : ℕ) (y : X) → slice_get xs j ≡ Some y → q y ≡ true → p y ≡ true)
    → slice_get xs k ≡ Some x → p x ≡ true → q x ≡ false → count_by q xs < count_by p xs
count_less p q xs k x all at in' out = elim (cases_lt (count_by q xs) (count_by p xs)) [
  | inl less ↦ less
  | inr most ↦ absurd (differ p q xs (upto p q xs all) most k x at in' out)
]
  where
    upto : {X : Type 0} (p q : X → Bool) (xs : List X) → ((j : ℕ) (y : X) → slice_get xs j ≡ Some y → q y ≡ true → p y ≡ true) → (j : ℕ) (y : X) → slice_get xs j ≡ Some y → q y ≡ true → p y ≡ true
    upto p q xs h = h

    le : {X : Type 0} (p q : X → Bool) (xs : List X) → ((j : ℕ) (y : X) → slice_get xs j ≡ Some y → q y ≡ true → p y ≡ true) → count_by q xs ≤ count_by p xs
    le p q [] h = omega arith
    le p q (y ∷ ys) h =
        let rest = le p q ys (λ j z a t. h (suc j) z a t) in
        elim (cases_Bool (q y)) [
          | inl t ↦ omega (arith, rest, count_yes q y ys t, count_yes p y ys (h 0 y refl t))
          | inr f ↦ elim (cases_Bool (p y)) [
            | inl t ↦ omega (arith, rest, count_no q y ys f, count_yes p y ys t)
            | inr g ↦ omega (arith, rest, count_no q y ys f, count_no p y ys g)
          ]
        ]

    differ : {X : Type 0} (p q : X → Bool) (xs : List X) → ((j : ℕ) (y : X) → slice_get xs j ≡ Some y → q y ≡ true → p y ≡ true) → count_by p xs ≤ count_by q xs
        → (k : ℕ) (x : X) → slice_get xs k ≡ Some x → p x ≡ true → q x ≡ false → ⊥
    differ p q [] h most k x at in' out = none-some x at
    differ p q (y ∷ ys) h most zero x at in' out =
        let same : y ≡ x = same_Some y x at in
        omega (arith, most, le p q ys (λ j z a t. h (suc j) z a t), count_yes p y ys (ap p same ∙ in'), count_no q y ys (ap q same ∙ out))
    differ p q (y ∷ ys) h most (suc k) x at in' out =
        let rest : count_by p ys ≤ count_by q ys = elim (cases_Bool (q y)) [
          | inl t ↦ omega (arith, most, count_yes q y ys t, count_yes p y ys (h 0 y refl t))
          | inr f ↦ elim (cases_Bool (p y)) [
            | inl t ↦ omega (arith, most, count_no q y ys f, count_yes p y ys t)
            | inr g ↦ omega (arith, most, count_no q y ys f, count_no p y ys g)
          ]
        ] in
        differ p q ys (λ j z a t. h (suc j) z a t) rest k x at in' out

-- who is placed in a stable allocation is placed in the best one
pub placed_in_best : (m : Market) (best a : Allocation) → IsBest m best → IsStable m a → (k : ℕ) (e : Candidate) → slice_get m.entrants k ≡ Some e
    → is_some (a e.child) ≡ true → is_some (best e.child) ≡ true
placed_in_best m best a b h k e ek in' =
    let s = some_of (a e.child) in' in
    let inside = on_list m a k e s.0 h.acceptable ek s.1 in
    let there : assigned_rank e.list (a e.child) ≡ preference_rank e.list s.0 = ap (assigned_rank e.list) s.1 in
    let least : assigned_rank e.list (best e.child) ≤ assigned_rank e.list (a e.child) = at_All
    (λ e. assigned_rank e.list (best e.child) ≤ assigned_rank e.list (a e.child)) m.entrants k e (b.none_better a h) ek in
    elim (cases_Bool (is_some (best e.child))) [
      | inl t ↦ t
      | inr f ↦ absurd (omega (arith, inside, there, least, ap (assigned_rank e.list) (none_if (best e.child) f)))
    ]
  where
    none_if : (o : Option Code) → is_some o ≡ false → o ≡ None
    none_if None h = refl
    none_if (Some s) h = absurd (true≢false h)

-- and the other way round
pub placed_in_all : (m : Market) (best a : Allocation) → Seated m → IsBest m best → IsStable m a → (k : ℕ) (e : Candidate) → slice_get m.entrants k ≡ Some e
    → is_some (best e.child) ≡ true → is_some (a e.child) ≡ true
placed_in_all m best a seated b h k e ek in' = elim (cases_Bool (is_some (a e.child))) [
  | inl t ↦ t
  | inr out ↦ absurd (
      let fewer = count_less (placed best) (placed a) m.entrants k e (λ j y jy t. placed_in_best m best a b h j y jy t) ek in' out in
      let schools : sum_by (λ seat. count_at m best seat.code) m.seats ≤ sum_by (λ seat. count_at m a seat.code) m.seats = sum_upto
      (λ (seat : Seats). count_at m best seat.code) (λ seat. count_at m a seat.code) m.seats (λ seat. no_more m best a seat.code b h) in
      omega (arith, fewer, schools, placed_from m best seated b.stable.acceptable, placed_upto m a seated, swap_sums best m.seats m.entrants, swap_sums a m.seats m.entrants))
]

-- all stable allocations place the same children
pub same_placed : (m : Market) (best a a' : Allocation) → Seated m → IsBest m best → IsStable m a → IsStable m a' → (k : ℕ) (e : Candidate)
    → slice_get m.entrants k ≡ Some e → is_some (a e.child) ≡ true → is_some (a' e.child) ≡ true
same_placed m best a a' seated b h h' k e ek t = placed_in_all m best a' seated b h' k e ek (placed_in_best m best a b h k e ek t)
