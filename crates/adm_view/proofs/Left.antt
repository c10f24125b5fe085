-- The pairs of a child, of pairs in the order of the children, are those between two places.
use Rattle.std.proofs.Common.{◌≡◌, ◌∙◌, ap, sym, refl, ℕ, zero, suc, ◌-◌, ◌≤◌, ◌<◌, List, [], ◌∷◌, map, take, drop, length, get_or, Bool, true, false, cond, inl, inr, subst, arith}
use Rattle.std.specs.Prelude.{nat_eq, nat_lt, nat_le, filter, count_by}
use Rattle.std.specs.List.{AllByRecursion}
use Rattle.std.specs.List.Sorted.{IsStrictlySortedBy}
use Rattle.std.proofs.lemmas.Bool.{cases_lt}
use Rattle.std.proofs.lemmas.Bool.Decides.{nat_tests}
use Rattle.std.proofs.lemmas.List.Sums.{sum_by-cons}
use Rattle.adm_types.specs.declared.rows.LeftPair.{LeftPair}
use Rattle.std.specs.FinMap.{values}
use Rattle.adm_register.proofs.SameRows.{entries_at_own_keys}
use Rattle.adm_register.proofs.Maps.{left_cmp-total, left_cmp-IsAntisymmetric}
use Rattle.std.specs.declared.cmp.Ordering.TheVariants.{Less}
use Rattle.adm_lists.proofs.Maps.{entries_in_order}
use Rattle.adm_register.specs.State.{State, left_cmp}
use Rattle.adm_register.specs.WellFormed.{WellFormed}
use Rattle.adm_view.specs.Left.{is_below, is_upto, Rise}

abbrev is_of : ℕ → LeftPair → Bool
is_of child pair = nat_eq pair.child child

none_below : (child : ℕ) (pairs : List LeftPair) → AllByRecursion (λ (other : LeftPair). child ≤ other.child) pairs → count_by (is_below child) pairs ≡ 0
none_below child [] all = refl
none_below child (pair ∷ pairs) all =
    let later = none_below child pairs all.1 in
    let e = sum_by-cons (λ (p : LeftPair). cond {A = ℕ} (is_below child p) 1 0) pair pairs in
    let here : is_below child pair ≡ false = grind (arith, nat_tests, all.0) in
    let none : cond {A = ℕ} (is_below child pair) 1 0 ≡ 0 = ap (λ b. cond {A = ℕ} b 1 0) here in
    omega arith

none_upto : (child : ℕ) (pairs : List LeftPair) → AllByRecursion (λ (other : LeftPair). child < other.child) pairs → (count_by (is_upto child) pairs ≡ 0) × (filter (is_of child) pairs ≡ [])
none_upto child [] all = (refl, refl)
none_upto child (pair ∷ pairs) all =
    let later = none_upto child pairs all.1 in
    let e = sum_by-cons (λ (p : LeftPair). cond {A = ℕ} (is_upto child p) 1 0) pair pairs in
    let here : is_upto child pair ≡ false = grind (arith, nat_tests, all.0) in
    let none : cond {A = ℕ} (is_upto child pair) 1 0 ≡ 0 = ap (λ b. cond {A = ℕ} b 1 0) here in
    let other : is_of child pair ≡ false = grind (arith, nat_tests, all.0) in
    (omega (arith, later.0), ap (λ b. cond b (pair ∷ filter (is_of child) pairs) (filter (is_of child) pairs)) other ∙ later.1)

weaker : (m n : ℕ) → m ≤ n → (pairs : List LeftPair) → AllByRecursion (λ (other : LeftPair). n ≤ other.child) pairs → AllByRecursion (λ (other : LeftPair). m ≤ other.child) pairs
weaker m n low [] all = tt
weaker m n low (pair ∷ pairs) all = (omega (arith, all.0), weaker m n low pairs all.1)

above : (m n : ℕ) → m < n → (pairs : List LeftPair) → AllByRecursion (λ (other : LeftPair). n ≤ other.child) pairs → AllByRecursion (λ (other : LeftPair). m < other.child) pairs
above m n low [] all = tt
above m n low (pair ∷ pairs) all = (omega (arith, all.0), above m n low pairs all.1)

none_of : (child : ℕ) (pairs : List LeftPair) → count_by (is_below child) pairs ≡ 0
    → take (count_by (is_upto child) pairs - count_by (is_below child) pairs) (drop (count_by (is_below child) pairs) pairs) ≡ take (count_by (is_upto child) pairs) pairs
none_of child pairs none =
    let gap : count_by (is_upto child) pairs - count_by (is_below child) pairs ≡ count_by (is_upto child) pairs = omega (arith, none) in
    λ i. take (gap i) (drop (none i) pairs)

-- those from the first that is not below the child, as many as are not above it and not below
pub between : (child : ℕ) (pairs : List LeftPair) → Rise pairs
    → take (count_by (is_upto child) pairs - count_by (is_below child) pairs) (drop (count_by (is_below child) pairs) pairs) ≡ filter (is_of child) pairs
between child [] up = refl
between child (pair ∷ pairs) up =
    let below_is = sum_by-cons (λ (p : LeftPair). cond {A = ℕ} (is_below child p) 1 0) pair pairs in
    let upto_is = sum_by-cons (λ (p : LeftPair). cond {A = ℕ} (is_upto child p) 1 0) pair pairs in
    let rest = between child pairs up.1 in
    elim (cases_lt pair.child child) [
      | inl before ↦
          let b : is_below child pair ≡ true = grind (arith, nat_tests, before) in
          let u : is_upto child pair ≡ true = grind (arith, nat_tests, before) in
          let o : is_of child pair ≡ false = grind (arith, nat_tests, before) in
          let bs : count_by (is_below child) (pair ∷ pairs) ≡ suc (count_by (is_below child) pairs) = omega (arith, below_is, ap (λ x. cond {A = ℕ} x 1 0) b) in
          let gap : count_by (is_upto child) (pair ∷ pairs) - count_by (is_below child) (pair ∷ pairs) ≡ count_by (is_upto child) pairs - count_by (is_below child) pairs =
          omega (arith, below_is, upto_is, ap (λ x. cond {A = ℕ} x 1 0) b, ap (λ x. cond {A = ℕ} x 1 0) u) in
          (λ i. take (gap i) (drop (bs i) (pair ∷ pairs))) ∙ rest ∙ sym (ap (λ x. cond x (pair ∷ filter (is_of child) pairs) (filter (is_of child) pairs)) o)
      | inr not_before ↦ elim (cases_lt child pair.child) [
        | inl after ↦
            let b = none_below child (pair ∷ pairs) (not_before, weaker child pair.child not_before pairs up.0) in
            let u = none_upto child (pair ∷ pairs) (after, above child pair.child after pairs up.0) in
            none_of child (pair ∷ pairs) b ∙ ap (λ n. take n (pair ∷ pairs)) u.0 ∙ sym u.1
        | inr not_after ↦
            let b = none_below child (pair ∷ pairs) (not_before, weaker child pair.child not_before pairs up.0) in
            let rest_none = none_below child pairs (weaker child pair.child not_before pairs up.0) in
            let u : is_upto child pair ≡ true = grind (arith, nat_tests, not_after) in
            let o : is_of child pair ≡ true = grind (arith, nat_tests, not_after, not_before) in
            let us : count_by (is_upto child) (pair ∷ pairs) ≡ suc (count_by (is_upto child) pairs) = omega (arith, upto_is, ap (λ x. cond {A = ℕ} x 1 0) u) in
            none_of child (pair ∷ pairs) b ∙ ap (λ n. take n (pair ∷ pairs)) us
            ∙ ap (λ ps. pair ∷ ps) (sym (none_of child pairs rest_none) ∙ rest) ∙ sym (ap (λ x. cond x (pair ∷ filter (is_of child) pairs) (filter (is_of child) pairs)) o)
      ]
    ]

-- ---- places in the order

all_at : (child : ℕ) (pairs : List LeftPair) → AllByRecursion (λ (other : LeftPair). child ≤ other.child) pairs → (j : ℕ) (d : LeftPair) → j < length pairs → child ≤ (get_or pairs j d).child
all_at child [] all j d within = absurd (omega arith)
all_at child (pair ∷ pairs) all zero d within = all.0
all_at child (pair ∷ pairs) all (suc j) d within = all_at child pairs all.1 j d (omega arith)

pub far : (pairs : List LeftPair) → Rise pairs → (i j : ℕ) (d : LeftPair) → i ≤ j → j < length pairs → (get_or pairs i d).child ≤ (get_or pairs j d).child
far [] up i j d low within = absurd (omega arith)
far (pair ∷ pairs) up zero zero d low within = omega arith
far (pair ∷ pairs) up zero (suc j) d low within = all_at pair.child pairs up.0 j d (omega arith)
far (pair ∷ pairs) up (suc i) zero d low within = absurd (omega arith)
far (pair ∷ pairs) up (suc i) (suc j) d low within = far pairs up.1 i j d (omega arith) (omega arith)

lower : (m n k : ℕ) → m ≤ n → nat_lt n k ≡ true → nat_lt m k ≡ true
lower m n k low h = grind (arith, nat_tests)

lower_too : (m n k : ℕ) → m ≤ n → nat_le n k ≡ true → nat_le m k ≡ true
lower_too m n k low h = grind (arith, nat_tests)

pub below_in_front : (child : ℕ) (pairs : List LeftPair) → Rise pairs → (i j : ℕ) (d : LeftPair) → i ≤ j → j < length pairs → is_below child (get_or pairs j d) ≡ true → is_below child (get_or pairs i d) ≡ true
below_in_front child pairs up i j d low within h = lower (get_or pairs i d).child (get_or pairs j d).child child (far pairs up i j d low within) h

pub upto_in_front : (child : ℕ) (pairs : List LeftPair) → Rise pairs → (i j : ℕ) (d : LeftPair) → i ≤ j → j < length pairs → is_upto child (get_or pairs j d) ≡ true → is_upto child (get_or pairs i d) ≡ true
upto_in_front child pairs up i j d low within h = lower_too (get_or pairs i d).child (get_or pairs j d).child child (far pairs up i j d low within) h

-- no fewer are up to the child than below it
pub fewer : (child : ℕ) (pairs : List LeftPair) → count_by (is_below child) pairs ≤ count_by (is_upto child) pairs
fewer child [] = omega arith
fewer child (pair ∷ pairs) =
    let below_is = sum_by-cons (λ (p : LeftPair). cond {A = ℕ} (is_below child p) 1 0) pair pairs in
    let upto_is = sum_by-cons (λ (p : LeftPair). cond {A = ℕ} (is_upto child p) 1 0) pair pairs in
    let rest = fewer child pairs in
    let here = one_less pair.child child in
    omega (arith, below_is, upto_is, rest, here)
  where
    one_less : (m n : ℕ) → cond {A = ℕ} (nat_lt m n) 1 0 ≤ cond {A = ℕ} (nat_le m n) 1 0
    one_less m n = grind (arith, nat_tests)

-- ---- the pairs of a register

less_child : (x y : LeftPair) → left_cmp x y ≡ Less → x.child ≤ y.child
less_child x y h = grind (arith, nat_tests)

all_low : (x : LeftPair) (pairs : List LeftPair) → AllByRecursion (λ y. left_cmp x y ≡ Less) (map (λ (p : LeftPair). p) pairs) → AllByRecursion (λ (other : LeftPair). x.child ≤ other.child) pairs
all_low x [] all = tt
all_low x (y ∷ pairs) all = (less_child x y all.0, all_low x pairs all.1)

rise_sorted : (pairs : List LeftPair) → IsStrictlySortedBy left_cmp (map (λ (p : LeftPair). p) pairs) → Rise pairs
unfolding IsStrictlySortedBy
rise_sorted [] sorted = tt
rise_sorted (pair ∷ pairs) sorted = (all_low pair pairs sorted.0, rise_sorted pairs sorted.1)

-- those of a register are in the order of their children
pub left_rise : (s : State) → WellFormed s → (pairs : List LeftPair) → pairs ≡ values s.left → Rise pairs
left_rise s well pairs are =
    let own = entries_at_own_keys left_cmp-total left_cmp-IsAntisymmetric (λ (p : LeftPair). p) s.left (λ key pair there. (well.left key pair there).own_key) in
    subst Rise (sym are) (rise_sorted (values s.left) (subst (IsStrictlySortedBy left_cmp) (sym own) (entries_in_order s.left)))
