-- Entries in order: the same entries, and where no number is repeated, each before all that follow.
use Rattle.std.proofs.Common.{◌≡◌, ℕ, List, [], ◌∷◌, map, Bool, true, false, cond, inl, inr, refl, sym, ap, ◌∙◌, subst, arith}
use Rattle.std.specs.Prelude.{IsPermutation}
use Rattle.std.specs.declared.cmp.Ordering.TheVariants.{Less}
use Rattle.std.specs.Ordering.{nat_cmp}
use Rattle.std.specs.List.{list_all, AllByRecursion}
use Rattle.std.specs.List.Sorted.{IsStrictlySortedBy}
use Rattle.std.proofs.lemmas.Bool.{cases_Bool, and_parts, and_from}
use Rattle.std.proofs.lemmas.Bool.Decides.{nat_tests}
use Rattle.std.proofs.lemmas.List.Sorted.{IsPermutation-refl, IsPermutation-sym, IsPermutation-trans, IsPermutation-cons, IsPermutation-middle}
use Rattle.adm_lists.proofs.Members.{In, in_moved, passes_in, list_all_in}
use Rattle.adm_lists.proofs.Rising.{rises, same_list}
use Rattle.adm_lists.proofs.Orders.{less_apart}
use Rattle.adm_waiting.specs.declared.lists.Waiting.{Waiting}
use Rattle.adm_waiting.specs.Waiting.{is_listed_before, put_in_order, in_order}

-- ---- the order of entries

irreflexive : (x : Waiting) → is_listed_before x x ≡ false
irreflexive x = grind (arith, nat_tests)

transitive : (x y z : Waiting) → is_listed_before x y ≡ true → is_listed_before y z ≡ true → is_listed_before x z ≡ true
transitive x y z h k = grind (arith, nat_tests)

other_way : (x y : Waiting) → (x.child ≡ y.child → ⊥) → is_listed_before x y ≡ false → is_listed_before y x ≡ true
other_way x y apart h = grind (arith, nat_tests)

-- ---- the same entries

put_same : (x : Waiting) (ys : List Waiting) → IsPermutation (x ∷ ys) (put_in_order x ys)
put_same x [] = IsPermutation-refl (x ∷ [])
put_same x (y ∷ ys) = elim (cases_Bool (is_listed_before x y)) [
  | inl hit ↦
      subst (IsPermutation (x ∷ y ∷ ys)) (sym (ap (λ b. cond b (x ∷ y ∷ ys) (y ∷ put_in_order x ys)) hit)) (IsPermutation-refl (x ∷ y ∷ ys))
  | inr miss ↦
      subst (IsPermutation (x ∷ y ∷ ys)) (sym (ap (λ b. cond b (x ∷ y ∷ ys) (y ∷ put_in_order x ys)) miss))
      (IsPermutation-trans (x ∷ y ∷ ys) (y ∷ x ∷ ys) (y ∷ put_in_order x ys) (IsPermutation-middle (x ∷ []) y ys)
      (IsPermutation-cons y (x ∷ ys) (put_in_order x ys) (put_same x ys)))
]

pub in_order_same : (xs : List Waiting) → IsPermutation xs (in_order xs)
in_order_same [] = IsPermutation-refl []
in_order_same (x ∷ xs) =
    IsPermutation-trans (x ∷ xs) (x ∷ in_order xs) (put_in_order x (in_order xs)) (IsPermutation-cons x xs (in_order xs) (in_order_same xs))
    (put_same x (in_order xs))

-- ---- each before all that follow

all_put : (p : Waiting → Bool) (x : Waiting) (ys : List Waiting) → p x ≡ true → list_all p ys ≡ true → list_all p (put_in_order x ys) ≡ true
all_put p x ys h all = list_all_in p (put_in_order x ys) (λ z there.
    elim (in_moved (put_in_order x ys) (x ∷ ys) z (IsPermutation-sym (x ∷ ys) (put_in_order x ys) (put_same x ys)) there) [
      | inl same ↦ ap p (sym same) ∙ h
      | inr later ↦ passes_in p ys z all later
    ])

put_rises : (x : Waiting) (ys : List Waiting) → ((z : Waiting) → In z ys → x.child ≡ z.child → ⊥) → rises is_listed_before ys ≡ true → rises is_listed_before (put_in_order x ys) ≡ true
put_rises x [] apart up = refl
put_rises x (y ∷ ys) apart up =
    let parts = and_parts (list_all (is_listed_before y) ys) (rises is_listed_before ys) up in
    elim (cases_Bool (is_listed_before x y)) [
      | inl hit ↦
          let all : list_all (is_listed_before x) (y ∷ ys) ≡ true = list_all_in (is_listed_before x) (y ∷ ys) (λ z there. elim there [
            | inl same ↦ ap (is_listed_before x) (sym same) ∙ hit
            | inr later ↦ transitive x y z hit (passes_in (is_listed_before y) ys z parts.0 later)
          ]) in
          ap (λ b. rises is_listed_before (cond b (x ∷ y ∷ ys) (y ∷ put_in_order x ys))) hit
          ∙ and_from (list_all (is_listed_before x) (y ∷ ys)) (rises is_listed_before (y ∷ ys)) all up
      | inr miss ↦
          ap (λ b. rises is_listed_before (cond b (x ∷ y ∷ ys) (y ∷ put_in_order x ys))) miss
          ∙ and_from (list_all (is_listed_before y) (put_in_order x ys)) (rises is_listed_before (put_in_order x ys))
          (all_put (is_listed_before y) x ys (other_way x y (apart y (inl refl)) miss) parts.0)
          (put_rises x ys (λ z there. apart z (inr there)) parts.1)
    ]

abbrev pub child_of : Waiting → ℕ
child_of entry = entry.child

-- a number below all of those is none of them
below_all : (number : ℕ) (xs : List Waiting) → AllByRecursion (λ y. nat_cmp number y ≡ Less) (map child_of xs) → (z : Waiting) → In z xs → number ≡ z.child → ⊥
below_all number [] all z there = absurd there
below_all number (x ∷ xs) all z there = elim there [
  | inl same ↦ λ e. less_apart number x.child all.0 (e ∙ ap child_of (sym same))
  | inr later ↦ below_all number xs all.1 z later
]

in_order_rises : (xs : List Waiting) → IsStrictlySortedBy nat_cmp (map child_of xs) → rises is_listed_before (in_order xs) ≡ true
unfolding IsStrictlySortedBy
in_order_rises [] sorted = refl
in_order_rises (x ∷ xs) sorted =
    put_rises x (in_order xs)
    (λ z there. below_all x.child xs sorted.0 z (in_moved (in_order xs) xs z (IsPermutation-sym xs (in_order xs) (in_order_same xs)) there))
    (in_order_rises xs sorted.1)

-- where no number is repeated, an order of the entries in which each comes before all that follow is the only one
pub only_order : (xs ys : List Waiting) → IsStrictlySortedBy nat_cmp (map child_of xs) → IsPermutation xs ys → rises is_listed_before ys ≡ true → ys ≡ in_order xs
only_order xs ys sorted same up =
    same_list is_listed_before irreflexive transitive ys (in_order xs) up (in_order_rises xs sorted)
    (λ z there. in_moved xs (in_order xs) z (in_order_same xs) (in_moved ys xs z (IsPermutation-sym xs ys same) there))
    (λ z there. in_moved xs ys z same (in_moved (in_order xs) xs z (IsPermutation-sym xs (in_order xs) (in_order_same xs)) there))
