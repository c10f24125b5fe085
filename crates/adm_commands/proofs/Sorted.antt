-- Rows of different numbers, put in order: the same rows, whose numbers rise, and no other order does.
use Rattle.std.proofs.Common.{◌≡◌, refl, true, false, cond, ℕ, List, [], ◌∷◌, map, arith}
use Rattle.std.specs.Prelude.{nat_lt, if◌then◌else◌}
use Rattle.std.specs.declared.cmp.Ordering.TheVariants.{Less}
use Rattle.std.specs.Ordering.{nat_cmp, eq_by_cmp}
use Rattle.std.specs.List.{AllByRecursion, IsDistinct}
use Rattle.std.specs.List.Sorted.{IsPermutation, IsStrictlySortedBy}
use Rattle.std.proofs.lemmas.Bool.Decides.{nat_tests}
use Rattle.std.proofs.lemmas.Map.Keys.{IsDistinct-head}
use Rattle.std.proofs.lemmas.List.Sorted.{IsPermutation-refl, IsPermutation-trans, IsPermutation-cons, IsPermutation-middle}
use Rattle.adm_lists.proofs.Each.{each_weaker}

below : (a b : ℕ) → nat_lt a b ≡ true → nat_cmp a b ≡ Less
below a b h = grind (arith, nat_tests)

above : (a b : ℕ) → eq_by_cmp nat_cmp a b ≡ false → nat_lt a b ≡ false → nat_cmp b a ≡ Less
above a b apart h = grind (arith, nat_tests)

through : (a b c : ℕ) → nat_cmp a b ≡ Less → nat_cmp b c ≡ Less → nat_cmp a c ≡ Less
through a b c h k = grind (arith, nat_tests)

module _ {X : Type 0} (number : X → ℕ) where
  -- a row at its place
  abbrev put : X → List X → List X
  put x [] = x ∷ []
  put x (y ∷ ys) = if nat_lt (number x) (number y) then x ∷ y ∷ ys else y ∷ put x ys

  abbrev in_order : List X → List X
  in_order [] = []
  in_order (x ∷ xs) = put x (in_order xs)

  -- ---- the same rows

  put_same : (x : X) (ys : List X) → IsPermutation (x ∷ ys) (put x ys)
  put_same x [] = IsPermutation-refl (x ∷ [])
  put_same x (y ∷ ys) =
      elim (nat_lt (number x) (number y)) as (λ b. IsPermutation (x ∷ y ∷ ys) (cond b (x ∷ y ∷ ys) (y ∷ put x ys))) [
        | true ↦ IsPermutation-refl (x ∷ y ∷ ys)
        | false ↦
            IsPermutation-trans (x ∷ y ∷ ys) (y ∷ x ∷ ys) (y ∷ put x ys) (IsPermutation-middle (x ∷ []) y ys) (IsPermutation-cons y (x ∷ ys) (put x ys) (put_same x ys))
      ]

  in_order_same : (xs : List X) → IsPermutation xs (in_order xs)
  in_order_same [] = IsPermutation-refl []
  in_order_same (x ∷ xs) = IsPermutation-trans (x ∷ xs) (x ∷ in_order xs) (put x (in_order xs)) (IsPermutation-cons x xs (in_order xs) (in_order_same xs)) (put_same x (in_order xs))

  -- ---- their numbers rise

  each_put : (P : ℕ → Type 0) (x : X) (ys : List X) → P (number x) → AllByRecursion P (map number ys) → AllByRecursion P (map number (put x ys))
  each_put P x [] one all = (one, tt)
  each_put P x (y ∷ ys) one all =
      elim (nat_lt (number x) (number y)) as (λ b. AllByRecursion P (map number (cond b (x ∷ y ∷ ys) (y ∷ put x ys)))) [
        | true ↦ (one, all)
        | false ↦ (all.0, each_put P x ys one all.1)
      ]

  each_in_order : (P : ℕ → Type 0) (xs : List X) → AllByRecursion P (map number xs) → AllByRecursion P (map number (in_order xs))
  each_in_order P [] all = tt
  each_in_order P (x ∷ xs) all = each_put P x (in_order xs) all.0 (each_in_order P xs all.1)

  put_rises : (x : X) (ys : List X) → AllByRecursion (λ k. eq_by_cmp nat_cmp (number x) k ≡ false) (map number ys) → IsStrictlySortedBy nat_cmp (map number ys)
      → IsStrictlySortedBy nat_cmp (map number (put x ys))
  unfolding IsStrictlySortedBy
  put_rises x [] apart rising = (tt, tt)
  put_rises x (y ∷ ys) apart rising =
      elim (nat_lt (number x) (number y)) as (λ b. nat_lt (number x) (number y) ≡ b → IsStrictlySortedBy nat_cmp (map number (cond b (x ∷ y ∷ ys) (y ∷ put x ys)))) [
        | true ↦ λ is.
            let first = below (number x) (number y) is in
            ((first, each_weaker (λ k. nat_cmp (number y) k ≡ Less) (λ k. nat_cmp (number x) k ≡ Less) (λ k later. through (number x) (number y) k first later) (map number ys) rising.0), rising)
        | false ↦ λ is.
            (each_put (λ k. nat_cmp (number y) k ≡ Less) x ys (above (number x) (number y) apart.0 is) rising.0, put_rises x ys apart.1 rising.1)
      ] refl

  in_order_rises : (xs : List X) → IsDistinct (eq_by_cmp nat_cmp) (map number xs) → IsStrictlySortedBy nat_cmp (map number (in_order xs))
  unfolding IsStrictlySortedBy IsDistinct
  in_order_rises [] apart = tt
  in_order_rises (x ∷ xs) apart =
      put_rises x (in_order xs) (each_in_order (λ k. eq_by_cmp nat_cmp (number x) k ≡ false) xs (IsDistinct-head (eq_by_cmp nat_cmp) (number x) (map number xs) apart))
      (in_order_rises xs apart.1)

  -- the rows in the order of their numbers
  pub sorted : (xs : List X) → IsDistinct (eq_by_cmp nat_cmp) (map number xs) → (ys : List X) × IsPermutation xs ys × IsStrictlySortedBy nat_cmp (map number ys)
  sorted xs apart = (in_order xs, in_order_same xs, in_order_rises xs apart)
