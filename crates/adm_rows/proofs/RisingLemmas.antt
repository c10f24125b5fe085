-- Lists in rising order with the same members.
use Rattle.std.proofs.Common.{◌≡◌, ◌∙◌, ℕ, suc, ◌+◌, ◌<◌, ◌≤◌, Bool, true, false, List, [], ◌∷◌, nat_lt, refl, sym, subst, arith}
use Rattle.std.specs.Prelude.{◌==◌, slice_index}
use Rattle.std.specs.List.{list_any}
use Rattle.std.specs.List.Sorted.{IsStrictlyIncreasing}
use Rattle.std.proofs.lemmas.Bool.Decides.{nat_tests}

tail_rises : (x : ℕ) (xs : List ℕ) → IsStrictlyIncreasing (x ∷ xs) → IsStrictlyIncreasing xs
tail_rises x xs h k low = let next : suc k + 1 ≡ suc (k + 1) = omega arith in subst (λ j. slice_index xs k < slice_index (x ∷ xs) j) next (h (suc k) (omega arith))

abbrev is_in : ℕ → List ℕ → Bool
is_in n = list_any (λ other. other == n)

-- what is not above the head is not in the tail
not_in_tail : (x : ℕ) (xs : List ℕ) → IsStrictlyIncreasing (x ∷ xs) → (n : ℕ) → n ≤ x → is_in n xs ≡ false
not_in_tail x [] h n low = refl
not_in_tail x (y ∷ ys) h n low =
    let above : x < y = h 0 (omega arith) in
    let other : (y == n) ≡ false = grind (arith, nat_tests) in
    let rest : is_in n ys ≡ false = not_in_tail y ys (tail_rises x (y ∷ ys) h) n (omega arith) in
    rw (other, rest) refl

head_in : (x : ℕ) (xs : List ℕ) → is_in x (x ∷ xs) ≡ true
head_in x xs = let same : (x == x) ≡ true = grind (arith, nat_tests) in rw same refl

-- the head of one is not below the head of the other
not_below : (x y : ℕ) (xs ys : List ℕ) → IsStrictlyIncreasing (y ∷ ys) → is_in x (x ∷ xs) ≡ is_in x (y ∷ ys) → y ≤ x
not_below x y xs ys rises same = elim (nat_lt x y) as (λ b. nat_lt x y ≡ b → y ≤ x) [
  | true ↦ λ t. absurd (let below : x < y = grind (arith, nat_tests) in
      let other : (y == x) ≡ false = grind (arith, nat_tests) in
      let rest : is_in x ys ≡ false = not_in_tail y ys rises x (omega arith) in
      let none : is_in x (y ∷ ys) ≡ false = rw (other, rest) refl in
      let wrong : true ≡ false = sym (head_in x xs) ∙ same ∙ none in cc)
  | false ↦ λ f. grind (arith, nat_tests)
] refl

tails_alike : (x : ℕ) (xs ys : List ℕ) → IsStrictlyIncreasing (x ∷ xs) → IsStrictlyIncreasing (x ∷ ys) → ((n : ℕ) → is_in n (x ∷ xs) ≡ is_in n (x ∷ ys)) → (n : ℕ) → is_in n xs ≡ is_in n ys
tails_alike x xs ys p q same n = elim (x == n) as (λ b. (x == n) ≡ b → is_in n xs ≡ is_in n ys) [
  | true ↦ λ t. let at : n ≤ x = grind (arith, nat_tests) in not_in_tail x xs p n at ∙ sym (not_in_tail x ys q n at)
  | false ↦ λ f. rw f at (same n)
] refl

-- a list that rises is the one with its members
pub rising_once : (xs ys : List ℕ) → IsStrictlyIncreasing xs → IsStrictlyIncreasing ys → ((n : ℕ) → list_any (λ other. other == n) xs ≡ list_any (λ other. other == n) ys) → xs ≡ ys
rising_once [] [] p q same = refl
rising_once [] (y ∷ ys) p q same = absurd (let wrong : false ≡ true = same y ∙ head_in y ys in cc)
rising_once (x ∷ xs) [] p q same = absurd (let wrong : true ≡ false = sym (head_in x xs) ∙ same x in cc)
rising_once (x ∷ xs) (y ∷ ys) p q same =
    let up : y ≤ x = not_below x y xs ys q (same x) in
    let down : x ≤ y = not_below y x ys xs p (sym (same y)) in
    let heads : x ≡ y = omega arith in
    let q2 : IsStrictlyIncreasing (x ∷ ys) = subst (λ z. IsStrictlyIncreasing (z ∷ ys)) (sym heads) q in
    let same2 : (n : ℕ) → is_in n (x ∷ xs) ≡ is_in n (x ∷ ys) = subst (λ z. (n : ℕ) → is_in n (x ∷ xs) ≡ is_in n (z ∷ ys)) (sym heads) same in
    (λ k. heads k ∷ rising_once xs ys (tail_rises x xs p) (tail_rises y ys q) (tails_alike x xs ys p q2 same2) k)
