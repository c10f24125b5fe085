-- What holds of each element of a list, and the tests that all or some of them pass.
use Rattle.std.proofs.Common.{◌≡◌, ◌∙◌, ap, refl, cond, Bool, true, false, ◌&&◌, ◌||◌, List, [], ◌∷◌, ◌++◌, map, filter, take_while}
use Rattle.std.specs.List.{AllByRecursion, list_all, list_any}
use Rattle.std.proofs.lemmas.Bool.{and_parts, or_parts}
use Rattle.std.proofs.lemmas.List.Sums.{take_while-cons}

-- ---- what holds of each

-- what follows from it holds of each, too
pub each_weaker : {X : Type 0} (P Q : X → Type 0) → ((x : X) → P x → Q x) → (xs : List X) → AllByRecursion P xs → AllByRecursion Q xs
each_weaker P Q weaker [] each = tt
each_weaker P Q weaker (x ∷ xs) each = (weaker x each.0, each_weaker P Q weaker xs each.1)

-- and two things that each has, both of them
pub each_both : {X : Type 0} (P Q : X → Type 0) (xs : List X) → AllByRecursion P xs → AllByRecursion Q xs → AllByRecursion (λ x. P x × Q x) xs
each_both P Q [] each other = tt
each_both P Q (x ∷ xs) each other = ((each.0, other.0), each_both P Q xs each.1 other.1)

-- what holds of each of two lists holds of each of them joined
pub each_append : {X : Type 0} (P : X → Type 0) (xs ys : List X) → AllByRecursion P xs → AllByRecursion P ys → AllByRecursion P (xs ++ ys)
each_append P [] ys first second = second
each_append P (x ∷ xs) ys first second = (first.0, each_append P xs ys first.1 second)

-- and with one more at the end
pub each_push : {X : Type 0} (P : X → Type 0) (xs : List X) (x : X) → AllByRecursion P xs → P x → AllByRecursion P (xs ++ x ∷ [])
each_push P [] x all one = (one, tt)
each_push P (y ∷ ys) x all one = (all.0, each_push P ys x all.1 one)

-- ---- tests

-- all pass a test that each passes where it passes another, which all pass
pub list_all-weaker : {A : Type 0} (p q : A → Bool) → ((x : A) → p x ≡ true → q x ≡ true) → (xs : List A) → list_all p xs ≡ true → list_all q xs ≡ true
list_all-weaker p q weaker [] all = refl
list_all-weaker p q weaker (x ∷ xs) all =
    elim (p x) as (λ b. p x ≡ b → (b && list_all p xs) ≡ true → (q x && list_all q xs) ≡ true) [
      | true ↦ λ here rest. rw (weaker x here) (list_all-weaker p q weaker xs rest)
      | false ↦ λ here rest. cc
    ] refl all

-- some of what a list is mapped to pass where some of the list pass the test after the map
pub any-map : {X Y : Type 0} (p : Y → Bool) (f : X → Y) (xs : List X) → list_any p (map f xs) ≡ list_any (λ x. p (f x)) xs
any-map p f [] = refl
any-map p f (x ∷ xs) = λ i. p (f x) || any-map p f xs i

-- ---- tests of a part of a list: of those that pass another test, or of the front that does

module _ {X : Type 0} where
  -- what none of a list passes, none of those do
  pub any-filter : (t p : X → Bool) (xs : List X) → list_any t xs ≡ false → list_any t (filter p xs) ≡ false
  any-filter t p [] none = refl
  any-filter t p (x ∷ xs) none =
      let parts = or_parts (t x) (list_any t xs) none in
      elim (p x) as (λ b. list_any t (cond b (x ∷ filter p xs) (filter p xs)) ≡ false) [
        | true ↦ λ i. parts.0 i || any-filter t p xs parts.1 i
        | false ↦ any-filter t p xs parts.1
      ]

  -- nor any of the front
  pub any-take_while : (t p : X → Bool) (xs : List X) → list_any t xs ≡ false → list_any t (take_while p xs) ≡ false
  any-take_while t p [] none = refl
  any-take_while t p (x ∷ xs) none =
      let parts = or_parts (t x) (list_any t xs) none in
      ap (list_any t) (take_while-cons p x xs)
      ∙ elim (p x) as (λ b. list_any t (cond b (x ∷ take_while p xs) []) ≡ false) [
        | true ↦ λ i. parts.0 i || any-take_while t p xs parts.1 i
        | false ↦ refl
      ]

  -- what all of a list pass, all of those do
  pub all-filter : (q p : X → Bool) (xs : List X) → list_all q xs ≡ true → list_all q (filter p xs) ≡ true
  all-filter q p [] all = refl
  all-filter q p (x ∷ xs) all =
      let both = and_parts (q x) (list_all q xs) all in
      elim (p x) as (λ b. list_all q (cond b (x ∷ filter p xs) (filter p xs)) ≡ true) [
        | true ↦ λ i. both.0 i && all-filter q p xs both.1 i
        | false ↦ all-filter q p xs both.1
      ]

  -- and all of the front
  pub all-take_while : (q p : X → Bool) (xs : List X) → list_all q xs ≡ true → list_all q (take_while p xs) ≡ true
  all-take_while q p [] all = refl
  all-take_while q p (x ∷ xs) all =
      let both = and_parts (q x) (list_all q xs) all in
      ap (list_all q) (take_while-cons p x xs)
      ∙ elim (p x) as (λ b. list_all q (cond b (x ∷ take_while p xs) []) ≡ true) [
        | true ↦ λ i. both.0 i && all-take_while q p xs both.1 i
        | false ↦ refl
      ]
