-- What holds of each element of a list, also in another order and of what a function makes of them.
use Rattle.std.proofs.Common.{◌≡◌, refl, List, [], ◌∷◌}
use Rattle.std.specs.Prelude.{map}
use Rattle.std.specs.List.{All, AllByRecursion}
use Rattle.std.specs.List.Sorted.{IsPermutation}
use Rattle.std.proofs.lemmas.List.Elements.{All-nil, All-cons, All-head, All-tail}
use Rattle.std.proofs.lemmas.List.Sorted.{All-permutation}

module _ {X : Type 0} (P : X → Type 0) where
  all_of : (xs : List X) → AllByRecursion P xs → All P xs
  all_of [] each = All-nil P
  all_of (x ∷ xs) each = All-cons P x xs each.0 (all_of xs each.1)

  each_of : (xs : List X) → All P xs → AllByRecursion P xs
  each_of [] all = tt
  each_of (x ∷ xs) all = (All-head P x xs all, each_of xs (All-tail P x xs all))

  -- the order says nothing
  pub each_permuted : (xs ys : List X) → IsPermutation xs ys → AllByRecursion P xs → AllByRecursion P ys
  each_permuted xs ys permuted each = each_of ys (All-permutation P xs ys permuted (all_of xs each))

module _ {X Y : Type 0} (f : X → Y) where
  pub each_map : (P : Y → Type 0) (xs : List X) → AllByRecursion (λ x. P (f x)) xs → AllByRecursion P (map f xs)
  each_map P [] each = tt
  each_map P (x ∷ xs) each = (each.0, each_map P xs each.1)

  pub map_twice : {Z : Type 0} (g : Y → Z) (xs : List X) → map g (map f xs) ≡ map (λ x. g (f x)) xs
  map_twice g [] = refl
  map_twice g (x ∷ xs) = λ i. g (f x) ∷ map_twice g xs i
