-- Codes that are listed are in the list, and a list whose keys rise is one that rises.
use Rattle.std.proofs.Common.{◌≡◌, inl, inr, ap, refl, Bool, true, false, ℕ, List, [], ◌∷◌, map}
use Rattle.std.specs.Prelude.{◌&&◌, ◌||◌, nat_eq}
use Rattle.std.specs.declared.cmp.Ordering.{Ordering}
use Rattle.std.specs.declared.cmp.Ordering.TheVariants.{Less}
use Rattle.std.specs.Ordering.{is_lt}
use Rattle.std.specs.Cmp.Lexicographic.{pointwise, bytes_decides}
use Rattle.std.specs.List.{AllByRecursion, list_all}
use Rattle.std.specs.List.Sorted.{IsStrictlySortedBy}
use Rattle.std.proofs.lemmas.Bool.{false≢true, or_cases}
use Rattle.adm_lists.proofs.Members.{In}
use Rattle.adm_types.specs.Limits.{is_listed}
use Rattle.adm_draws.specs.Draws.{rises}

-- a code that is listed is in the list
pub listed_in : (codes : List (List ℕ)) (code : List ℕ) → is_listed codes code ≡ true → In code codes
listed_in [] code listed = absurd (false≢true listed)
listed_in (other ∷ codes) code listed = elim (or_cases (pointwise nat_eq other code) (is_listed codes code) listed) [
  | inl same ↦ inl ((bytes_decides other code).0 same)
  | inr later ↦ inr (listed_in codes code later)
]

-- and one that is there is listed
pub in_listed : (codes : List (List ℕ)) (code : List ℕ) → In code codes → is_listed codes code ≡ true
in_listed [] code at = absurd at
in_listed (other ∷ codes) code at = elim at [
  | inl same ↦ ap (λ b. b || is_listed codes code) ((bytes_decides other code).1 same)
  | inr later ↦ either (pointwise nat_eq other code) (is_listed codes code) (in_listed codes code later)
]
  where
    either : (a b : Bool) → b ≡ true → (a || b) ≡ true
    either true b e = refl
    either false b e = e

-- keys that rise make rows that rise
pub rises_by : {X K : Type 0} (cmp : K → K → Ordering) (key : X → K) (xs : List X) → IsStrictlySortedBy cmp (map key xs) → rises (λ x y. cmp (key x) (key y)) xs ≡ true
unfolding IsStrictlySortedBy
rises_by cmp key [] sorted = refl
rises_by {X = X} cmp key (x ∷ xs) sorted = λ i. first x xs sorted.0 i && rises_by cmp key xs sorted.1 i
  where
    first : (x : X) (xs : List X) → AllByRecursion (λ k. cmp (key x) k ≡ Less) (map key xs) → list_all (λ y. is_lt (cmp (key x) (key y))) xs ≡ true
    first x [] less = refl
    first x (y ∷ ys) less = λ i. is_lt (less.0 i) && first x ys less.1 i
