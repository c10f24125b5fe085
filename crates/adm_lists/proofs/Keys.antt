-- A list by keys: what it has at each of them where these rise.
use Rattle.std.proofs.Common.{◌≡◌, ◌∙◌, inl, inr, ap, sym, subst, refl, cond, true, false, ℕ, List, [], ◌∷◌, map, Option, Some, None, Less}
use Rattle.std.specs.Option.{option_or}
use Rattle.std.specs.Ordering.{nat_cmp}
use Rattle.std.specs.Cmp.{nat_cmp_total}
use Rattle.std.specs.BTreeMap.{is_at}
use Rattle.std.specs.List.{AllByRecursion}
use Rattle.std.specs.List.Sorted.{IsStrictlySortedBy}
use Rattle.std.specs.Map.{keys_of, values_of, lookup}
use Rattle.std.specs.FinMap.{nat_cmp-IsAntisymmetric}
use Rattle.std.proofs.lemmas.Option.{same_Some, none-some}
use Rattle.adm_lists.proofs.Orders.{same_key, tied}
use Rattle.adm_lists.proofs.Members.{In}
use Rattle.adm_lists.proofs.Maps.{apart}

-- each element with its key
abbrev pub by_key : {X : Type 0} → (X → ℕ) → List X → List (ℕ × X)
by_key key xs = map (λ x. (key x, x)) xs

-- what the key has in the list
abbrev pub at_key : {X : Type 0} → (X → ℕ) → List X → ℕ → Option X
at_key key xs q = lookup (is_at (nat_cmp q)) (by_key key xs)

-- what an element gives, if anything, in place of what was there
abbrev pub put_over : {X V : Type 0} → (X → Option V) → Option X → Option V → Option V
put_over h None there = there
put_over h (Some x) there = option_or (h x) there

-- the keys are those of the elements
pub keys_by : {X : Type 0} (key : X → ℕ) (xs : List X) → keys_of (by_key key xs) ≡ map key xs
keys_by key [] = refl
keys_by key (x ∷ xs) = ap (λ ks. key x ∷ ks) (keys_by key xs)

-- and the values are the elements
pub values_by : {X : Type 0} (key : X → ℕ) (xs : List X) → values_of (by_key key xs) ≡ xs
values_by key [] = refl
values_by key (x ∷ xs) = ap (λ ys. x ∷ ys) (values_by key xs)

-- what is found at a key is in the list, and has that key
pub from_key : {X : Type 0} (key : X → ℕ) (xs : List X) (q : ℕ) (x : X) → at_key key xs q ≡ Some x → In x xs × (key x ≡ q)
from_key key [] q x there = absurd (none-some x there)
from_key {X = X} key (y ∷ ys) q x there =
    elim (is_at (nat_cmp q) (key y)) as (λ b. is_at (nat_cmp q) (key y) ≡ b → cond b (Some y) (at_key key ys q) ≡ Some x → In x (y ∷ ys) × (key x ≡ q)) [
      | true ↦ λ tie here. let same : y ≡ x = same_Some y x here in (inl same, ap key (sym same) ∙ sym (same_key nat_cmp-IsAntisymmetric q (key y) tie))
      | false ↦ λ tie here. let found = from_key key ys q x here in (inr found.0, found.1)
    ] refl there

module _ {X : Type 0} (key : X → ℕ) where
  -- a key below those of the elements is below those that they are paired with
  pub rising : (x : X) (xs : List X) → AllByRecursion (λ k. nat_cmp (key x) k ≡ Less) (map key xs) → AllByRecursion (λ k. nat_cmp (key x) k ≡ Less) (keys_of (by_key key xs))
  rising x xs less = subst (AllByRecursion (λ k. nat_cmp (key x) k ≡ Less)) (sym (keys_by key xs)) less

  -- each element is found by its key where the keys rise
  pub in_key : (xs : List X) (x : X) → IsStrictlySortedBy nat_cmp (map key xs) → In x xs → at_key key xs (key x) ≡ Some x
  unfolding IsStrictlySortedBy
  in_key [] x sorted at = absurd at
  in_key (y ∷ ys) x sorted at = elim at [
    | inl same ↦ ap (λ b. cond b (Some y) (at_key key ys (key x))) (ap (λ z. is_at (nat_cmp (key x)) (key z)) same ∙ tied nat_cmp_total (key x)) ∙ ap Some same
    | inr later ↦
        let there = in_key ys x sorted.1 later in
        ap (λ b. cond b (Some y) (at_key key ys (key x))) (apart nat_cmp-IsAntisymmetric (key y) (by_key key ys) (rising y ys sorted.0) (key x) x there) ∙ there
  ]
