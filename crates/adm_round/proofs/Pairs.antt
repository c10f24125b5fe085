-- Pairs of elements of a list, of which none passes a test.
use Rattle.std.proofs.Common.{◌≡◌, List, [], ◌∷◌, map, Bool, false, ◌||◌, inl, inr, refl, sym, ap, ◌∙◌, Ordering}
use Rattle.std.specs.List.{list_any, AllByRecursion}
use Rattle.std.specs.List.Sorted.{IsStrictlySortedBy}
use Rattle.std.specs.declared.cmp.Ordering.TheVariants.{Less}
use Rattle.std.proofs.lemmas.Bool.{or_parts}
use Rattle.adm_lists.proofs.Members.{In, none_in}
use Rattle.adm_match.specs.Market.{some_pair}

-- of two elements that differ, no pair passes
pub pair_not : {X : Type 0} (t : X → X → Bool) (xs : List X) (x y : X) → ((a b : X) → t a b ≡ t b a) → some_pair t xs ≡ false → In x xs → In y xs → (x ≡ y → ⊥) → t x y ≡ false
pair_not t [] x y swap h i j apart = absurd i
pair_not t (z ∷ zs) x y swap h i j apart =
    let parts = or_parts (list_any (t z) zs) (some_pair t zs) h in
    elim i [
      | inl first ↦ elim j [
        | inl second ↦ absurd (apart (sym first ∙ second))
        | inr later ↦ ap (λ a. t a y) (sym first) ∙ none_in (t z) zs y parts.0 later
      ]
      | inr behind ↦ elim j [
        | inl second ↦ swap x y ∙ (ap (λ a. t a x) (sym second) ∙ none_in (t z) zs x parts.0 behind)
        | inr later ↦ pair_not t zs x y swap parts.1 behind later apart
      ]
    ]

module _ {X K Y : Type 0} (key : X → K) (c : K → K → Ordering) (g : X → Y) (test : Y → Y → Bool) where
  none_behind : (x : X) (xs : List X) → ((y : X) → In y xs → c (key x) (key y) ≡ Less → test (g x) (g y) ≡ false) → AllByRecursion (λ k. c (key x) k ≡ Less) (map key xs)
      → list_any (test (g x)) (map g xs) ≡ false
  none_behind x [] h less = refl
  none_behind x (y ∷ ys) h less =
      λ i. h y (inl refl) less.0 i || none_behind x ys (λ z l. h z (inr l)) less.1 i

  -- where the keys rise, no pair passes a test that fails at each two of which the first has the smaller key
  pub no_pair : (xs : List X) → ((x y : X) → In x xs → In y xs → c (key x) (key y) ≡ Less → test (g x) (g y) ≡ false) → IsStrictlySortedBy c (map key xs) → some_pair test (map g xs) ≡ false
  unfolding IsStrictlySortedBy
  no_pair [] h sorted = refl
  no_pair (x ∷ xs) h sorted =
      λ i. none_behind x xs (λ y l. h x y (inl refl) (inr l)) sorted.0 i || no_pair xs (λ y z l m. h y z (inr l) (inr m)) sorted.1 i
