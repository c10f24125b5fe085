-- The result of a walk over a list, with one element more.
use Rattle.std.proofs.Common.{◌≡◌, ◌∙◌, ap, sym, ℕ, ◌+◌, ◌<◌, length, take, get_or, List, [], ◌∷◌, ◌++◌, append-nil, Option, Some, None, map}
use Rattle.std.specs.List.{filter_map, cons_option}
use Rattle.std.proofs.lemmas.List.{take_more, map-append}
use Rattle.std.proofs.lemmas.List.Elements.{filter_map-append}

-- the elements before a place, and of one more
pub next_of : {X : Type 0} (xs : List X) (i : ℕ) (x : X) → i < length xs → x ≡ get_or xs i x → take (i + 1) xs ≡ take i xs ++ x ∷ []
next_of xs i x within at = take_more xs i x within ∙ ap (λ y. take i xs ++ y ∷ []) (sym at)

module _ {X Y : Type 0} where
  -- what they are mapped to
  pub map_next : (f : X → Y) (xs : List X) (i : ℕ) (x : X) → x ≡ get_or xs i x → i < length xs → map f (take (i + 1) xs) ≡ map f (take i xs) ++ f x ∷ []
  map_next f xs i x at within = ap (map f) (next_of xs i x within at) ∙ map-append f (take i xs) (x ∷ [])

  -- what they give, where some give nothing
  filter_next : (h : X → Option Y) (xs : List X) (i : ℕ) (x : X) → x ≡ get_or xs i x → i < length xs → filter_map h (take (i + 1) xs) ≡ filter_map h (take i xs) ++ cons_option (h x) []
  filter_next h xs i x at within = ap (filter_map h) (next_of xs i x within at) ∙ filter_map-append h (take i xs) (x ∷ [])

  -- where the next gives something, that is added
  pub next_added : (h : X → Option Y) (xs : List X) (i : ℕ) (x : X) (y : Y) → x ≡ get_or xs i x → i < length xs → h x ≡ Some y → filter_map h (take (i + 1) xs) ≡ filter_map h (take i xs) ++ y ∷ []
  next_added h xs i x y at within gives = filter_next h xs i x at within ∙ ap (λ o. filter_map h (take i xs) ++ cons_option o []) gives

  -- and where it gives nothing, nothing is
  pub next_left_out : (h : X → Option Y) (xs : List X) (i : ℕ) (x : X) → x ≡ get_or xs i x → i < length xs → h x ≡ None → filter_map h (take (i + 1) xs) ≡ filter_map h (take i xs)
  next_left_out h xs i x at within gives = filter_next h xs i x at within ∙ ap (λ o. filter_map h (take i xs) ++ cons_option o []) gives ∙ append-nil (filter_map h (take i xs))
