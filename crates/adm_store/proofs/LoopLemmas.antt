-- The list of rows that a loop writes, with the rows of one more item.
use Rattle.std.proofs.Common.{◌≡◌, ◌∙◌, ℕ, ◌+◌, ◌<◌, List, [], ◌∷◌, ◌++◌, length, get_or, take, map, sym, ap, append_assoc, append-nil}
use Rattle.std.specs.List.{flat_map}
use Rattle.std.proofs.lemmas.Grind.{flat_map-append}
use Rattle.std.proofs.lemmas.List.{map-append, take_more}
use Rattle.adm_schema.proofs.Lists.{map_more}

-- one more row, which is that of the next item
pub written_more : {X W R : Type 0} (f : W → R) (g : X → R) (xs : List X) (i : ℕ) (x : X) (was now : List W) (w : W) → i < length xs → x ≡ get_or xs i x
    → map f was ≡ map g (take i xs) → now ≡ was ++ w ∷ [] → f w ≡ g x → map f now ≡ map g (take (i + 1) xs)
written_more f g xs i x was now w low is so_far next row = ap (map f) next ∙ map-append f was (w ∷ []) ∙ (λ k. so_far k ++ row k ∷ []) ∙ sym (map_more g xs i x low is)

-- the rows of one more item, after others
pub parts_more : {X Y : Type 0} (f : X → List Y) (before : List Y) (xs : List X) (i : ℕ) (x : X) (was now : List Y) → i < length xs → x ≡ get_or xs i x
    → was ≡ before ++ flat_map f (take i xs) → now ≡ was ++ f x → now ≡ before ++ flat_map f (take (i + 1) xs)
parts_more f before xs i x was now low is so_far next =
    let more : take (i + 1) xs ≡ take i xs ++ x ∷ [] = take_more xs i x low ∙ ap (λ y. take i xs ++ y ∷ []) (sym is) in
    let parts : flat_map f (take (i + 1) xs) ≡ flat_map f (take i xs) ++ f x = ap (flat_map f) more ∙ flat_map-append f (take i xs) (x ∷ [])
    ∙ ap (λ ys. flat_map f (take i xs) ++ ys) (append-nil (f x)) in
    next ∙ ap (λ ys. ys ++ f x) so_far ∙ append_assoc before (flat_map f (take i xs)) (f x) ∙ ap (λ ys. before ++ ys) (sym parts)
