-- Texts that join their items by `;`, and what they are read as.
use Rattle.std.proofs.Common.{◌≡◌, ◌∙◌, ℕ, ◌+◌, ◌<◌, Bool, true, false, List, [], ◌∷◌, ◌++◌, map, take, length, get_or, refl, sym, ap, append_assoc}
use Rattle.std.specs.Prelude.{if◌then◌else◌}
use Rattle.adm_schema.proofs.Lists.{map_more}
use Rattle.adm_types.specs.Joined.{joined}

abbrev pub is_nil : {X : Type 0} → List X → Bool
is_nil [] = true
is_nil (x ∷ xs) = false

-- one more piece, after a `;` where it is not the first
abbrev joined_to : List (List ℕ) → List ℕ → List ℕ
joined_to [] x = x
joined_to (y ∷ ys) x = joined (y ∷ ys) ++ 59 ∷ x

joined_more : (xs : List (List ℕ)) (x : List ℕ) → joined (xs ++ x ∷ []) ≡ joined_to xs x
joined_more [] x = refl
joined_more (y ∷ []) x = refl
joined_more (y ∷ z ∷ xs) x = ap (λ t. y ++ 59 ∷ t) (joined_more (z ∷ xs) x) ∙ sym (append_assoc y (59 ∷ joined (z ∷ xs)) (59 ∷ x))

as_first : (xs : List (List ℕ)) (x : List ℕ) → (if is_nil xs then x else joined xs ++ 59 ∷ x) ≡ joined_to xs x
as_first [] x = refl
as_first (y ∷ ys) x = refl

nil_push : {X : Type 0} (xs : List X) (x : X) → is_nil (xs ++ x ∷ []) ≡ false
nil_push [] x = refl
nil_push (y ∷ ys) x = refl

-- the turn of a loop that writes such a text
pub appended : {X : Type 0} (write : X → List ℕ) (xs : List X) (i : ℕ) (x : X) (is_first : Bool) (was now piece : List ℕ) → i < length xs → x ≡ get_or xs i x
    → was ≡ joined (map write (take i xs)) → is_first ≡ is_nil (map write (take i xs))
    → piece ≡ write x → now ≡ (if is_first then piece else was ++ 59 ∷ piece) → now ≡ joined (map write (take (i + 1) xs))
appended write xs i x is_first was now piece low item so_far first text done =
    let ys = map write (take i xs) in
    let step : (if is_first then piece else was ++ 59 ∷ piece) ≡ (if is_nil ys then write x else joined ys ++ 59 ∷ write x) = λ k. if first k then text k else so_far k ++ 59 ∷ text k in
    done ∙ step ∙ as_first ys (write x) ∙ sym (joined_more ys (write x)) ∙ ap joined (sym (map_more write xs i x low item))

pub not_first : {X : Type 0} (write : X → List ℕ) (xs : List X) (i : ℕ) (x : X) → i < length xs → x ≡ get_or xs i x → false ≡ is_nil (map write (take (i + 1) xs))
not_first write xs i x low item = sym (ap is_nil (map_more write xs i x low item) ∙ nil_push (map write (take i xs)) (write x))
