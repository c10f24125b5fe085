-- Lists of items, of which one may be missing.
use Rattle.std.proofs.Common.{◌≡◌, ◌∙◌, ℕ, suc, zero, ◌<◌, List, [], ◌∷◌, map, length, get_or, Some, None, Option, refl, sym, ap, arith}
use Rattle.std.specs.Option.{option_map}
use Rattle.adm_types.specs.Joined.{all_some}

pub all_some_of : {X : Type 0} (xs : List X) → all_some (map Some xs) ≡ Some xs
all_some_of [] = refl
all_some_of (x ∷ xs) = ap (option_map (λ ys. x ∷ ys)) (all_some_of xs)

-- one that is missing
pub all_some_none : {X : Type 0} (xs : List (Option X)) (i : ℕ) (x : Option X) → i < length xs → x ≡ get_or xs i x → x ≡ None → all_some xs ≡ None
all_some_none [] i x low is none = absurd (omega arith)
all_some_none (Some y ∷ xs) zero x low is none = absurd (let e = sym is ∙ none in cc)
all_some_none (None ∷ xs) zero x low is none = refl
all_some_none (Some y ∷ xs) (suc i) x low is none = ap (option_map (λ ys. y ∷ ys)) (all_some_none xs i x (omega arith) is none)
all_some_none (None ∷ xs) (suc i) x low is none = refl
