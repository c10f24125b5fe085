-- Walks that add the JSON of one item after another, and of those items alone that pass a test.
use Rattle.std.proofs.Common.{◌≡◌, ◌∙◌, ap, sym, List, [], ◌∷◌, ◌++◌, ℕ, ◌+◌, ◌<◌, take, get_or, length, map}
use Rattle.std.specs.Prelude.{filter, nat_eq}
use Rattle.adm_types.specs.declared.rows.LeftPair.{LeftPair}
use Rattle.std.proofs.lemmas.List.{map-append}
use Rattle.serde_json.specs.Data.{Data}
use Rattle.serde_json.specs.View.{view}
use Rattle.serde_json.specs.declared.value.Value.{Value}
use Rattle.adm_lists.proofs.Walks.{map_next}

-- one more item is in its form
pub one_more : {A : Type 0} (form : A → Data) (xs : List A) (i : ℕ) (x : A) (made more : List Value) (v : Value) → x ≡ get_or xs i x → i < length xs
    → map view made ≡ map form (take i xs) → view v ≡ form x → more ≡ made ++ v ∷ [] → map view more ≡ map form (take (i + 1) xs)
one_more form xs i x made more v at within so_far one added =
    ap (map view) added ∙ map-append view made (v ∷ []) ∙ ap (λ ds. ds ++ view v ∷ []) so_far ∙ ap (λ d. map form (take i xs) ++ d ∷ []) one ∙ sym (map_next form xs i x at within)

-- the codes of the pairs of a child
abbrev pub left_codes : ℕ → List LeftPair → List (List ℕ)
left_codes child pairs = map (λ (pair : LeftPair). pair.school) (filter (λ (pair : LeftPair). nat_eq pair.child child) pairs)
