-- Lists as texts, with `;` between each two items.
use Rattle.std.specs.Prelude.{ℕ, ◌==◌, List, [], ◌∷◌, map, Option, Some, option_map, option_and_then}
use Rattle.std.specs.List.{join_with_byte, slice_split}
use Rattle.adm_types.specs.Code.{code_of}

-- the texts, with `;` between each two
abbrev pub joined : List (List ℕ) → List ℕ
joined = join_with_byte 59

-- ---- what such a text is read as

-- each item, where none is missing
abbrev pub all_some : {X : Type 0} → List (Option X) → Option (List X)
all_some [] = Some []
all_some (item ∷ items) = option_and_then (λ x. option_map (λ xs. x ∷ xs) (all_some items)) item

-- the texts between the `;`
abbrev pub pieces : List ℕ → List (List ℕ)
pieces = slice_split (λ b. b == 59)

-- the items, where each piece is one; the empty text is the empty list
abbrev pub items_of : {X : Type 0} → (List ℕ → Option X) → List ℕ → Option (List X)
items_of item_of [] = Some []
items_of item_of (b ∷ text) = all_some (map item_of (pieces (b ∷ text)))

-- codes of schools
abbrev pub codes_of : List ℕ → Option (List (List ℕ))
codes_of = items_of code_of
