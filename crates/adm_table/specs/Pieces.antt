-- Rows in pieces.
use Rattle.std.specs.Prelude.{◌≡◌, List, [], ◌∷◌, ◌++◌}
use Rattle.std.specs.List.{AllByRecursion}
use Rattle.std.specs.List.Sorted.{IsStrictlySortedBy}
use Rattle.std.specs.Map.{keys_of}
use Rattle.std.specs.declared.cmp.Ordering.{Ordering}
use Rattle.adm_table.specs.declared.pieces.Piece.{Piece}

-- the rows of all pieces, one after another
abbrev pub rows_of_pieces : {K V : Type 0} → List (Piece K V) → List (K × V)
rows_of_pieces [] = []
rows_of_pieces (piece ∷ pieces) = piece.rows.value.entries ++ rows_of_pieces pieces

-- those of the first piece
abbrev pub first_rows : {K V : Type 0} → List (Piece K V) → List (K × V)
first_rows [] = []
first_rows (piece ∷ pieces) = piece.rows.value.entries

-- there are rows, and the first has this key
abbrev pub FirstHasKey : {K V : Type 0} → K → List (K × V) → Type 0
FirstHasKey key [] = ⊥
FirstHasKey key (row ∷ rows) = key ≡ row.0

-- the piece has rows, and knows the key of the first
abbrev pub StartsRight : {K V : Type 0} → Piece K V → Type 0
StartsRight piece = FirstHasKey piece.first piece.rows.value.entries

-- the pieces have rows in the order of their keys, and know where they start
pub record ArePieces {K V : Type 0} (cmp : K → K → Ordering) (pieces : List (Piece K V)) : Type 0 where
  pub sorted : IsStrictlySortedBy cmp (keys_of (rows_of_pieces pieces))
  pub starts : AllByRecursion StartsRight pieces
