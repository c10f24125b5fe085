-- The values of the rows of pieces, piece by piece.
use Rattle.std.proofs.Common.{◌≡◌, ◌∙◌, ap, sym, ℕ, ◌+◌, ◌<◌, length, take, get_or, List, [], ◌∷◌, ◌++◌, append-nil}
use Rattle.std.specs.Map.{values_of}
use Rattle.std.proofs.lemmas.List.{take_more, map-append}
use Rattle.adm_table.specs.declared.pieces.Piece.{Piece}
use Rattle.adm_table.specs.Pieces.{rows_of_pieces}
use Rattle.adm_table.proofs.PieceRuns.{rows-both}

module _ {K V : Type 0} where
  -- the values of the pieces before a place, and of one more
  pub values-more : (place : ℕ) (pieces : List (Piece K V)) (piece : Piece K V) → place < length pieces → piece ≡ get_or pieces place piece
      → values_of (rows_of_pieces (take (place + 1) pieces)) ≡ values_of (rows_of_pieces (take place pieces)) ++ values_of piece.rows.value.entries
  values-more place pieces piece within at =
      ap (λ ps. values_of (rows_of_pieces ps)) (take_more pieces place piece within ∙ ap (λ p. take place pieces ++ p ∷ []) (sym at))
      ∙ ap values_of (rows-both (take place pieces) (piece ∷ []))
      ∙ map-append (λ e. e.1) (rows_of_pieces (take place pieces)) (piece.rows.value.entries ++ [])
      ∙ ap (λ es. values_of (rows_of_pieces (take place pieces)) ++ values_of es) (append-nil piece.rows.value.entries)
