-- What is read off the rows of pieces, piece by piece.
use Rattle.std.proofs.Common.{◌≡◌, ◌∙◌, ap, sym, refl, ℕ, ◌+◌, ◌<◌, ◌≤◌, Bool, cond, length, take, drop, get_or, arith, List, [], ◌∷◌, ◌++◌, append-nil, append_assoc, Some}
use Rattle.std.specs.Prelude.{◌&&◌, count_by, find}
use Rattle.std.specs.Option.{option_or}
use Rattle.std.specs.List.{list_all}
use Rattle.std.specs.Map.{values_of}
use Rattle.std.proofs.lemmas.List.{take_more, take-append-drop, map-append, length-append, length-map}
use Rattle.std.proofs.lemmas.List.Folds.{find-append, list_all-append}
use Rattle.std.proofs.lemmas.List.Sums.{count_by-le-length, sum_by-append}
use Rattle.adm_table.specs.declared.pieces.Piece.{Piece}
use Rattle.adm_table.specs.Pieces.{rows_of_pieces}

module _ {K V : Type 0} where
  rows-both : (xs ys : List (Piece K V)) → rows_of_pieces (xs ++ ys) ≡ rows_of_pieces xs ++ rows_of_pieces ys
  rows-both [] ys = refl
  rows-both (x ∷ xs) ys = ap (λ rows. x.rows.value.entries ++ rows) (rows-both xs ys) ∙ sym (append_assoc x.rows.value.entries (rows_of_pieces xs) (rows_of_pieces ys))

  -- a test of all rows is one of the rows of each piece
  pub list_all-pieces : (p : K × V → Bool) (pieces : List (Piece K V)) → list_all p (rows_of_pieces pieces) ≡ list_all (λ piece. list_all p piece.rows.value.entries) pieces
  list_all-pieces p [] = refl
  list_all-pieces p (piece ∷ pieces) =
      list_all-append p piece.rows.value.entries (rows_of_pieces pieces) ∙ ap (λ b. list_all p piece.rows.value.entries && b) (list_all-pieces p pieces)

  -- the values of the pieces before a place, and of one more
  pub values-more : (place : ℕ) (pieces : List (Piece K V)) (piece : Piece K V) → place < length pieces → piece ≡ get_or pieces place piece
      → values_of (rows_of_pieces (take (place + 1) pieces)) ≡ values_of (rows_of_pieces (take place pieces)) ++ values_of piece.rows.value.entries
  values-more place pieces piece within at =
      ap (λ ps. values_of (rows_of_pieces ps)) (take_more pieces place piece within ∙ ap (λ p. take place pieces ++ p ∷ []) (sym at))
      ∙ ap values_of (rows-both (take place pieces) (piece ∷ []))
      ∙ map-append (λ e. e.1) (rows_of_pieces (take place pieces)) (piece.rows.value.entries ++ [])
      ∙ ap (λ es. values_of (rows_of_pieces (take place pieces)) ++ values_of es) (append-nil piece.rows.value.entries)

  -- as many of the rows before a place pass a test as there are rows, at most
  pub count-within : (p : V → Bool) (place : ℕ) (pieces : List (Piece K V)) → count_by p (values_of (rows_of_pieces (take place pieces))) ≤ length (rows_of_pieces pieces)
  count-within p place pieces =
      let before = rows_of_pieces (take place pieces) in
      let few = count_by-le-length p (values_of before) in
      let same = length-map before (λ (e : K × V). e.1) in
      let whole = ap length (sym (ap rows_of_pieces (take-append-drop place pieces)) ∙ rows-both (take place pieces) (drop place pieces)) ∙ length-append before (rows_of_pieces (drop place pieces)) in
      omega arith

  pub count-more : (p : V → Bool) (place : ℕ) (pieces : List (Piece K V)) (piece : Piece K V) → place < length pieces → piece ≡ get_or pieces place piece
      → count_by p (values_of (rows_of_pieces (take (place + 1) pieces))) ≡ count_by p (values_of (rows_of_pieces (take place pieces))) + count_by p (values_of piece.rows.value.entries)
  count-more p place pieces piece within at =
      ap (count_by p) (values-more place pieces piece within at)
      ∙ sum_by-append (λ v. cond (p v) 1 0) (values_of (rows_of_pieces (take place pieces))) (values_of piece.rows.value.entries)

  -- the first row before a place that passes, and of one more
  pub find-more : (p : V → Bool) (place : ℕ) (pieces : List (Piece K V)) (piece : Piece K V) → place < length pieces → piece ≡ get_or pieces place piece
      → find p (values_of (rows_of_pieces (take (place + 1) pieces))) ≡ option_or (find p (values_of (rows_of_pieces (take place pieces)))) (find p (values_of piece.rows.value.entries))
  find-more p place pieces piece within at =
      ap (find p) (values-more place pieces piece within at) ∙ find-append p (values_of (rows_of_pieces (take place pieces))) (values_of piece.rows.value.entries)

  -- one that is found before a place is the first of all
  pub find-first : (p : V → Bool) (place : ℕ) (pieces : List (Piece K V)) (row : V) → find p (values_of (rows_of_pieces (take place pieces))) ≡ Some row
      → find p (values_of (rows_of_pieces pieces)) ≡ Some row
  find-first p place pieces row found =
      let whole : values_of (rows_of_pieces pieces) ≡ values_of (rows_of_pieces (take place pieces)) ++ values_of (rows_of_pieces (drop place pieces)) =
      ap values_of (ap rows_of_pieces (sym (take-append-drop place pieces)) ∙ rows-both (take place pieces) (drop place pieces))
      ∙ map-append (λ e. e.1) (rows_of_pieces (take place pieces)) (rows_of_pieces (drop place pieces)) in
      ap (find p) whole ∙ find-append p (values_of (rows_of_pieces (take place pieces))) (values_of (rows_of_pieces (drop place pieces)))
      ∙ ap (λ o. option_or o (find p (values_of (rows_of_pieces (drop place pieces))))) found
