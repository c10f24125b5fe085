-- Rows in pieces, before, in and after the piece that a key belongs to.
use Rattle.std.proofs.Common.{◌≡◌, ◌∙◌, ap, sym, subst, refl, ℕ, zero, suc, ◌+◌, ◌<◌, ◌≤◌, length, take, drop, get_or, add-one, arith, List, [], ◌∷◌, ◌++◌, append_assoc, length-append, Some, None}
use Rattle.std.specs.declared.cmp.Ordering.{Ordering}
use Rattle.std.specs.declared.cmp.Ordering.TheVariants.{Less, Greater}
use Rattle.std.specs.Cmp.{IsTotalOrder}
use Rattle.std.specs.BTreeMap.{insert_entry, is_at}
use Rattle.std.specs.Map.{keys_of, lookup, remove_entry}
use Rattle.std.specs.List.{AllByRecursion, slice_get}
use Rattle.std.specs.List.Sorted.{IsStrictlySortedBy}
use Rattle.std.proofs.lemmas.List.{take-append-drop, drop_more, take_at, drop_at, length-take-le, take_more, drop_all}
use Rattle.adm_lists.proofs.Each.{each_weaker, each_append}
use Rattle.adm_table.specs.declared.pieces.Piece.{Piece}
use Rattle.adm_table.specs.Pieces.{ArePieces, StartsRight, FirstHasKey, rows_of_pieces, first_rows}
use Rattle.adm_table.proofs.Runs.{all-first, all-second, keys-both, sorted-before, sorted-after, sorted-inserted, sorted-removed, below, below_both}
use Rattle.adm_table.proofs.Runs.{lookup-after, lookup-before, insert-after, insert-before, remove-after, remove-before}

module _ {K V : Type 0} where
  pub rows-both : (xs ys : List (Piece K V)) → rows_of_pieces (xs ++ ys) ≡ rows_of_pieces xs ++ rows_of_pieces ys
  rows-both [] ys = refl
  rows-both (x ∷ xs) ys = ap (λ rows. x.rows.value.entries ++ rows) (rows-both xs ys) ∙ sym (append_assoc x.rows.value.entries (rows_of_pieces xs) (rows_of_pieces ys))

  -- the rows before a place, and from it on
  pub rows-at : (place : ℕ) (pieces : List (Piece K V)) → rows_of_pieces (take place pieces) ++ rows_of_pieces (drop place pieces) ≡ rows_of_pieces pieces
  rows-at place pieces = sym (rows-both (take place pieces) (drop place pieces)) ∙ ap rows_of_pieces (take-append-drop place pieces)

  rows-from : (place : ℕ) (pieces : List (Piece K V)) → rows_of_pieces (drop place pieces) ≡ first_rows (drop place pieces) ++ rows_of_pieces (drop (suc place) pieces)
  rows-from zero [] = refl
  rows-from zero (piece ∷ pieces) = refl
  rows-from (suc place) [] = refl
  rows-from (suc place) (piece ∷ pieces) = rows-from place pieces

  rows-around : (place : ℕ) (pieces : List (Piece K V)) → rows_of_pieces pieces ≡ rows_of_pieces (take place pieces) ++ (first_rows (drop place pieces) ++ rows_of_pieces (drop (place + 1) pieces))
  rows-around place pieces =
      sym (rows-at place pieces) ∙ ap (λ rows. rows_of_pieces (take place pieces) ++ rows) (rows-from place pieces
      ∙ ap (λ n. first_rows (drop place pieces) ++ rows_of_pieces (drop n pieces)) (sym (add-one place)))

  starts-before : (place : ℕ) (pieces : List (Piece K V)) → AllByRecursion StartsRight pieces → AllByRecursion StartsRight (take place pieces)
  starts-before place pieces starts = all-first StartsRight (take place pieces) (drop place pieces) (subst (AllByRecursion StartsRight) (sym (take-append-drop place pieces)) starts)

  starts-from : (place : ℕ) (pieces : List (Piece K V)) → AllByRecursion StartsRight pieces → AllByRecursion StartsRight (drop place pieces)
  starts-from place pieces starts = all-second StartsRight (take place pieces) (drop place pieces) (subst (AllByRecursion StartsRight) (sym (take-append-drop place pieces)) starts)

  -- without the piece at a place the others start as they did
  pub starts-without : (place : ℕ) (pieces others : List (Piece K V)) → others ≡ take place pieces ++ drop (place + 1) pieces → AllByRecursion StartsRight pieces → AllByRecursion StartsRight others
  starts-without place pieces others e starts =
      subst (AllByRecursion StartsRight) (sym e) (each_append StartsRight (take place pieces) (drop (place + 1) pieces) (starts-before place pieces starts) (starts-from (place + 1) pieces starts))

  from-place : (place : ℕ) (pieces : List (Piece K V)) (piece : Piece K V) → place < length pieces → piece ≡ get_or pieces place piece → drop place pieces ≡ piece ∷ drop (place + 1) pieces
  from-place place pieces piece within at = drop_more pieces place piece within ∙ ap (λ p. p ∷ drop (place + 1) pieces) (sym at)

  first-key : (key : K) (rows : List (K × V)) → FirstHasKey key rows → (ks : List K) × (keys_of rows ≡ key ∷ ks)
  first-key key [] first = absurd first
  first-key key (row ∷ rows) first = (keys_of rows, ap (λ k. k ∷ keys_of rows) (sym first))

  -- the key that a piece starts with comes after the keys of the pieces before it
  keys-at : (place : ℕ) (pieces : List (Piece K V)) (piece : Piece K V) → place < length pieces → piece ≡ get_or pieces place piece → AllByRecursion StartsRight pieces
      → (ks : List K) × (keys_of (rows_of_pieces (drop place pieces)) ≡ piece.first ∷ ks)
  keys-at place pieces piece within at starts =
      let here = from-place place pieces piece within at in
      let right : StartsRight piece = (subst (AllByRecursion StartsRight) here (starts-from place pieces starts)).0 in
      let own = first-key piece.first piece.rows.value.entries right in
      let rest = rows_of_pieces (drop (place + 1) pieces) in
      (own.0 ++ keys_of rest, ap (λ ps. keys_of (rows_of_pieces ps)) here ∙ keys-both piece.rows.value.entries rest ∙ ap (λ ks. ks ++ keys_of rest) own.1)

  split-keys : (place : ℕ) (pieces : List (Piece K V)) → keys_of (rows_of_pieces pieces) ≡ keys_of (rows_of_pieces (take place pieces)) ++ keys_of (rows_of_pieces (drop place pieces))
  split-keys place pieces = ap keys_of (sym (rows-at place pieces)) ∙ keys-both (rows_of_pieces (take place pieces)) (rows_of_pieces (drop place pieces))

module _ {K V : Type 0} {R : K → K → Ordering} (total : IsTotalOrder R) (place : ℕ) (pieces : List (Piece K V)) (piece : Piece K V) (key : K)
    (within : place < length pieces) (at : piece ≡ get_or pieces place piece) (are : ArePieces R pieces) where
  in_order : IsStrictlySortedBy R (keys_of (rows_of_pieces (take place pieces)) ++ piece.first ∷ (keys-at place pieces piece within at are.starts).0)
  in_order =
      subst (IsStrictlySortedBy R) (split-keys place pieces ∙ ap (λ ks. keys_of (rows_of_pieces (take place pieces)) ++ ks) (keys-at place pieces piece within at are.starts).1) are.sorted

  -- the rows before a piece that starts at a key or before it are below the key
  pub rows-below : (R piece.first key ≡ Greater → ⊥) → AllByRecursion (λ other. R other key ≡ Less) (keys_of (rows_of_pieces (take place pieces)))
  rows-below not_above =
      each_weaker (λ other. R other piece.first ≡ Less) (λ other. R other key ≡ Less) (λ other less. below_both total other piece.first key less not_above) _
      (sorted-before R (keys_of (rows_of_pieces (take place pieces))) piece.first (keys-at place pieces piece within at are.starts).0 in_order)

  -- and the rows from a piece on that starts after it are above it
  pub rows-above : R piece.first key ≡ Greater → AllByRecursion (λ other. R key other ≡ Less) (keys_of (rows_of_pieces (drop place pieces)))
  rows-above greater =
      let less = below total piece.first key greater in
      subst (AllByRecursion (λ other. R key other ≡ Less)) (sym (keys-at place pieces piece within at are.starts).1) (
        less,
        each_weaker (λ other. R piece.first other ≡ Less) (λ other. R key other ≡ Less) (λ other more. total.trans key piece.first other less more) _
            (sorted-after R (keys_of (rows_of_pieces (take place pieces))) piece.first (keys-at place pieces piece within at are.starts).0 in_order),
      )

-- where a search ends, no row remains between the place and the end
pub rows-past : {K V : Type 0} (R : K → K → Ordering) (place end : ℕ) (pieces : List (Piece K V)) (key : K) → place ≤ end → end ≤ length pieces → (0 < length pieces → place < end) → end ≤ place + 1
    → AllByRecursion (λ other. R key other ≡ Less) (keys_of (rows_of_pieces (drop end pieces))) → AllByRecursion (λ other. R key other ≡ Less) (keys_of (rows_of_pieces (drop (place + 1) pieces)))
rows-past R place end [] key ordered within apart next above = subst (λ ps. AllByRecursion (λ other. R key other ≡ Less) (keys_of (rows_of_pieces ps))) (sym (drop_all (place + 1) [] (omega arith))) tt
rows-past R place end (piece ∷ pieces) key ordered within apart next above =
    let same : end ≡ place + 1 = omega arith in
    subst (λ n. AllByRecursion (λ other. R key other ≡ Less) (keys_of (rows_of_pieces (drop n (piece ∷ pieces))))) same above

module _ {K V : Type 0} where
  -- the rows of a piece that was read at a place
  pub rows-read : (place : ℕ) (pieces : List (Piece K V)) (piece : Piece K V) → place < length pieces → piece ≡ get_or pieces place piece → first_rows (drop place pieces) ≡ piece.rows.value.entries
  rows-read place pieces piece within at = ap first_rows (from-place place pieces piece within at)

  pub rows-found : (place : ℕ) (pieces : List (Piece K V)) (piece : Piece K V) → Some piece ≡ slice_get pieces place → first_rows (drop place pieces) ≡ piece.rows.value.entries
  rows-found place [] piece e = cc
  rows-found zero (first ∷ pieces) piece e = let same : first ≡ piece = cc in ap (λ p. p.rows.value.entries) same
  rows-found (suc place) (first ∷ pieces) piece e = rows-found place pieces piece e

  pub rows-missed : (place : ℕ) (pieces : List (Piece K V)) → None ≡ slice_get pieces place → first_rows (drop place pieces) ≡ []
  rows-missed zero [] e = refl
  rows-missed (suc place) [] e = refl
  rows-missed zero (first ∷ pieces) e = cc
  rows-missed (suc place) (first ∷ pieces) e = rows-missed place pieces e

  same-first : (key : K) (first : K) (rows others : List (K × V)) → first ≡ key → others ≡ rows → FirstHasKey key rows → FirstHasKey first others
  same-first key first rows others e same right = subst (λ es. FirstHasKey first es) (sym same) (subst (λ k. FirstHasKey k rows) (sym e) right)

  -- one more copy of a piece, which has its rows
  pub copied-more : (place : ℕ) (pieces copies more : List (Piece K V)) (piece copy : Piece K V) → place < length pieces → piece ≡ get_or pieces place piece → AllByRecursion StartsRight pieces
      → copy.first ≡ piece.first → copy.rows.value ≡ piece.rows.value → more ≡ copies ++ copy ∷ [] → (rows_of_pieces copies ≡ rows_of_pieces (take place pieces)) × AllByRecursion StartsRight copies
      → (rows_of_pieces more ≡ rows_of_pieces (take (place + 1) pieces)) × AllByRecursion StartsRight more
  copied-more place pieces copies more piece copy within at starts first rows pushed so_far =
      let right : StartsRight piece = (subst (AllByRecursion StartsRight) (from-place place pieces piece within at) (starts-from place pieces starts)).0 in
      let entries = ap (λ m. m.entries) rows in (
        ap rows_of_pieces pushed ∙ rows-both copies (copy ∷ []) ∙ (λ i. so_far.0 i ++ (entries i ++ [])) ∙ ap (λ p. rows_of_pieces (take place pieces) ++ rows_of_pieces (p ∷ [])) at
            ∙ sym (rows-both (take place pieces) (get_or pieces place piece ∷ [])) ∙ ap rows_of_pieces (sym (take_more pieces place piece within)),
        subst (AllByRecursion StartsRight) (sym pushed) (each_append StartsRight copies (copy ∷ []) so_far.1
            (same-first piece.first copy.first piece.rows.value.entries copy.rows.value.entries first entries right, tt)),
      )

module _ {K V : Type 0} {R : K → K → Ordering} (total : IsTotalOrder R) (place : ℕ) (pieces : List (Piece K V)) (key : K)
    (lower : AllByRecursion (λ other. R other key ≡ Less) (keys_of (rows_of_pieces (take place pieces))))
    (higher : AllByRecursion (λ other. R key other ≡ Less) (keys_of (rows_of_pieces (drop (place + 1) pieces)))) where
  -- so what is looked up, put or cut at the key is so in the piece at its place
  pub lookup-at : lookup (is_at (R key)) (rows_of_pieces pieces) ≡ lookup (is_at (R key)) (first_rows (drop place pieces))
  lookup-at =
      ap (lookup (is_at (R key))) (rows-around place pieces)
      ∙ lookup-after total key (rows_of_pieces (take place pieces)) (first_rows (drop place pieces) ++ rows_of_pieces (drop (place + 1) pieces)) lower
      ∙ lookup-before total key (first_rows (drop place pieces)) (rows_of_pieces (drop (place + 1) pieces)) higher

  pub insert-at : (row : V) → rows_of_pieces (take place pieces)
      ++ (insert_entry R (first_rows (drop place pieces)) key row ++ rows_of_pieces (drop (place + 1) pieces)) ≡ insert_entry R (rows_of_pieces pieces) key row
  insert-at row =
      ap (λ rows. rows_of_pieces (take place pieces) ++ rows) (sym (insert-before total key (first_rows (drop place pieces)) (rows_of_pieces (drop (place + 1) pieces)) row higher))
      ∙ sym (insert-after total key (rows_of_pieces (take place pieces)) (first_rows (drop place pieces) ++ rows_of_pieces (drop (place + 1) pieces)) row lower)
      ∙ ap (λ rows. insert_entry R rows key row) (sym (rows-around place pieces))

  pub remove-at : rows_of_pieces (take place pieces) ++ (remove_entry (is_at (R key)) (first_rows (drop place pieces))
      ++ rows_of_pieces (drop (place + 1) pieces)) ≡ remove_entry (is_at (R key)) (rows_of_pieces pieces)
  remove-at =
      ap (λ rows. rows_of_pieces (take place pieces) ++ rows) (sym (remove-before total key (first_rows (drop place pieces)) (rows_of_pieces (drop (place + 1) pieces)) higher))
      ∙ sym (remove-after total key (rows_of_pieces (take place pieces)) (first_rows (drop place pieces) ++ rows_of_pieces (drop (place + 1) pieces)) lower)
      ∙ ap (remove_entry (is_at (R key))) (sym (rows-around place pieces))

lengths : {A : Type 0} (xs ys zs : List A) → length (xs ++ (ys ++ zs)) ≡ length xs + (length ys + length zs)
lengths xs ys zs = length-append xs (ys ++ zs) ∙ ap (λ n. length xs + n) (length-append ys zs)

-- the piece at a place was removed, and rows were put in there
pub record IsChanged {K V : Type 0} (place : ℕ) (old others new : List (Piece K V)) (taken put : List (K × V)) : Type 0 where
  pub room : place ≤ length old
  pub without : others ≡ take place old ++ drop (place + 1) old
  pub taken_is : taken ≡ first_rows (drop place old)
  pub before : take place new ≡ take place others
  pub after : rows_of_pieces (drop place new) ≡ put ++ rows_of_pieces (drop place others)
  pub starts : AllByRecursion StartsRight others → AllByRecursion StartsRight new

module _ {K V : Type 0} (place : ℕ) (old others new : List (Piece K V)) (taken put : List (K × V)) (change : IsChanged place old others new taken put) where
  rows-changed : rows_of_pieces new ≡ rows_of_pieces (take place old) ++ (put ++ rows_of_pieces (drop (place + 1) old))
  rows-changed =
      let here = length-take-le place old change.room in
      let first = change.before ∙ ap (take place) change.without ∙ take_at (take place old) (drop (place + 1) old) place here in
      let second = ap (drop place) change.without ∙ drop_at (take place old) (drop (place + 1) old) place here in
      sym (rows-at place new) ∙ (λ i. rows_of_pieces (first i) ++ (change.after ∙ ap (λ ps. put ++ rows_of_pieces ps) second) i)

  pub length-changed : length (rows_of_pieces new) + length taken ≡ length (rows_of_pieces old) + length put
  length-changed =
      let now : length (rows_of_pieces new) ≡ length (rows_of_pieces (take place old)) + (length put + length (rows_of_pieces (drop (place + 1) old))) =
      ap length rows-changed ∙ lengths (rows_of_pieces (take place old)) put (rows_of_pieces (drop (place + 1) old)) in
      let was : length (rows_of_pieces old) ≡ length (rows_of_pieces (take place old)) + (length taken + length (rows_of_pieces (drop (place + 1) old))) =
      ap length (rows-around place old ∙ ap (λ rows. rows_of_pieces (take place old) ++ (rows ++ rows_of_pieces (drop (place + 1) old))) (sym change.taken_is))
      ∙ lengths (rows_of_pieces (take place old)) taken (rows_of_pieces (drop (place + 1) old)) in
      omega arith

  module _ {R : K → K → Ordering} (total : IsTotalOrder R) (are : ArePieces R old) (key : K)
      (lower : AllByRecursion (λ other. R other key ≡ Less) (keys_of (rows_of_pieces (take place old))))
      (higher : AllByRecursion (λ other. R key other ≡ Less) (keys_of (rows_of_pieces (drop (place + 1) old)))) where
    starts-changed : AllByRecursion StartsRight new
    starts-changed = change.starts (starts-without place old others change.without are.starts)

    -- a row put into the piece at the place of its key is put into the rows
    pub put-changed : (row : V) → put ≡ insert_entry R taken key row → (rows_of_pieces new ≡ insert_entry R (rows_of_pieces old) key row) × ArePieces R new
    put-changed row done =
        let rows : rows_of_pieces new ≡ insert_entry R (rows_of_pieces old) key row =
        rows-changed ∙ ap (λ rows. rows_of_pieces (take place old) ++ (rows ++ rows_of_pieces (drop (place + 1) old))) (done ∙ ap (λ rows. insert_entry R rows key row) change.taken_is)
        ∙ insert-at total place old key lower higher row in
        (rows, record { sorted = subst (λ rows. IsStrictlySortedBy R (keys_of rows)) (sym rows) (sorted-inserted total (rows_of_pieces old) key row are.sorted); starts = starts-changed })

    -- and one removed from it is removed from the rows
    pub cut-changed : put ≡ remove_entry (is_at (R key)) taken → (rows_of_pieces new ≡ remove_entry (is_at (R key)) (rows_of_pieces old)) × ArePieces R new
    cut-changed done =
        let rows : rows_of_pieces new ≡ remove_entry (is_at (R key)) (rows_of_pieces old) =
        rows-changed ∙ ap (λ rows. rows_of_pieces (take place old) ++ (rows ++ rows_of_pieces (drop (place + 1) old))) (done ∙ ap (remove_entry (is_at (R key))) change.taken_is)
        ∙ remove-at total place old key lower higher in
        (rows, record { sorted = subst (λ rows. IsStrictlySortedBy R (keys_of rows)) (sym rows) (sorted-removed total (is_at (R key)) (rows_of_pieces old) are.sorted); starts = starts-changed })

-- a row of a piece is one of the rows
pub some-row : {K V : Type 0} (place : ℕ) (pieces : List (Piece K V)) (taken : List (K × V)) (n : ℕ) → taken ≡ first_rows (drop place pieces) → n + 1 ≡ length taken
    → 1 ≤ length (rows_of_pieces pieces)
some-row place pieces taken n taken_is more =
    let was : length (rows_of_pieces pieces) ≡ length (rows_of_pieces (take place pieces)) + (length taken + length (rows_of_pieces (drop (place + 1) pieces))) =
    ap length (rows-around place pieces ∙ ap (λ rows. rows_of_pieces (take place pieces) ++ (rows ++ rows_of_pieces (drop (place + 1) pieces))) (sym taken_is))
    ∙ lengths (rows_of_pieces (take place pieces)) taken (rows_of_pieces (drop (place + 1) pieces)) in
    omega arith
