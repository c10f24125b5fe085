-- One turn of the loops that give a child, or an imported row, its school out of those that remain.
use Rattle.std.proofs.Common.{◌≡◌, ◌∙◌, ap, sym, subst, Bool, ℕ, ◌+◌, ◌<◌, length, take, drop, get_or, append-nil, List, [], ◌∷◌, ◌++◌, map, Option, Some, None, IsPermutation}
use Rattle.std.specs.Prelude.{slice_set}
use Rattle.std.specs.BTreeMap.{insert_entry, is_at}
use Rattle.std.specs.Map.{lookup, remove_entry}
use Rattle.std.specs.List.{AllByRecursion, flat_map, IsDistinct}
use Rattle.std.specs.Ordering.{eq_by_cmp}
use Rattle.std.proofs.lemmas.List.{map-append, take_more_set, take-append-drop}
use Rattle.std.proofs.lemmas.Grind.{flat_map-append}
use Rattle.std.proofs.lemmas.List.Sorted.{IsPermutation-refl, IsPermutation-sym, IsPermutation-trans, IsPermutation-map, IsPermutation-append_right, IsPermutation-push_more}
use mathlib.Core.List.{append_assoc}
use Rattle.adm_types.specs.Children.{present_row}
use Rattle.adm_types.specs.declared.rows.PresentRow.{PresentRow}
use Rattle.adm_lists.proofs.Each.{each_weaker, each_push}
use Rattle.adm_lists.proofs.Walks.{next_of}
use Rattle.adm_lists.proofs.Members.{In, contains, from_contains, in_map, from_map, in_moved, in_right}
use Rattle.adm_rows.specs.Joins.{IsOnceEachKey, IsWithout, present_left_at, key_cmp, present_key}
use Rattle.adm_rows.proofs.JoinEntries.{new_entry, none_taken, one_taken, entry_found, no_entry}
use Rattle.adm_rows.proofs.JoinOnce.{key_total, key_exact, twice}

-- a school that remains, at its key
abbrev pub Entry : Type 0
Entry = (ℕ × Bool) × List ℕ

-- ---- a row is written

-- one row more is among those that remain
pub put_row : (rows : List PresentRow) (i : ℕ) (row : PresentRow) (es : List Entry) → i < length rows → row ≡ get_or rows i row → IsPermutation (take i rows) (map present_left_at es)
    → None ≡ lookup (is_at (key_cmp (present_key row))) es → IsPermutation (take (i + 1) rows) (map present_left_at (insert_entry key_cmp es (present_key row) row.school))
put_row rows i row es within at so_far none =
    subst (λ xs. IsPermutation xs (map present_left_at (insert_entry key_cmp es (present_key row) row.school))) (sym (next_of rows i row within at))
    (IsPermutation-push_more (take i rows) (map present_left_at es) _ row so_far (IsPermutation-map present_left_at _ _ (new_entry key_cmp es (present_key row) row.school (sym none))))

-- a row whose key has a school already is one with a key that occurs twice
pub put_twice : (rows : List PresentRow) (i : ℕ) (row : PresentRow) (es : List Entry) (school : List ℕ) → i < length rows → row ≡ get_or rows i row
    → IsPermutation (take i rows) (map present_left_at es)
    → Some school ≡ lookup (is_at (key_cmp (present_key row))) es → IsOnceEachKey rows → ⊥
put_twice rows i row es school within at so_far some once =
    let entry : Entry = (present_key row, school) in
    let there : In (present_left_at entry) (take i rows) = in_moved _ _ _ (IsPermutation-sym _ _ so_far)
    (in_map present_left_at es entry (entry_found key_exact es (present_key row) school (sym some))) in
    let split : take i rows ++ row ∷ drop (i + 1) rows ≡ rows =
    sym (append_assoc (take i rows) (row ∷ []) (drop (i + 1) rows)) ∙ ap (λ xs. xs ++ drop (i + 1) rows) (sym (next_of rows i row within at)) ∙ take-append-drop (i + 1) rows in
    twice key_total (map present_key (take i rows)) (map present_key (drop (i + 1) rows)) (present_key row) (in_map present_key (take i rows) (present_left_at entry) there)
    (subst (IsDistinct (eq_by_cmp key_cmp)) (sym (ap (map present_key) split) ∙ map-append present_key (take i rows) (row ∷ drop (i + 1) rows)) once)

-- ---- a school is removed

-- what remained is the row of the school that is taken, where there is one, and what remains then
pub taken_out : (es : List Entry) (n : ℕ) (imported : Bool) (o : Option (List ℕ)) → o ≡ lookup (is_at (key_cmp (n, imported))) es
    → IsPermutation (map present_left_at es) (present_row n imported o ++ map present_left_at (remove_entry (is_at (key_cmp (n, imported))) es))
taken_out es n imported None is = subst (λ xs. IsPermutation (map present_left_at es) (map present_left_at xs)) (sym (none_taken (is_at (key_cmp (n, imported))) es (sym is))) (IsPermutation-refl _)
taken_out es n imported (Some school) is = IsPermutation-map present_left_at _ _ (one_taken key_exact es (n, imported) school (sym is))

-- none remains at a key at which nothing is found
pub none_left : (es : List Entry) (n : ℕ) (imported : Bool) → lookup (is_at (key_cmp (n, imported))) es ≡ None → IsWithout (map present_left_at es) imported n
none_left es n imported none school at =
    let row = from_map present_left_at es _ (from_contains (map present_left_at es) _ at) in
    let entry : row.0 ≡ ((n, imported), school) = ap (λ (r : PresentRow). (present_key r, r.school)) row.2 in
    no_entry key_total es (n, imported) school none (subst (λ e. In e es) entry row.1)

-- where fewer rows remain, those of a child that has none are none
pub fewer : (rows front rest : List PresentRow) (imported : Bool) (n : ℕ) → IsPermutation rows (front ++ rest) → IsWithout rows imported n → IsWithout rest imported n
fewer rows front rest imported n moved none school at =
    none school (contains rows _ (in_moved _ _ _ (IsPermutation-sym _ _ moved) (in_right front rest _ (from_contains rest _ at))))

module _ {X : Type 0} (imported : Bool) (no : X → ℕ) (present : X → Option (List ℕ)) where
  abbrev row_given : X → List PresentRow
  row_given x = present_row (no x) imported (present x)

  -- what the elements before a place have been given, and what remains
  pub record IsGiven (before : List PresentRow) (xs : List X) (left : List PresentRow) : Type 0 where
    pub moved : IsPermutation before (flat_map row_given xs ++ left)
    pub taken : AllByRecursion (λ x. IsWithout left imported (no x)) xs

  -- one element more
  pub give_next : (before : List PresentRow) (xs : List X) (i : ℕ) (y : X) (es after : List Entry) → i < length xs → IsGiven before (take i xs) (map present_left_at es)
      → present y ≡ lookup (is_at (key_cmp (no y, imported))) es → after ≡ remove_entry (is_at (key_cmp (no y, imported))) es → lookup (is_at (key_cmp (no y, imported))) after ≡ None
      → IsGiven before (take (i + 1) (slice_set xs i y)) (map present_left_at after)
  give_next before xs i y es after within so_far found removed gone =
      let out : IsPermutation (map present_left_at es) (row_given y ++ map present_left_at after) =
      subst (λ rest. IsPermutation (map present_left_at es) (row_given y ++ map present_left_at rest)) (sym removed) (taken_out es (no y) imported (present y) found) in
      let front : flat_map row_given (take i xs ++ y ∷ []) ≡ flat_map row_given (take i xs) ++ row_given y =
      flat_map-append row_given (take i xs) (y ∷ []) ∙ ap (λ rows. flat_map row_given (take i xs) ++ rows) (append-nil (row_given y)) in
      let all : IsPermutation before ((flat_map row_given (take i xs) ++ row_given y) ++ map present_left_at after) =
      subst (IsPermutation before) (sym (append_assoc (flat_map row_given (take i xs)) (row_given y) (map present_left_at after)))
      (IsPermutation-trans _ _ _ so_far.moved (IsPermutation-append_right (flat_map row_given (take i xs)) _ _ out)) in
      let next : IsGiven before (take i xs ++ y ∷ []) (map present_left_at after) = record {
        moved = subst (λ rows. IsPermutation before (rows ++ map present_left_at after)) (sym front) all;
        taken = each_push (λ x. IsWithout (map present_left_at after) imported (no x)) (take i xs) y
            (each_weaker (λ x. IsWithout (map present_left_at es) imported (no x)) (λ x. IsWithout (map present_left_at after) imported (no x))
            (λ x. fewer (map present_left_at es) (row_given y) (map present_left_at after) imported (no x) out) (take i xs) so_far.taken)
            (none_left after (no y) imported gone);
      } in
      subst (λ ys. IsGiven before ys (map present_left_at after)) (sym (take_more_set xs i y within)) next
