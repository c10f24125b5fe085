-- The rows of a table as a finite map.
use Rattle.std.proofs.Common.{◌≡◌, ◌∙◌, ap, sym, refl, List, [], ◌∷◌, length}
use Rattle.std.specs.Prelude.{map}
use Rattle.std.specs.declared.cmp.Ordering.{Ordering}
use Rattle.std.specs.Cmp.{IsTotalOrder}
use Rattle.std.specs.Map.{keys_of, values_of}
use Rattle.std.specs.List.Sorted.{IsStrictlySortedBy}
use Rattle.std.specs.FinMap.{put, entries, values, len, len-entries, len-empty, entries-insert, from_entries}
use Rattle.std.proofs.lemmas.List.{nil_from_length}

put_first : {K V : Type 0} (R : K → K → Ordering) (row : K × V) (rows : List (K × V)) → IsStrictlySortedBy R (keys_of (row ∷ rows)) → put R row.0 row.1 rows ≡ row ∷ rows
unfolding IsStrictlySortedBy
put_first R row [] sorted = refl
put_first R row (next ∷ rows) sorted = rw sorted.0.0 refl

-- rows in the order of their keys are the entries of their map
pub entries_rows : {K V : Type 0} {R : K → K → Ordering} → IsTotalOrder R → (rows : List (K × V)) → IsStrictlySortedBy R (keys_of rows) → entries (from_entries {R = R} rows) ≡ rows
unfolding IsStrictlySortedBy
entries_rows {V = V} {R = R} total [] sorted = nil_from_length _ (sym (len-entries (from_entries {R = R} [])) ∙ len-empty R V)
entries_rows {R = R} total (row ∷ rows) sorted = entries-insert total (from_entries rows) row.0 row.1 ∙ ap (put R row.0 row.1) (entries_rows total rows sorted.1) ∙ put_first R row rows sorted

-- as many as the map has
pub len_rows : {K V : Type 0} {R : K → K → Ordering} → IsTotalOrder R → (rows : List (K × V)) → IsStrictlySortedBy R (keys_of rows) → len (from_entries {R = R} rows) ≡ length rows
len_rows total rows sorted = len-entries (from_entries rows) ∙ ap length (entries_rows total rows sorted)

-- and they have the values of the map
pub values_rows : {K V : Type 0} {R : K → K → Ordering} → IsTotalOrder R → (rows : List (K × V)) → IsStrictlySortedBy R (keys_of rows) → values (from_entries {R = R} rows) ≡ values_of rows
values_rows total rows sorted = ap (map (λ e. e.1)) (entries_rows total rows sorted)
