-- What is read off the rows of a table: how many places a school has given.
use Rattle.std.proofs.Common.{◌≡◌, ◌∙◌, ap, sym, List, ℕ, Bool}
use Rattle.std.specs.Prelude.{count_by}
use Rattle.std.specs.Map.{keys_of, values_of}
use Rattle.std.specs.List.Sorted.{IsStrictlySortedBy}
use Rattle.std.specs.Ordering.{nat_cmp}
use Rattle.std.specs.Cmp.{nat_cmp_total}
use Rattle.std.specs.FinMap.{from_entries, values}
use Rattle.adm_types.specs.declared.rows.PlaceRow.{PlaceRow}
use Rattle.adm_register.proofs.TableMaps.{values_rows}
use Rattle.adm_register.specs.State.{State}

-- as many of the rows pass a test as of the map that they make
pub count_rows : (p : PlaceRow → Bool) (s : State) (rows : List (ℕ × PlaceRow)) → from_entries rows ≡ s.places → IsStrictlySortedBy nat_cmp (keys_of rows)
    → count_by p (values_of rows) ≡ count_by p (values s.places)
count_rows p s rows is sorted = ap (count_by p) (sym (values_rows nat_cmp_total rows sorted) ∙ ap values is)
