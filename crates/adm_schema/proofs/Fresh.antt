-- What an INSERT of rows leaves of a table whose first column is the rowid: each is put at its key, where no row was.
use Rattle.std.proofs.Common.{◌≡◌, ℤ, List, [], ◌∷◌, map, drop, true, false, not, cond, refl, sym, ap, ap₂, subst, subst₂, ◌∙◌}
use Rattle.std.specs.List.{list_any}
use Rattle.std.specs.List.Sorted.{IsPermutation}
use Rattle.std.specs.Ordering.{is_eq}
use Rattle.std.proofs.lemmas.Bool.{and_parts, or_parts, not-true}
use Rattle.std.proofs.lemmas.List.Sorted.{IsPermutation-refl, IsPermutation-trans, IsPermutation-map}
use Rattle.std.proofs.lemmas.Simd.{map-map}
use Rattle.sqlite.specs.declared.types.Value.TheVariants.{Int}
use Rattle.sqlite.specs.Order.{Row, value_cmp}
use Rattle.sqlite.specs.Table.{Table}
use Rattle.sqlite.specs.Schema.{Schema}
use Rattle.sqlite.specs.Cast.{cast_row}
use Rattle.sqlite.specs.Tree.{rowid, put_row, has_rowid, without_rowid}
use Rattle.sqlite.specs.View.{is_int}
use Rattle.sqlite.specs.Edit.{edit_of, id_in, next_rowid, with_rowid, is_taken, have_rowids, Applies}
use Rattle.sqlite_rules.specs.Edit.{numbered, put_all, are_fresh}
use Rattle.sqlite.specs.Rowids.TheVariants.{Chosen}
use Rattle.sqlite_sql.specs.Ops.{is_null}
use Rattle.sqlite_schema.specs.declared.schema.Keys.TheVariants.{Enforced}
use Rattle.sqlite_rules.proofs.TableLemmas.{int_is}
use Rattle.sqlite.specs.State.{State}
use Rattle.adm_schema.specs.Rows.{columns_of}
use Rattle.adm_schema.specs.Effects.{WritesOnly, Turns, put_in, put_each}
use Rattle.adm_schema.proofs.Lists.{put_free, keyed_put}
use Rattle.adm_schema.proofs.Inside.{puts_moved}
use Rattle.adm_schema.proofs.OneRow.{shown_without, shown_keyed}

-- where no row has the rowid, none goes
untaken : (k : ℤ) (rows : List Row) → list_any (has_rowid k) rows ≡ false → without_rowid k rows ≡ rows
untaken k [] free = refl
untaken k (r ∷ rows) free = let parts = or_parts (has_rowid k r) (list_any (has_rowid k) rows) free in rw parts.0 (ap (λ rs. r ∷ rs) (untaken k rows parts.1))

keyed_all : (rows news : List Row) → have_rowids rows ≡ true → have_rowids news ≡ true → have_rowids (put_all rows news) ≡ true
keyed_all rows [] all ints = all
keyed_all rows (new ∷ news) all ints =
    let parts = and_parts (is_int (rowid new)) (have_rowids news) ints in
    keyed_all (put_row new rows) news (keyed_put new rows parts.0 all) parts.1

module _ (table : Table) (own : (r : Row) → rowid (columns_of table r) ≡ rowid r) where
  -- a row whose rowid is free is beside the others
  beside : (new : Row) (rows : List Row) → is_int (rowid new) ≡ true → is_taken rows new ≡ false
      → put_in (columns_of table new) (map (columns_of table) rows) ≡ map (columns_of table) (new ∷ rows)
  beside new rows int free =
      let k = id_in (rowid new) in
      let none = untaken k rows (subst (λ v. list_any (λ r. is_eq (value_cmp (rowid r) v)) rows ≡ false) (int_is (rowid new) int) free) in
      ap (λ rs. columns_of table new ∷ rs)
      (ap (λ j. without_rowid j (map (columns_of table) rows)) (ap id_in (own new)) ∙ shown_without table own k rows ∙ ap (map (columns_of table)) none)

  puts_fresh : (rows news : List Row) → have_rowids news ≡ true → are_fresh rows news ≡ true
      → IsPermutation (put_each (map (columns_of table) rows) (map (columns_of table) news)) (map (columns_of table) (put_all rows news))
  puts_fresh rows [] ints fresh = IsPermutation-refl _
  puts_fresh rows (new ∷ news) ints fresh =
      let int = and_parts (is_int (rowid new)) (have_rowids news) ints in
      let parts = and_parts (not (is_taken rows new)) (are_fresh (put_row new rows) news) fresh in
      let free = not-true _ parts.0 in
      let more = IsPermutation-map (columns_of table) (new ∷ rows) (put_row new rows) (put_free new rows free) in
      let first = subst (λ xs. IsPermutation xs (map (columns_of table) (put_row new rows))) (sym (beside new rows int.0 free)) more in
      IsPermutation-trans _ _ _ (puts_moved (map (columns_of table) news) _ _ first) (puts_fresh (put_row new rows) news int.1 parts.1)

  module _ {X : Type 0} (source_of row_of : X → Row) (keyed : (x : X) → is_null (rowid (source_of x)) ≡ false) (casts : (x : X) → cast_row table (source_of x) ≡ source_of x)
      (shows : (x : X) → columns_of table (source_of x) ≡ row_of x) where
    -- rows that have rowids keep them
    own_rowids : (xs : List X) (rows : List Row) → numbered Chosen rows (map (λ s. cast_row table (drop 0 s)) (map source_of xs)) ≡ map source_of xs
    own_rowids [] rows = refl
    own_rowids (x ∷ xs) rows =
        let this : with_rowid Chosen rows (cast_row table (source_of x)) ≡ source_of x =
        ap (with_rowid Chosen rows) (casts x) ∙ ap (λ b. cond b (Int (next_rowid rows) ∷ drop 1 (source_of x)) (source_of x)) (keyed x) in
        ap₂ (λ r rs. r ∷ rs) this (own_rowids xs (put_row (with_rowid Chosen rows (cast_row table (source_of x))) rows))

    -- where rows were inserted, the table has each of them at its key
    pub puts_all : (schema : Schema) (xs : List X) (old new : State)
        → WritesOnly table old new × Applies schema Enforced old.now.trees (edit_of old.now.trees table [] Chosen 0 (map source_of xs)) new.now.trees
        → Turns table (λ rows. put_each rows (map row_of xs)) old new
    puts_all schema xs old new h =
        let rows = old.now.trees table.tree in
        let news = own_rowids xs rows in
        let fresh : are_fresh rows (map source_of xs) ≡ true = subst (λ ns. are_fresh rows ns ≡ true) news h.1.fresh in
        let ints : have_rowids (map source_of xs) ≡ true = subst (λ ns. have_rowids ns ≡ true) news h.1.keyed in
        let after : new.now.trees table.tree ≡ put_all rows (map source_of xs) = h.1.rows ∙ ap (put_all rows) news in
        let shown : map (columns_of table) (map source_of xs) ≡ map row_of xs = map-map (columns_of table) source_of xs ∙ (λ i. map (λ x. shows x i) xs) in
        record {
          only = h.0;
          rows = λ _. subst₂ (λ ns now. IsPermutation (put_each (map (columns_of table) rows) ns) (map (columns_of table) now)) shown (sym after) (puts_fresh rows (map source_of xs) ints fresh);
          keyed = λ all.
              let was : have_rowids rows ≡ true = sym (shown_keyed table own rows) ∙ all in
              shown_keyed table own (new.now.trees table.tree) ∙ ap have_rowids after ∙ keyed_all rows (map source_of xs) was ints;
        }
