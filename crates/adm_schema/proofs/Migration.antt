-- What the two statements leave that make a file of the first version one of the second.
use Rattle.std.proofs.Common.{◌≡◌, ◌∙◌, ℕ, pos, inl, inr, List, [], ◌∷◌, map, drop, slice_get, true, Some, Ok, refl, sym, subst}
use Rattle.std.specs.List.Sorted.{IsPermutation}
use Rattle.std.proofs.lemmas.Bool.{and_parts}
use Rattle.std.proofs.lemmas.List.Sorted.{IsPermutation-map}
use Rattle.std.proofs.lemmas.Simd.{map-map}
use Rattle.sqlite.specs.Kind.TheVariants.{Integer}
use Rattle.sqlite.specs.Cast.{cast, cast_row}
use Rattle.sqlite.specs.Order.{Row, column}
use Rattle.sqlite.specs.Term.{eval_all}
use Rattle.sqlite.specs.Tree.{rowid}
use Rattle.sqlite.specs.View.{is_int}
use Rattle.sqlite.specs.Edit.{id_in, have_rowids}
use Rattle.sqlite.specs.Effect.{IsDatabase}
use Rattle.sqlite.specs.Schema.{Schema}
use Rattle.sqlite.specs.State.{State, ExecutesInside}
use Rattle.sqlite_rules.specs.Lists.{Has}
use Rattle.sqlite_rules.proofs.TableLemmas.{int_is}
use Rattle.sqlite_schema.specs.Rules.{are_typed, is_of}
use Rattle.sqlite_schema.specs.declared.schema.Column.{Column}
use Rattle.adm_schema.specs.declared.version.Version.TheVariants.{First}
use Rattle.adm_schema.specs.Creations.{create_present}
use Rattle.adm_schema.specs.Effects.{MarksSecond, AddsTable, with_second}
use Rattle.adm_schema.specs.Rows.{columns_of, rows_of}
use Rattle.adm_schema.specs.Schema.{meta, schema_of, register_schema}
use Rattle.adm_schema.specs.Texts.{mark_version, meta_marked}
use Rattle.adm_schema.proofs.Casts.{cast_int}
use Rattle.adm_schema.proofs.Creates.{creates_present}
use Rattle.adm_schema.proofs.Creation.{creates}
use Rattle.adm_schema.proofs.DrawCount.{own_integer, own_text, typed_at, later, all_typed}
use Rattle.adm_schema.proofs.OneRow.{shown_keyed}
use Rattle.adm_schema.proofs.Texts.{marks_version}
use Rattle.adm_schema.proofs.Updates.{updated_all}

-- the table of the present schools is made, and has no row
pub adds_table : (old new : State) (count : ℕ) → old.now.schema ≡ schema_of First → ExecutesInside 0 create_present [] old new (Ok count) → AddsTable (schema_of First) register_schema old new
adds_table old new count has h =
    let it = creates creates_present old new count has h in
    record { was_open = h.1.was_open; is_open = h.1.is_open; schema = it.0; sound = it.3; none = it.1; others = it.2 }

abbrev marked : Row → Row
marked row = cast_row meta (drop 1 (eval_all meta_marked ([] ∷ row ∷ [])))

row_marked : (row : Row) → is_int (rowid row) ≡ true → are_typed meta.key 0 meta.columns (drop 1 row) ≡ true → columns_of meta (marked row) ≡ with_second (columns_of meta row)
row_marked row int typed =
    let number = λ (j : ℕ) (c : Column) (is : slice_get meta.columns j ≡ Some c) (strict : c.is_strict ≡ true). subst (λ v. is_of c.kind v ≡ true) (later row j)
    (typed_at meta.key 0 meta.columns (drop 1 row) j c is strict typed) in
    let key : cast Integer (rowid row) ≡ rowid row = subst (λ v. cast Integer v ≡ v) (sym (int_is (rowid row) int)) (cast_int (id_in (rowid row))) in
    λ i.
    key i ∷ cast_int (pos 2) i ∷ own_integer (column row 3) (number 2 _ refl refl) i ∷ own_integer (column row 4) (number 3 _ refl refl) i
    ∷ own_text (column row 5) (number 4 _ refl refl) i ∷ own_integer (column row 6) (number 5 _ refl refl) i ∷ []

each_marked : (rows : List Row) → have_rowids rows ≡ true → ((row : Row) → Has rows row → are_typed meta.key 0 meta.columns (drop 1 row) ≡ true)
    → map (λ row. columns_of meta (marked row)) rows ≡ map with_second (map (columns_of meta) rows)
each_marked [] keyed typed = refl
each_marked (row ∷ rows) keyed typed =
    let parts = and_parts (is_int (rowid row)) (have_rowids rows) keyed in
    λ i. row_marked row parts.0 (typed row (inl refl)) i ∷ each_marked rows parts.1 (λ r h. typed r (inr h)) i

-- the row of `meta` has the second version
pub marks_second : (old new : State) (rows : ℕ) → old.now.schema ≡ register_schema → IsDatabase old.now → ExecutesInside 0 mark_version [] old new (Ok rows) → MarksSecond old new
marks_second old new rows has sound h =
    let it = updated_all register_schema meta 0 refl refl refl (λ _ _. refl) meta_marked mark_version [] old new rows marks_version.0 marks_version.1 refl (λ r. refl) has h in
    let own : IsDatabase (record { schema = register_schema; trees = old.now.trees }) = subst (λ (s : Schema). IsDatabase (record { schema = s; trees = old.now.trees })) has sound in
    let was = old.now.trees meta.tree in
    record {
      only = it.0;
      rows = λ keyed.
          let have : have_rowids was ≡ true = sym (shown_keyed meta (λ r. refl) was) ∙ keyed in
          let each = map-map (columns_of meta) marked was ∙ each_marked was have (all_typed old.now.trees own) in
          subst (λ xs. IsPermutation xs (rows_of meta new.now.trees)) each (IsPermutation-map (columns_of meta) _ _ (it.1 have));
    }
