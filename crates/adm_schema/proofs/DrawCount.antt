-- What the count of draws that is set in the table `meta` leaves of its rows.
use Rattle.std.proofs.Common.{◌≡◌, ◌∙◌, ◌+◌, ℕ, zero, suc, pos, inl, inr, List, [], ◌∷◌, map, drop, slice_get, Bool, true, false, Some, Option, Ok, refl, sym, subst}
use Rattle.std.specs.Prelude.{if◌then◌else◌}
use Rattle.std.specs.List.{AllByRecursion}
use Rattle.std.specs.List.Sorted.{IsPermutation}
use Rattle.std.proofs.lemmas.Bool.{and_parts}
use Rattle.std.proofs.lemmas.List.Sorted.{IsPermutation-map}
use Rattle.std.proofs.lemmas.Simd.{map-map}
use Rattle.sqlite.specs.declared.types.Value.{Value}
use Rattle.sqlite.specs.declared.types.Value.TheVariants.{Null, Int, Text, Real, Blob}
use Rattle.sqlite.specs.Kind.TheVariants.{Integer}
use Rattle.sqlite.specs.Kind.TheVariants as kind
use Rattle.sqlite.specs.Cast.{cast, cast_row}
use Rattle.sqlite.specs.Order.{Row, column}
use Rattle.sqlite.specs.Term.{eval_all}
use Rattle.sqlite.specs.Tree.{Trees, rowid}
use Rattle.sqlite.specs.View.{is_int}
use Rattle.sqlite.specs.Edit.{id_in, have_rowids}
use Rattle.sqlite.specs.Effect.{IsDatabase}
use Rattle.sqlite.specs.State.{State, ExecutesInside}
use Rattle.sqlite_schema.specs.Rules.{are_typed, has_affinity, has_computed, is_of, suits, passes}
use Rattle.sqlite_schema.specs.Names.{is_key}
use Rattle.sqlite_schema.specs.declared.schema.Column.{Column}
use Rattle.sqlite_schema.specs.declared.schema.Constraint.TheVariants.{Datatype}
use Rattle.sqlite_sql.specs.Ops.{is_null}
use Rattle.sqlite.specs.Schema.{Schema}
use Rattle.sqlite.specs.Table.{Table}
use Rattle.sqlite_rules.specs.Lists.{Has}
use Rattle.sqlite_rules.proofs.ListLemmas.{all_has}
use Rattle.sqlite_rules.proofs.TableLemmas.{int_is}
use Rattle.adm_schema.specs.Effects.{SetsDraws, with_draws}
use Rattle.adm_schema.specs.Rows.{columns_of, rows_of}
use Rattle.adm_schema.specs.Schema.{meta, register_schema}
use Rattle.adm_schema.specs.Texts.{update_meta, meta_turned}
use Rattle.adm_schema.proofs.Casts.{cast_null, cast_int}
use Rattle.adm_schema.proofs.Listed.{has_meta}
use Rattle.adm_schema.proofs.OneRow.{shown_keyed}
use Rattle.adm_schema.proofs.Texts.{updates_meta}
use Rattle.adm_schema.proofs.Updates.{updated_all}

-- ---- a value of a column's own type stays as it is

pub own_integer : (v : Value) → is_of Integer v ≡ true → cast Integer v ≡ v
own_integer Null own = cast_null
own_integer (Int n) own = cast_int n
own_integer (Real x) own = absurd (cc)
own_integer (Text t) own = absurd (cc)
own_integer (Blob b) own = absurd (cc)

pub own_text : (v : Value) → is_of kind.Text v ≡ true → cast kind.Text v ≡ v
own_text Null own = refl
own_text (Int n) own = absurd (cc)
own_text (Real x) own = absurd (cc)
own_text (Text t) own = refl
own_text (Blob b) own = absurd (cc)

null_fits : (k : _) (v : Value) → is_null v ≡ true → is_of k v ≡ true
null_fits k Null null = refl
null_fits k (Int n) null = absurd (cc)
null_fits k (Real x) null = absurd (cc)
null_fits k (Text t) null = absurd (cc)
null_fits k (Blob b) null = absurd (cc)

-- the value in each column of a row that was written is of its type
pub typed_at : (key : Option ℕ) (at : ℕ) (columns : List Column) (values : Row) (j : ℕ) (c : Column) → slice_get columns j ≡ Some c → c.is_strict ≡ true
    → are_typed key at columns values ≡ true → is_of c.kind (column values j) ≡ true
typed_at key at [] values j c is strict typed = absurd (cc)
typed_at key at (b ∷ columns) [] zero c is strict typed = refl
typed_at key at (b ∷ columns) [] (suc j) c is strict typed = typed_at key (at + 1) columns [] j c is strict (and_parts (is_null b.default) (are_typed key (at + 1) columns []) typed).1
typed_at key at (b ∷ columns) (v ∷ values) (suc j) c is strict typed =
    typed_at key (at + 1) columns values j c is strict (and_parts (if is_key key at then is_null v else suits b v) (are_typed key (at + 1) columns values) typed).1
typed_at key at (b ∷ columns) (v ∷ values) zero c is strict typed = go (is_key key at) (and_parts (if is_key key at then is_null v else suits b v) (are_typed key (at + 1) columns values) typed).0
  where
    same : b ≡ c
    same = cc

    go : (k : Bool) → (if k then is_null v else suits b v) ≡ true → is_of c.kind v ≡ true
    go true null = null_fits c.kind v null
    go false fits = subst (λ b. (if b then is_of c.kind v else has_affinity c.kind v) ≡ true) strict (subst (λ (d : Column). suits d v ≡ true) same fits)

pub later : (row : Row) (j : ℕ) → column (drop 1 row) j ≡ column row (suc j)
later [] j = refl
later (v ∷ row) j = refl

-- ---- the rows of `meta`

abbrev turned : Row → Row → Row
turned count row = cast_row meta (drop 1 (eval_all meta_turned (count ∷ row ∷ [])))

row_turned : (count : ℕ) (row : Row) → is_int (rowid row) ≡ true → are_typed meta.key 0 meta.columns (drop 1 row) ≡ true
    → columns_of meta (turned (Int (pos count) ∷ []) row) ≡ with_draws (Int (pos count) ∷ []) (columns_of meta row)
row_turned count row int typed =
    let number = λ (j : ℕ) (c : Column) (is : slice_get meta.columns j ≡ Some c) (strict : c.is_strict ≡ true). subst (λ v. is_of c.kind v ≡ true) (later row j)
    (typed_at meta.key 0 meta.columns (drop 1 row) j c is strict typed) in
    let key : cast Integer (rowid row) ≡ rowid row = subst (λ v. cast Integer v ≡ v) (sym (int_is (rowid row) int)) (cast_int (id_in (rowid row))) in
    λ i.
    key i ∷ own_integer (column row 2) (number 1 _ refl refl) i ∷ own_integer (column row 3) (number 2 _ refl refl) i ∷ own_integer (column row 4) (number 3 _ refl refl) i
    ∷ own_text (column row 5) (number 4 _ refl refl) i ∷ cast_int (pos count) i ∷ []

each_turned : (count : ℕ) (rows : List Row) → have_rowids rows ≡ true → ((row : Row) → Has rows row → are_typed meta.key 0 meta.columns (drop 1 row) ≡ true)
    → map (λ row. columns_of meta (turned (Int (pos count) ∷ []) row)) rows ≡ map (with_draws (Int (pos count) ∷ [])) (map (columns_of meta) rows)
each_turned count [] keyed typed = refl
each_turned count (row ∷ rows) keyed typed =
    let parts = and_parts (is_int (rowid row)) (have_rowids rows) keyed in
    λ i. row_turned count row parts.0 (typed row (inl refl)) i ∷ each_turned count rows parts.1 (λ r h. typed r (inr h)) i

-- each row of a database has values of its columns' types
pub all_typed : (db : Trees) → IsDatabase (record { schema = register_schema; trees = db }) → (row : Row) → Has (db meta.tree) row → are_typed meta.key 0 meta.columns (drop 1 row) ≡ true
all_typed db sound row there =
    let rows = all_has (λ (t : Table). AllByRecursion (λ row. passes Datatype register_schema db t row ≡ true) (db t.tree)) register_schema.tables meta (sound.obeys.rules Datatype) has_meta in
    (and_parts (are_typed meta.key 0 meta.columns (drop 1 row)) (has_computed meta row) (all_has (λ row. passes Datatype register_schema db meta row ≡ true) (db meta.tree) row rows there)).0

pub sets_draws : (old new : State) (count rows : ℕ) → old.now.schema ≡ register_schema → IsDatabase old.now
    → ExecutesInside 0 update_meta (Int (pos count) ∷ []) old new (Ok rows) → SetsDraws (Int (pos count) ∷ []) old new
sets_draws old new count rows has sound h =
    let it = updated_all register_schema meta 0 refl refl refl (λ _ _. refl) meta_turned update_meta (Int (pos count) ∷ []) old new rows updates_meta.0 updates_meta.1 refl (λ r. refl) has h in
    let own : IsDatabase (record { schema = register_schema; trees = old.now.trees }) = subst (λ (s : Schema). IsDatabase (record { schema = s; trees = old.now.trees })) has sound in
    let was = old.now.trees meta.tree in
    record {
      only = it.0;
      rows = λ keyed.
          let have : have_rowids was ≡ true = sym (shown_keyed meta (λ r. refl) was) ∙ keyed in
          let each = map-map (columns_of meta) (turned (Int (pos count) ∷ [])) was ∙ each_turned count was have (all_typed old.now.trees own) in
          subst (λ xs. IsPermutation xs (rows_of meta new.now.trees)) each (IsPermutation-map (columns_of meta) _ _ (it.1 have));
    }
