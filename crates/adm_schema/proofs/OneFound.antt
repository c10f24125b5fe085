-- One row that is found by a test and deleted by its rowid, in a table whose key is no integer.
use Rattle.std.proofs.Common.{◌≡◌, inl, inr, ℕ, ℤ, ◌^◌, List, [], ◌∷◌, length, map, filter, slice_get, Bool, true, false, not, nat_le, arith, Some, Ok, refl, sym, ap, subst, ◌∙◌}
use Rattle.std.specs.List.{list_all}
use Rattle.std.specs.List.Sorted.{IsPermutation}
use Rattle.std.specs.Ordering.{is_eq}
use Rattle.std.proofs.lemmas.Bool.{both_ways}
use Rattle.std.proofs.lemmas.Cmp.{tied_itself}
use Rattle.std.proofs.lemmas.List.Sorted.{IsPermutation-sym, length_permutation}
use Rattle.sqlite_value.proofs.OrderLemmas.{value_cmp_total}
use Rattle.sqlite.specs.declared.types.Value.{Value}
use Rattle.sqlite.specs.declared.types.Value.TheVariants.{Null, Int, Real, Text, Blob}
use Rattle.sqlite.specs.Collation.TheVariants.{Binary}
use Rattle.sqlite.specs.Order.{Row, value_cmp, column}
use Rattle.sqlite.specs.Term.{Term, col, eval_all, holds}
use Rattle.sqlite.specs.Table.{Table}
use Rattle.sqlite.specs.Schema.{Schema}
use Rattle.sqlite.specs.Command.TheVariants.{Select, Delete}
use Rattle.sqlite.specs.Tree.{rowid, has_rowid, without_rowid}
use Rattle.sqlite.specs.Edit.{id_in, without_all, next_rowid, with_rowid}
use Rattle.sqlite.specs.Effect.{Database}
use Rattle.sqlite.specs.Listing.{understood, reads_listing}
use Rattle.sqlite.specs.State.{State, Shown, ExecutesInside}
use Rattle.sqlite.proofs.Callers.{IsPlain, command_of, reads_as, one_permutation}
use Rattle.sqlite_sql.specs.Ops.{binary}
use Rattle.sqlite_schema.specs.Rules.{equal}
use Rattle.sqlite_schema.specs.declared.schema.Keys.TheVariants.{Enforced}
use Rattle.sqlite_rules.specs.Action.{works}
use Rattle.sqlite_rules.specs.Lists.{Has}
use Rattle.sqlite_rules.specs.Calls.{ids_of}
use Rattle.sqlite_rules.proofs.ListLemmas.{has_filtered, has_kept}
use Rattle.adm_schema.specs.Queries.{query_of, program_of}
use Rattle.adm_schema.specs.RowTexts.{has_key, is_present, has_code, find_present, find_school, delete_present, delete_school, insert_present, present_terms}
use Rattle.adm_schema.specs.Effects.{WritesOnly, AddsRow, DropsRow, begins_with, drop_of}
use Rattle.adm_schema.specs.Rows.{columns_of, rows_of}
use Rattle.adm_schema.specs.Schema.{present, school, register_schema}
use Rattle.adm_schema.proofs.Casts.{cast_null, cast_int}
use Rattle.adm_schema.proofs.RowTexts.{finds_present, finds_school, cuts_present, cuts_school, inserts_present}
use Rattle.sqlite.specs.Cast.{cast_row}
use Rattle.sqlite.specs.Rowids.TheVariants.{Chosen}
use Rattle.sqlite_keyed.proofs.ListLemmas.{filter-map, filter_same, IsPermutation-same}
use Rattle.std.specs.Prelude.{◌&&◌}
use Rattle.adm_schema.proofs.OneRow.{answers_some, truth_is, one_test}
use Rattle.adm_schema.proofs.Deletes.{deleted}
use Rattle.adm_schema.proofs.Inserts.{inserted, adds}

-- ---- two tests that each pick the same row alone pick the same rows

filter_on : (p q : Row → Bool) (rows : List Row) → ((r : Row) → Has rows r → p r ≡ q r) → filter p rows ≡ filter q rows
filter_on p q [] same = refl
filter_on p q (r ∷ rows) same = rw (same r (inl refl), filter_on p q rows (λ x h. same x (inr h)))

only_one : (x r : Row) → Has (x ∷ []) r → r ≡ x
only_one x r (inl is) = is
only_one x r (inr h) = absurd h

same_tests : (p q : Row → Bool) (rows : List Row) (x : Row) → filter p rows ≡ x ∷ [] → q x ≡ true → ((r : Row) → Has rows r → q r ≡ true → r ≡ x)
    → filter (λ r. not (q r)) rows ≡ filter (λ r. not (p r)) rows
same_tests p q rows x one holds_of alone = filter_on (λ r. not (q r)) (λ r. not (p r)) rows (λ r h. ap not (go r h (q r) refl (p r) refl))
  where
    there : p x ≡ true
    there = (has_filtered p rows x (subst (λ xs. Has xs x) (sym one) (inl refl))).1

    go : (r : Row) → Has rows r → (a : Bool) → q r ≡ a → (b : Bool) → p r ≡ b → a ≡ b
    go r h true is true was = refl
    go r h false is false was = refl
    go r h true is false was = absurd (both_ways (p r) was (ap p (alone r h is) ∙ there))
    go r h false is true was = absurd (both_ways (q r) is (ap q (only_one x r (subst (λ xs. Has xs r) one (has_kept p rows r h was))) ∙ holds_of))

null_apart : (k : ℤ) → is_eq (value_cmp Null (Int k)) ≡ false
unfolding value_cmp
null_apart k = refl

-- under = a value equals an integer, or a text, just where it is tied with it
pub equal_int : (v : Value) (k : ℤ) → equal Binary v (Int k) ≡ is_eq (value_cmp v (Int k))
unfolding binary
equal_int Null k = sym (null_apart k)
equal_int (Int n) k = truth_is (is_eq (value_cmp (Int n) (Int k)))
equal_int (Real x) k = truth_is (is_eq (value_cmp (Real x) (Int k)))
equal_int (Text t) k = truth_is (is_eq (value_cmp (Text t) (Int k)))
equal_int (Blob b) k = truth_is (is_eq (value_cmp (Blob b) (Int k)))

null_text : (t : List ℕ) → is_eq (value_cmp Null (Text t)) ≡ false
unfolding value_cmp
null_text t = refl

pub equal_text : (v : Value) (t : List ℕ) → equal Binary v (Text t) ≡ is_eq (value_cmp v (Text t))
unfolding binary
equal_text Null t = sym (null_text t)
equal_text (Int n) t = truth_is (is_eq (value_cmp (Int n) (Text t)))
equal_text (Real x) t = truth_is (is_eq (value_cmp (Real x) (Text t)))
equal_text (Text u) t = truth_is (is_eq (value_cmp (Text u) (Text t)))
equal_text (Blob b) t = truth_is (is_eq (value_cmp (Blob b) (Text t)))

own_is_tied : (k : ℤ) → is_eq (value_cmp (Int k) (Int k)) ≡ true
own_is_tied k = ap is_eq (tied_itself value_cmp_total (Int k))

-- one row is shown, of one row
one_source : {A B : Type 0} (f : A → B) (xs : List A) (y : B) → map f xs ≡ y ∷ [] → (x : A) × (xs ≡ x ∷ []) × (f x ≡ y)
one_source f [] y is = absurd (cc)
one_source f (x ∷ []) y is = (x, refl, (cc))
one_source f (x ∷ z ∷ more) y is = absurd (cc)

no_source : {A B : Type 0} (f : A → B) (xs : List A) → IsPermutation (map f xs) [] → xs ≡ []
no_source f [] none = refl
no_source f (x ∷ xs) none = absurd (omega (arith, length_permutation _ _ none))

-- where no row passes, the rows that do not pass are all
not_passing : (p : Row → Bool) (rows : List Row) → filter p rows ≡ [] → filter (λ r. not (p r)) rows ≡ rows
not_passing p [] none = refl
not_passing p (r ∷ rows) none = go (p r) refl (not_passing p rows)
  where
    go : (b : Bool) → p r ≡ b → (filter p rows ≡ [] → filter (λ r. not (p r)) rows ≡ rows) → filter (λ r. not (p r)) (r ∷ rows) ≡ r ∷ rows
    go true is more = absurd (subst (λ xs. Has xs r) none (has_kept p (r ∷ rows) r (inl refl) is))
    go false is more = rw is (ap (λ xs. r ∷ xs) (more (rw is at none)))

one_long : {A : Type 0} (xs : List A) → 1 ≡ length xs → (x : A) × (xs ≡ x ∷ [])
one_long [] one = absurd (cc)
one_long (x ∷ []) one = (x, refl)
one_long (x ∷ y ∷ more) one = absurd (cc)

abbrev pub passing : List Term → Row → Row → Bool
passing tests params r = list_all (holds (params ∷ r ∷ [])) tests

module _ (schema : Schema) (table : Table) (at : ℕ) (found : slice_get schema.tables at ≡ Some table) (uncounted : table.is_counted ≡ false) (unstamped : table.stamps.terms ≡ [])
    (alone : (olds news : List Row) → works schema Enforced 0 table.tree olds news ≡ []) (low : nat_le (2 ^ 31) table.tree ≡ false) where
  -- a SELECT of the rowid shows one integer: one row passes the tests, and has that rowid
  pub finds_one : (tests : List Term) (sql : List ℕ) (names : List (List ℕ)) (params shown : Row) (k : ℤ) (old new : State)
      → command_of (understood schema sql) ≡ Select (program_of (query_of table.tree tests (col 1 0 ∷ []) [])) names
      → IsPlain (understood schema sql) → reads_listing schema sql ≡ false → old.now.schema ≡ schema → column shown 0 ≡ Int k → Shown sql params old new (shown ∷ [])
      → (x : Row) × (filter (passing tests params) (old.now.trees table.tree) ≡ x ∷ []) × (rowid x ≡ Int k)
  finds_one tests sql names params shown k old new is plain unlisted has number h =
      let asked = answers_some table.tree tests (col 1 0 ∷ []) old.now params (shown ∷ []) low
      (reads_as sql params old new schema has (Select (program_of (query_of table.tree tests (col 1 0 ∷ []) [])) names) is plain unlisted (shown ∷ []) h) in
      let one = one_source (λ (r : Row). eval_all (col 1 0 ∷ []) (params ∷ r ∷ [])) (filter (passing tests params) (old.now.trees table.tree)) shown
      (one_permutation shown _ (IsPermutation-sym _ _ asked)) in
      (one.0, one.1, ap (λ (r : Row). column r 0) one.2 ∙ number)

  -- a SELECT that shows no row: no row passes the tests
  pub finds_none : (tests : List Term) (sql : List ℕ) (names : List (List ℕ)) (params : Row) (old new : State)
      → command_of (understood schema sql) ≡ Select (program_of (query_of table.tree tests (col 1 0 ∷ []) [])) names
      → IsPlain (understood schema sql) → reads_listing schema sql ≡ false → old.now.schema ≡ schema → Shown sql params old new [] → filter (passing tests params) (old.now.trees table.tree) ≡ []
  finds_none tests sql names params old new is plain unlisted has h =
      let asked = answers_some table.tree tests (col 1 0 ∷ []) old.now params [] low
      (reads_as sql params old new schema has (Select (program_of (query_of table.tree tests (col 1 0 ∷ []) [])) names) is plain unlisted [] h) in
      no_source (λ (r : Row). eval_all (col 1 0 ∷ []) (params ∷ r ∷ [])) (filter (passing tests params) (old.now.trees table.tree)) asked

  -- a query of the row of that rowid answers one row: no other row had it, and the rows that do not pass the tests are those of other rowids
  pub picks_found : (tests : List Term) (params : Row) (by project : List Term) (given : Row) (k : ℤ) (x : Row) (rows answered : List Row) → filter (passing tests params) rows ≡ x ∷ [] → rowid x ≡ Int k
      → ((r : Row) → passing by given r ≡ (equal Binary (rowid r) (Int k) && true))
      → IsPermutation (map (λ r. eval_all project (given ∷ r ∷ [])) (filter (passing by given) rows)) answered → 1 ≡ length answered
      → (answered ≡ eval_all project (given ∷ x ∷ []) ∷ []) × (without_rowid k rows ≡ filter (λ r. not (passing tests params r)) rows)
  picks_found tests params by project given k x rows answered one key picks asked long =
      let turned = λ (r : Row). eval_all project (given ∷ r ∷ []) in
      let shown = one_long answered long in
      let gone = one_source turned (filter (passing by given) rows) shown.0 (one_permutation shown.0 _ (IsPermutation-sym _ _ (subst (IsPermutation _) shown.1 asked))) in
      let there : Has rows x = (has_filtered (passing tests params) rows x (subst (λ xs. Has xs x) (sym one) (inl refl))).0 in
      let tied : passing by given x ≡ true = picks x ∙ one_test (equal Binary (rowid x) (Int k)) ∙ ap (λ v. equal Binary v (Int k)) key ∙ equal_int (Int k) k ∙ own_is_tied k in
      let same : x ≡ gone.0 = only_one gone.0 x (subst (λ xs. Has xs x) gone.1 (has_kept (passing by given) rows x there tied)) in
      let others = same_tests (passing tests params) (has_rowid k) rows x one (ap (λ v. is_eq (value_cmp v (Int k))) key ∙ own_is_tied k)
      (λ r h at_k. only_one gone.0 r (subst (λ xs. Has xs r) gone.1 (has_kept (passing by given) rows r h (picks r ∙ one_test (equal Binary (rowid r) (Int k)) ∙ equal_int (rowid r) k ∙ at_k)))
      ∙ sym same) in
      (shown.1 ∙ ap (λ r. r ∷ []) (sym gone.2 ∙ ap turned (sym same)), others)

  -- a DELETE by that rowid deletes one row: no other row had it, and the rows that do not pass the tests remain
  pub cuts_found : (tests : List Term) (params : Row) (sql : List ℕ) (k : ℤ) (x : Row) (old new : State) → filter (passing tests params) (old.now.trees table.tree) ≡ x ∷ [] → rowid x ≡ Int k
      → command_of (understood schema sql) ≡ Delete at (program_of (query_of table.tree has_key (col 1 0 ∷ []) [])) → IsPlain (understood schema sql)
      → old.now.schema ≡ schema → ExecutesInside 0 sql (Int k ∷ []) old new (Ok 1)
      → WritesOnly table old new × (new.now.trees table.tree ≡ filter (λ r. not (passing tests params r)) (old.now.trees table.tree))
  cuts_found tests params sql k x old new one key is plain has h =
      let rows = old.now.trees table.tree in
      let it = deleted schema table at found uncounted unstamped alone (program_of (query_of table.tree has_key (col 1 0 ∷ []) [])) sql (Int k ∷ []) old new 1 is plain has h in
      let asked = answers_some table.tree has_key (col 1 0 ∷ []) (record { schema = schema; trees = old.now.trees }) (Int k ∷ []) it.0 low it.2 in
      let picked = picks_found tests params has_key (col 1 0 ∷ []) (Int k ∷ []) k x rows it.0 one key (λ _. refl) asked it.4 in
      (it.1, it.3.rows ∙ ap (without_all rows) (ap ids_of picked.0 ∙ ap (λ v. id_in v ∷ []) key) ∙ picked.1)

  -- by the columns of its rows
  pub drops_found : (tests : List Term) (params key : Row) (sql : List ℕ) (k : ℤ) (x : Row) (old new : State) → ((r : Row) → passing tests params r ≡ begins_with key (columns_of table r))
      → filter (passing tests params) (old.now.trees table.tree) ≡ x ∷ [] → rowid x ≡ Int k
      → command_of (understood schema sql) ≡ Delete at (program_of (query_of table.tree has_key (col 1 0 ∷ []) [])) → IsPlain (understood schema sql)
      → old.now.schema ≡ schema → ExecutesInside 0 sql (Int k ∷ []) old new (Ok 1) → DropsRow table key old new
  drops_found tests params key sql k x old new test one number is plain has h =
      let it = cuts_found tests params sql k x old new one number is plain has h in
      let rows = old.now.trees table.tree in
      record {
        only = it.0;
        rows = IsPermutation-same _ _ (filter-map (λ r. not (begins_with key r)) (columns_of table) rows
            ∙ ap (map (columns_of table)) (filter_same _ _ (λ r. ap not (sym (test r))) rows) ∙ sym (ap (map (columns_of table)) it.1));
      }

-- ---- the two tables from which a row is dropped

-- where no row passes the tests, there is none to be dropped
drops_none : (table : Table) (tests : List Term) (params key : Row) (rows : List Row) → ((r : Row) → passing tests params r ≡ begins_with key (columns_of table r))
    → filter (passing tests params) rows ≡ [] → drop_of key (map (columns_of table) rows) ≡ map (columns_of table) rows
drops_none table tests params key rows test none =
    filter-map (λ r. not (begins_with key r)) (columns_of table) rows ∙ ap (map (columns_of table)) (filter_same _ _ (λ r. ap not (sym (test r))) rows)
    ∙ ap (map (columns_of table)) (not_passing (passing tests params) rows none)

pub present_test : (child imported : ℤ) (r : Row) → passing is_present (Int child ∷ Int imported ∷ []) r ≡ begins_with (Int child ∷ Int imported ∷ []) (columns_of present r)
present_test child imported r = λ i. equal_int (column r 1) child i && (equal_int (column r 2) imported i && true)

pub school_test : (code : List ℕ) (r : Row) → passing has_code (Text code ∷ []) r ≡ begins_with (Text code ∷ []) (columns_of school r)
school_test code r = λ i. equal_text (column r 1) code i && true

-- the row of a child, or of an imported row, is found and deleted
pub drops_present : (child imported k : ℤ) (shown : Row) (old mid new : State) → old.now.schema ≡ register_schema → mid.now ≡ old.now → column shown 0 ≡ Int k
    → Shown find_present (Int child ∷ Int imported ∷ []) old mid (shown ∷ [])
    → ExecutesInside 0 delete_present (Int k ∷ []) mid new (Ok 1) → DropsRow present (Int child ∷ Int imported ∷ []) mid new
drops_present child imported k shown old mid new has same number found h =
    let it = finds_one register_schema present 10 refl refl refl (λ _ _. refl) refl is_present find_present finds_present.0
    (Int child ∷ Int imported ∷ []) shown k old mid finds_present.1 finds_present.2 finds_present.3 has number found in
    drops_found register_schema present 10 refl refl refl (λ _ _. refl) refl is_present (Int child ∷ Int imported ∷ [])
    (Int child ∷ Int imported ∷ []) delete_present k it.0 mid new (present_test child imported)
    (ap (λ (d : Database). filter (passing is_present (Int child ∷ Int imported ∷ [])) (d.trees present.tree)) same
    ∙ it.1) it.2 cuts_present.0 cuts_present.1 (ap (λ (d : Database). d.schema) same ∙ has) h

-- it is not found, and there is none
pub no_present : (child imported : ℤ) (old new : State) → old.now.schema ≡ register_schema → Shown find_present (Int child ∷ Int imported ∷ []) old new []
    → drop_of (Int child ∷ Int imported ∷ []) (rows_of present old.now.trees) ≡ rows_of present old.now.trees
no_present child imported old new has found =
    drops_none present is_present (Int child ∷ Int imported ∷ []) (Int child ∷ Int imported ∷ []) (old.now.trees present.tree) (present_test child imported)
    (finds_none register_schema present 10 refl refl refl (λ _ _. refl) refl is_present find_present finds_present.0
    (Int child ∷ Int imported ∷ []) old new finds_present.1 finds_present.2 finds_present.3 has found)

-- the row of a school is found and deleted
pub drops_school : (code : List ℕ) (k : ℤ) (shown : Row) (old mid new : State) → old.now.schema ≡ register_schema → mid.now ≡ old.now → column shown 0 ≡ Int k
    → Shown find_school (Text code ∷ []) old mid (shown ∷ [])
    → ExecutesInside 0 delete_school (Int k ∷ []) mid new (Ok 1) → DropsRow school (Text code ∷ []) mid new
drops_school code k shown old mid new has same number found h =
    let it = finds_one register_schema school 1 refl refl refl (λ _ _. refl) refl has_code find_school finds_school.0
    (Text code ∷ []) shown k old mid finds_school.1 finds_school.2 finds_school.3 has number found in
    drops_found register_schema school 1 refl refl refl (λ _ _. refl) refl has_code (Text code ∷ []) (Text code ∷ []) delete_school k it.0 mid new (school_test code)
    (ap (λ (d : Database). filter (passing has_code (Text code ∷ [])) (d.trees school.tree)) same ∙ it.1) it.2 cuts_school.0 cuts_school.1 (ap (λ (d : Database). d.schema) same ∙ has) h

-- ---- a row that is added

given_present : (child imported : ℤ) (school : List ℕ) (rows : List Row)
    → with_rowid Chosen rows (cast_row present (Null ∷ Int child ∷ Int imported ∷ Text school ∷ [])) ≡ Int (next_rowid rows) ∷ Int child ∷ Int imported ∷ Text school ∷ []
given_present child imported school rows = rw (cast_null, cast_int child, cast_int imported)

pub adds_present : (child imported : ℤ) (school : List ℕ) (old new : State) (count : ℕ) → old.now.schema ≡ register_schema
    → ExecutesInside 0 insert_present (Int child ∷ Int imported ∷ Text school ∷ []) old new (Ok count)
    → AddsRow present (Int child ∷ Int imported ∷ Text school ∷ []) old new
adds_present child imported school old new count has h =
    let row : Row = Int child ∷ Int imported ∷ Text school ∷ [] in
    adds register_schema present 10 refl refl refl (λ _ _. refl) old new (Null ∷ row) row (λ rows. ap (columns_of present) (given_present child imported school rows))
    (inserted register_schema present 10 refl refl refl (λ _ _. refl) present_terms 4 insert_present row (Null ∷ row) old new count inserts_present.0 inserts_present.1 refl has h)
