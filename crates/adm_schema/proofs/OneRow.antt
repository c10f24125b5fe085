-- One row that is written or deleted by its key, an integer in the first column.
use Rattle.std.proofs.Common.{◌≡◌, inl, inr, ℕ, ℤ, ◌/◌, ◌^◌, List, [], ◌∷◌, ◌++◌, length, map, drop, filter, flat_map, slice_get, Bool, true, false, not, cond, nat_le, Some, None, Ok, refl, sym, ap, subst, subst₂, ◌∙◌}
use Rattle.std.specs.Prelude.{◌&&◌, ◌||◌}
use Rattle.std.specs.List.{list_any, list_all}
use Rattle.std.specs.Ordering.{is_eq, int_cmp}
use Rattle.std.specs.FinMap.{int_cmp-IsAntisymmetric}
use Rattle.std.specs.List.Sorted.{IsPermutation}
use Rattle.std.proofs.lemmas.Bool.{not-true}
use Rattle.sqlite.specs.declared.types.Value.TheVariants.{Int}
use Rattle.sqlite.specs.Collation.TheVariants.{Binary}
use Rattle.sqlite.specs.Order.{Row, value_cmp}
use Rattle.sqlite.specs.Tree.{rowid, has_rowid, without_rowid}
use Rattle.sqlite.specs.View.{is_int}
use Rattle.sqlite.specs.Edit.{id_in, have_rowids, without_all}
use Rattle.sqlite_value.proofs.OrderLemmas.{value_cmp-Int}
use Rattle.sqlite_value.specs.Keys.{first_key}
use Rattle.sqlite_sql.specs.Ops.{binary, is_true, from_truth}
use Rattle.sqlite_schema.specs.Rules.{equal}
use Rattle.sqlite_rules.specs.Lists.{Has}
use Rattle.sqlite_rules.specs.Action.{works}
use Rattle.sqlite_sql.specs.Ops.{is_null}
use Rattle.sqlite.specs.Term.{Term, col, eval_all, holds}
use Rattle.sqlite.specs.Schema.{Schema}
use Rattle.sqlite.specs.Source.TheVariants.{Values}
use Rattle.sqlite.specs.Command.TheVariants.{InsertOr, Delete}
use Rattle.sqlite.specs.Edit.{next_rowid, with_rowid}
use Rattle.sqlite.specs.Rowids.TheVariants.{Chosen}
use Rattle.sqlite.specs.Cast.{cast_row}
use Rattle.sqlite.specs.Rows.{mended}
use Rattle.sqlite.specs.Effect.{value_rows}
use Rattle.sqlite.specs.Listing.{understood}
use Rattle.sqlite.specs.State.{State, ExecutesInside}
use Rattle.sqlite.proofs.Callers.{IsPlain, command_of}
use Rattle.sqlite_schema.specs.declared.command.Conflict.TheVariants.{Replace}
use Rattle.sqlite_schema.specs.declared.schema.Keys.TheVariants.{Enforced}
use Rattle.std.proofs.lemmas.List.Sorted.{IsPermutation-map, IsPermutation-sym, Contains-permutation}
use Rattle.std.proofs.lemmas.Simd.{map-map}
use Rattle.sqlite.specs.declared.types.Value.TheVariants.{Null}
use Rattle.sqlite.specs.Query.{IsAnswer, Output, output}
use Rattle.sqlite.specs.Program.{overlay}
use Rattle.sqlite.specs.Effect.{Database, Answers}
use Rattle.adm_lists.proofs.Orders.{same_key}
use Rattle.adm_schema.specs.Queries.{query_of, program_of}
use Rattle.adm_schema.specs.RowTexts.{has_key}
use Rattle.adm_schema.specs.Effects.{PutsRow, DeletesRow, integer_key}
use Rattle.adm_schema.proofs.Deletes.{deleted}
use Rattle.adm_schema.proofs.Replaces.{replaced, replaced_rows, Replaces}
use Rattle.sqlite_rules.specs.Calls.{ids_of}
use Rattle.sqlite_rules.specs.Keys.{AreConflicts, conflicts, shares}
use Rattle.sqlite_schema.specs.declared.schema.Index.{Index}
use Rattle.sqlite.specs.Table.{Table}
use Rattle.sqlite_keyed.proofs.ListLemmas.{filter-map, filter_same, IsPermutation-same}
use Rattle.adm_schema.specs.Rows.{columns_of, rows_of}
use Rattle.adm_schema.proofs.Lists.{has_source, has_mapped, ids_have, keyed_without}
use Rattle.sqlite_rules.proofs.ListLemmas.{has_filtered, has_kept, has_contained, contains_had, test_has}
use Rattle.sqlite_rules.proofs.TableLemmas.{int_is}

pub truth_is : (t : Bool) → is_true (from_truth (Some t)) ≡ t
truth_is true = refl
truth_is false = refl

-- two integers are equal under = just where they are the same
pub equal_ints : (a b : ℤ) → equal Binary (Int a) (Int b) ≡ is_eq (value_cmp (Int a) (Int b))
unfolding binary
equal_ints a b = truth_is (is_eq (value_cmp (Int a) (Int b)))

-- ---- the rows of one key, by their rowids

-- a row with an integer equals a number under = just where it has that rowid
equal_rowid : (r : Row) (k : ℤ) → is_int (rowid r) ≡ true → equal Binary (rowid r) (Int k) ≡ has_rowid k r
equal_rowid r k own = subst (λ v. equal Binary v (Int k) ≡ is_eq (value_cmp v (Int k))) (sym (int_is (rowid r) own)) (equal_ints (id_in (rowid r)) k)

own_rowid : (r : Row) (k : ℤ) → is_int (rowid r) ≡ true → has_rowid k r ≡ true → id_in (rowid r) ≡ k
own_rowid r k own h =
    let tie : is_eq (int_cmp (id_in (rowid r)) k) ≡ true = ap is_eq (sym (value_cmp-Int (id_in (rowid r)) k)) ∙ subst (λ v. is_eq (value_cmp v (Int k)) ≡ true) (int_is (rowid r) own) h in
    same_key int_cmp-IsAntisymmetric (id_in (rowid r)) k tie

-- where no row has the rowid, taking it out changes nothing
none_goes : (k : ℤ) (rows : List Row) → ((r : Row) → Has rows r → has_rowid k r ≡ false) → without_rowid k rows ≡ rows
none_goes k [] none = refl
none_goes k (r ∷ rows) none = rw (none r (inl refl)) (ap (λ rs. r ∷ rs) (none_goes k rows (λ x h. none x (inr h))))

gone_already : (k : ℤ) (ids : List ℤ) (rows : List Row) → ((i : ℤ) → Has ids i → i ≡ k) → ((r : Row) → Has rows r → has_rowid k r ≡ false) → without_all rows ids ≡ rows
gone_already k [] rows same none = refl
gone_already k (i ∷ ids) rows same none =
    let first : without_rowid i rows ≡ rows = ap (λ j. without_rowid j rows) (same i (inl refl)) ∙ none_goes k rows none in
    ap (λ rs. without_all rs ids) first ∙ gone_already k ids rows (λ j h. same j (inr h)) none

left_apart : (k : ℤ) (rows : List Row) (r : Row) → Has (without_rowid k rows) r → has_rowid k r ≡ false
left_apart k rows r h = not-true _ (has_filtered (λ x. not (has_rowid k x)) rows r h).1

-- the rowids are all this one, and it is among them where a row has it
pub all_of_key : (k : ℤ) (ids : List ℤ) (rows : List Row) → ((i : ℤ) → Has ids i → i ≡ k) → ((r : Row) → Has rows r → has_rowid k r ≡ true → Has ids k) → without_all rows ids ≡ without_rowid k rows
all_of_key k [] rows same there = sym (none_goes k rows (λ r h. go r (has_rowid k r) refl h))
  where
    go : (r : Row) (b : Bool) → has_rowid k r ≡ b → Has rows r → b ≡ false
    go r true is h = absurd (there r h is)
    go r false is h = refl
all_of_key k (i ∷ ids) rows same there =
    ap (λ j. without_all (without_rowid j rows) ids) (same i (inl refl)) ∙ gone_already k ids (without_rowid k rows) (λ j h. same j (inr h)) (left_apart k rows)

plain_test : (b : Bool) → ((b && true) || false) ≡ b
plain_test true = refl
plain_test false = refl

conflict_is : (indexes : List Index) (table : Table) (new r : Row) → conflicts None indexes table new r ≡ ((equal Binary (rowid r) (rowid new) && true) || list_any (shares None table new r) indexes)
unfolding first_key
conflict_is indexes table new r = refl

-- the rows that are in the way of a new one: those of its rowid
pub in_the_way : (indexes : List Index) (table : Table) (rows there : List Row) (new : Row) (k : ℤ) → rowid new ≡ Int k → ((r : Row) → list_any (shares None table new r) indexes ≡ false)
    → have_rowids rows ≡ true → AreConflicts None indexes table rows new there → without_all rows (ids_of there) ≡ without_rowid k rows
in_the_way indexes table rows there new k is unguarded keyed h = all_of_key k (ids_of there) rows
    (λ i listed. let it = has_source (λ (x : Row). id_in (rowid x)) there i listed in
    let from = h.sound it.0 it.1 in
    let own = test_has (λ (x : Row). is_int (rowid x)) rows from.0 keyed from.1 in
    let same : i ≡ id_in (rowid from.0) = it.2 ∙ ap (λ (x : Row). id_in (rowid x)) from.3 in
    same ∙ own_rowid from.0 k own (sym (only from.0 own) ∙ from.2))
    (λ r listed tie.
    let own = test_has (λ (x : Row). is_int (rowid x)) rows r keyed listed in
    subst (Has (ids_of there)) (own_rowid r k own tie) (has_mapped (λ (x : Row). id_in (rowid x)) there (rowid r ∷ []) (h.complete r listed (only r own ∙ tie))))
  where
    only : (r : Row) → is_int (rowid r) ≡ true → conflicts None indexes table new r ≡ has_rowid k r
    only r own = conflict_is indexes table new r ∙ (λ i. (equal Binary (rowid r) (is i) && true) || unguarded r i) ∙ plain_test (equal Binary (rowid r) (Int k)) ∙ equal_rowid r k own

-- ---- the columns of the rows

module _ (table : Table) (own : (r : Row) → rowid (columns_of table r) ≡ rowid r) where
  pub shown_without : (k : ℤ) (rows : List Row) → without_rowid k (map (columns_of table) rows) ≡ map (columns_of table) (without_rowid k rows)
  shown_without k rows = filter-map (λ r. not (has_rowid k r)) (columns_of table) rows ∙ ap (map (columns_of table)) (filter_same _ _ (λ r. ap (λ v. not (is_eq (value_cmp v (Int k)))) (own r)) rows)

  pub shown_keyed : (rows : List Row) → have_rowids (map (columns_of table) rows) ≡ have_rowids rows
  shown_keyed [] = refl
  shown_keyed (r ∷ rows) = λ i. is_int (own r i) && shown_keyed rows i

-- ---- a query with a WHERE

pub one_test : (b : Bool) → (b && true) ≡ b
one_test true = refl
one_test false = refl

tested : {X E O : Type 0} (p : X → Bool) (env : X → E) (show : E → O) (xs : List X) → map show (flat_map (λ x. cond (p x) (env x ∷ []) []) xs) ≡ map (λ x. show (env x)) (filter p xs)
tested p env show [] = refl
tested p env show (x ∷ xs) = elim (p x) as (λ b. map show (cond b (env x ∷ []) [] ++ flat_map (λ y. cond (p y) (env y ∷ []) []) xs) ≡ map (λ y. show (env y)) (cond b (x ∷ filter p xs) (filter p xs)))
    [ true ↦ ap (λ ys. show (env x) ∷ ys) (tested p env show xs) | false ↦ tested p env show xs ]

-- the columns of the rows that pass, in some order
pub answers_some : (tree : ℕ) (tests : List Term) (project : List Term) (db : Database) (params : Row) (rows : List Row) → nat_le (2 ^ 31) tree ≡ false
    → Answers db (program_of (query_of tree tests project [])) params rows
    → IsPermutation (map (λ r. eval_all project (params ∷ r ∷ [])) (filter (λ r. list_all (holds (params ∷ r ∷ [])) tests) (db.trees tree))) rows
answers_some tree tests project db params rows low h =
    let q = query_of tree tests project [] in
    let a : IsAnswer q (overlay db.trees []) params rows = h.answer Null in
    let there : overlay db.trees [] tree ≡ db.trees tree = rw low in
    let passes = λ (r : Row). list_all (holds (params ∷ r ∷ [])) tests in
    let staged : a.staged ≡ flat_map (λ r. cond (passes r) ((params ∷ r ∷ []) ∷ []) []) (db.trees tree) = a.grouped ∙ ap (flat_map (λ r. cond (passes r) ((params ∷ r ∷ []) ∷ []) [])) there in
    let kept : map (λ (o : Output). o.1) a.kept ≡ map (λ r. eval_all project (params ∷ r ∷ [])) (filter passes (db.trees tree)) =
    ap (map (λ (o : Output). o.1)) (a.distinct ∙ ap (map (output q)) staged) ∙ map-map (λ (o : Output). o.1) (output q) _
    ∙ tested passes (λ r. params ∷ r ∷ []) (λ env. eval_all project env) (db.trees tree) in
    subst₂ IsPermutation kept (sym a.shown) (IsPermutation-map (λ (o : Output). o.1) a.kept a.ordered a.same)

-- the rows that go are those of the key
goes_by_key : (k : ℤ) (rows found : List Row) → have_rowids rows ≡ true
    → IsPermutation (map (λ r. eval_all (col 1 0 ∷ []) ((Int k ∷ []) ∷ r ∷ [])) (filter (λ r. list_all (holds ((Int k ∷ []) ∷ r ∷ [])) has_key) rows)) found
    → without_all rows (ids_of found) ≡ without_rowid k rows
goes_by_key k rows found keyed answered =
    let passes = λ (r : Row). list_all (holds ((Int k ∷ []) ∷ r ∷ [])) has_key in
    let ids = subst (λ xs. IsPermutation xs (ids_of found)) (map-map (λ (r : Row). id_in (rowid r)) (λ (r : Row). eval_all (col 1 0 ∷ []) ((Int k ∷ []) ∷ r ∷ []))
    (filter passes rows)) (IsPermutation-map (λ (r : Row). id_in (rowid r)) _ found answered) in
    all_of_key k (ids_of found) rows
    (λ i listed.
    let it = has_source (λ (r : Row). id_in (rowid r)) (filter passes rows) i (has_contained _ _ (Contains-permutation _ _ _ (IsPermutation-sym _ _ ids) (contains_had _ _ listed))) in
    let from = has_filtered passes rows it.0 it.1 in
    let int = test_has (λ (x : Row). is_int (rowid x)) rows it.0 keyed from.0 in
    it.2 ∙ own_rowid it.0 k int (sym (test it.0 int) ∙ from.1))
    (λ r listed tie.
    let int = test_has (λ (x : Row). is_int (rowid x)) rows r keyed listed in
    subst (Has (ids_of found)) (own_rowid r k int tie) (ids_have (filter passes rows) (ids_of found) ids r (has_kept passes rows r listed (test r int ∙ tie))))
  where
    test : (r : Row) → is_int (rowid r) ≡ true → list_all (holds ((Int k ∷ []) ∷ r ∷ [])) has_key ≡ has_rowid k r
    test r int = one_test (equal Binary (rowid r) (Int k)) ∙ equal_rowid r k int

-- ---- the statements

given_rowid : (rows : List Row) (source : Row) (k : ℤ) → rowid source ≡ Int k → with_rowid Chosen rows source ≡ source
given_rowid rows source k is = ap (λ v. cond (is_null v) (Int (next_rowid rows) ∷ drop 1 source) source) is

module _ (schema : Schema) (table : Table) (at : ℕ) (found : slice_get schema.tables at ≡ Some table) (uncounted : table.is_counted ≡ false) (unstamped : table.stamps.terms ≡ [])
    (alone : (olds news : List Row) → works schema Enforced 0 table.tree olds news ≡ []) (own : (r : Row) → rowid (columns_of table r) ≡ rowid r) where
  -- an INSERT OR REPLACE of one row, where no index guards the table
  pub puts_row : (terms : List Term) (width : ℕ) (sql : List ℕ) (params source row : Row) (k : ℤ) (old new : State) (count : ℕ)
      → ((new r : Row) → list_any (shares None table new r) schema.indexes ≡ false)
      → command_of (understood schema sql) ≡ InsertOr at Replace (Values terms width) [] → IsPlain (understood schema sql) → value_rows params width (length terms / width) terms ≡ source ∷ []
      → cast_row table (mended Replace table source) ≡ source → cast_row table source ≡ source → rowid source ≡ Int k → columns_of table source ≡ row
      → old.now.schema ≡ schema → ExecutesInside 0 sql params old new (Ok count) → PutsRow table row old new
  puts_row terms width sql params source row k old new count unguarded is plain one mends casts key shows has h =
      let it = replaced schema table at found uncounted unstamped alone terms width sql params source old new count is plain one has h in
      let rows = old.now.trees table.tree in
      let chosen : with_rowid Chosen rows (cast_row table (mended Replace table source)) ≡ source = ap (with_rowid Chosen rows) mends ∙ given_rowid rows source k key in
      let way = subst (λ x. AreConflicts None schema.indexes table rows x it.0) chosen it.2 in
      let done = subst (λ x. Replaces schema table at found uncounted unstamped alone old.now.trees x it.0 new.now.trees) chosen it.3 in
      let number : integer_key row ≡ k = ap integer_key (sym shows) ∙ ap id_in (own source ∙ key) in
      record {
        only = it.1;
        rows = λ keyed.
            let have : have_rowids rows ≡ true = sym (shown_keyed table own rows) ∙ keyed in
            let more = (replaced_rows schema table at found uncounted unstamped alone old.now.trees source it.0 new.now.trees done have).0 in
            let left = in_the_way schema.indexes table rows it.0 source k key (unguarded source) have way in
            let put = subst₂ (λ x xs. IsPermutation (x ∷ xs) (new.now.trees table.tree)) casts left more in
            let shown = IsPermutation-map (columns_of table) _ _ put in
            let all = sym (ap (λ j. without_rowid j (rows_of table old.now.trees)) number ∙ shown_without table own k rows) in
            subst₂ (λ x xs. IsPermutation (x ∷ xs) (rows_of table new.now.trees)) shows all shown;
        keyed = λ keyed.
            let have : have_rowids rows ≡ true = sym (shown_keyed table own rows) ∙ keyed in
            shown_keyed table own (new.now.trees table.tree) ∙ (replaced_rows schema table at found uncounted unstamped alone old.now.trees source it.0 new.now.trees done have).1;
      }

  -- a DELETE of the row of one key
  pub cuts_row : (sql : List ℕ) (k : ℤ) (old new : State) (count : ℕ)
      → command_of (understood schema sql) ≡ Delete at (program_of (query_of table.tree has_key (col 1 0 ∷ []) [])) → IsPlain (understood schema sql)
      → nat_le (2 ^ 31) table.tree ≡ false → old.now.schema ≡ schema → ExecutesInside 0 sql (Int k ∷ []) old new (Ok count) → DeletesRow table k old new
  cuts_row sql k old new count is plain low has h =
      let some = deleted schema table at found uncounted unstamped alone (program_of (query_of table.tree has_key (col 1 0 ∷ []) [])) sql (Int k ∷ []) old new count is plain has h in
      let rows = old.now.trees table.tree in
      record {
        only = some.1;
        rows = λ keyed.
            let have : have_rowids rows ≡ true = sym (shown_keyed table own rows) ∙ keyed in
            let asked = answers_some table.tree has_key (col 1 0 ∷ []) (record { schema = schema; trees = old.now.trees }) (Int k ∷ []) some.0 low some.2 in
            let left : new.now.trees table.tree ≡ without_rowid k rows = some.3.rows ∙ goes_by_key k rows some.0 have asked in
            IsPermutation-same _ _ (shown_without table own k rows ∙ sym (ap (map (columns_of table)) left));
        keyed = λ keyed.
            let have : have_rowids rows ≡ true = sym (shown_keyed table own rows) ∙ keyed in
            shown_keyed table own (new.now.trees table.tree) ∙ ap have_rowids some.3.rows ∙ keyed_without (ids_of some.0) rows have;
      }
