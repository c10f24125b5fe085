-- What an INSERT OR REPLACE does, by its command.
use Rattle.std.proofs.Common.{◌≡◌, ◌≢◌, inl, inr, ℕ, ℤ, ◌/◌, List, [], ◌∷◌, length, slice_get, true, false, not, Some, None, Ok, refl, sym, ap, subst, subst₂, ◌∙◌, Option}
use Rattle.sqlite.specs.Order.{Row}
use Rattle.sqlite.specs.Term.{Term}
use Rattle.sqlite.specs.Table.{Table}
use Rattle.sqlite.specs.Schema.{Schema}
use Rattle.sqlite.specs.Source.TheVariants.{Values}
use Rattle.sqlite.specs.Command.TheVariants.{InsertOr}
use Rattle.sqlite.specs.Edit.{Edit, edit_of, Applies, with_rowid, have_rowids, is_taken, without_all}
use Rattle.sqlite_rules.specs.Edit.{taken_by}
use Rattle.sqlite.specs.Rowids.TheVariants.{Chosen, Given}
use Rattle.sqlite_rules.specs.declared.error.Rowids.{Rowids}
use Rattle.sqlite_rules.specs.declared.error.Refusal.{Refusal}
use Rattle.sqlite_rules.specs.Keys.{AreConflicts}
use Rattle.sqlite_schema.specs.declared.command.Conflict.TheVariants.{Replace}
use Rattle.sqlite_schema.specs.declared.schema.Keys.TheVariants.{Enforced}
use Rattle.sqlite_rules.specs.Action.{works}
use Rattle.sqlite_rules.specs.Lists.{Has}
use Rattle.sqlite_rules.proofs.ListLemmas.{all_has}
use Rattle.sqlite.specs.Does.{Tally, Does, OnRows}
use Rattle.sqlite.specs.Rows.{Written, Task, rowids_for, count_of, mended, nothing, Puts, Clears, Tries, TriesEach, Judged, InsertsOr}
use Rattle.sqlite_rules.specs.Calls.{ids_of}
use Rattle.sqlite.specs.Tree.{Trees, rowid}
use Rattle.sqlite.specs.Effect.{Database, value_rows}
use Rattle.sqlite.specs.Listing.{understood}
use Rattle.sqlite.specs.State.{State, mode_of, ExecutesInside}
use Rattle.sqlite.proofs.Callers.{IsPlain, command_of, statement_of, runs_as, one_step}
use Rattle.std.specs.List.Sorted.{IsPermutation}
use Rattle.std.proofs.lemmas.Bool.{and_parts, not-true}
use Rattle.sqlite.specs.View.{is_int}
use Rattle.sqlite.specs.Cast.{cast_row}
use Rattle.adm_schema.specs.Effects.{WritesOnly}
use Rattle.adm_schema.proofs.Lists.{put_free, keyed_put, keyed_without}
use Rattle.adm_schema.proofs.Statements.{went, same_value, unless_counted, unstamped_row, uncounted_rowids, task_in, at_table, ends}

module _ (schema : Schema) (table : Table) (at : ℕ) (found : slice_get schema.tables at ≡ Some table) (uncounted : table.is_counted ≡ false) (unstamped : table.stamps.terms ≡ [])
    (alone : (olds news : List Row) → works schema Enforced 0 table.tree olds news ≡ []) where
  abbrev task : State → Row → Task
  task = task_in schema table at found uncounted unstamped alone

  -- what becomes of the table where these rows are in the way: they go, and the new one comes
  abbrev pub Replaces : Trees → Row → List Row → Trees → Type 0
  Replaces db new [] next = Applies schema Enforced db (edit_of db table [] Given 0 (new ∷ [])) next
  Replaces db new (x ∷ more) next =
      (mid : Trees) × Applies schema Enforced db (edit_of db table (ids_of (x ∷ more)) Given 0 []) mid × Applies schema Enforced mid (edit_of mid table [] Given 0 (new ∷ [])) next

  puts : (old : State) (params new : Row) (db : Trees) (w : Written) → Puts (task old params) new db (Ok w) → Applies schema Enforced db (edit_of db table [] Given 0 (new ∷ [])) w.trees
  puts old params new db w h =
      let put = went h in
      let edit : Edit = edit_of db table [] Given 0 (new ∷ []) in
      let applied = one_step schema Enforced db put.0 edit (alone (taken_by db edit) edit.news) put.1 in
      subst (Applies schema Enforced db edit) (sym (ap (λ (it : Written). it.trees) (same_value put.2))) applied

  clears : (old : State) (params new : Row) (db : Trees) (there : List Row) (w : Written) → Clears (task old params) Replace new db there (Ok w) → Replaces db new there w.trees
  clears old params new db [] w h = puts old params new db w h
  clears old params new db (x ∷ more) w h =
      let gone = went h in
      let edit : Edit = edit_of db table (ids_of (x ∷ more)) Given 0 [] in
      (gone.0, one_step schema Enforced db gone.0 edit (alone (taken_by db edit) edit.news) gone.1, puts old params new gone.0 w gone.2)

  tries : (task : Task) (new : Row) (db : Trees) (w : Written) → Tries task Replace [] new db (Ok w)
      → (there : List Row) × AreConflicts None task.schema.indexes task.table (db task.table.tree) new there × Clears task Replace new db there (Ok w)
  tries task new db w (inl h) = absurd (let e = h.1 in cc)
  tries task new db w (inr h) = go h.0 h.2
    where
      go : (verdict : Option Refusal) → Judged task Replace [] new db verdict (Ok w)
          → (there : List Row) × AreConflicts None task.schema.indexes task.table (db task.table.tree) new there × Clears task Replace new db there (Ok w)
      go None k = k
      go (Some why) k = absurd (let e = k in cc)

  pub replaces_one : (old : State) (params source : Row) (terms : List Term) (width : ℕ) (db : Trees) (w : Written) → value_rows params width (length terms / width) terms ≡ source ∷ []
      → InsertsOr (task old params) Replace [] (Values terms width) db (Ok w)
      → (there : List Row) × AreConflicts None schema.indexes table (db table.tree) (with_rowid Chosen (db table.tree) (cast_row table (mended Replace table source))) there
      × Replaces db (with_rowid Chosen (db table.tree) (cast_row table (mended Replace table source))) there w.trees
  replaces_one old params source terms width db w one h =
      let given = went h in
      let counted = went given.2 in
      let tried = went counted.2 in
      let last = went tried.2 in
      let rows : given.0 ≡ source ∷ [] = given.1.1 ∙ ap (λ p. value_rows p width (length terms / width) terms) (unstamped_row table unstamped params) ∙ one in
      let each = went (subst (λ all. TriesEach (task old params) Replace [] all (count_of counted.0) (nothing db) (Ok tried.0)) rows tried.1) in
      let done : tried.0.0.trees ≡ each.0.trees = ap (λ (p : Written × ℤ). p.0.trees) (same_value each.2) in
      let next : last.0 ≡ tried.0.0.trees = same_value (unless_counted _ _ _ _ uncounted last.1) in
      let trees : w.trees ≡ each.0.trees = ap (λ (it : Written). it.trees) (same_value last.2) ∙ next ∙ done in
      let row = λ (by : Rowids). with_rowid by (db table.tree) (cast_row table (mended Replace table source)) in
      let all = tries (task old params) (row (rowids_for table (count_of counted.0))) db each.0 each.1 in
      let chosen = ap row (uncounted_rowids table uncounted (count_of counted.0)) in (
        all.0,
        subst (λ new. AreConflicts None schema.indexes table (db table.tree) new all.0) chosen all.1,
        subst₂ (λ new t. Replaces db new all.0 t) chosen (sym trees) (clears old params (row (rowids_for table (count_of counted.0))) db all.0 each.0 all.2),
      )

  replaces_on : (old new : State) (params : Row) (tally : Tally) (terms : List Term) (width : ℕ) (text : List ℕ) → old.now.schema ≡ schema
      → Does old.step_limit (mode_of old) params old.now text None (InsertOr at Replace (Values terms width) []) (Ok (tally, new.now))
      → (w : Written) × InsertsOr (task old params) Replace [] (Values terms width) old.now.trees (Ok w) × (new.now ≡ record { schema = schema; trees = w.trees })
  replaces_on old new params tally terms width text has h =
      let command = InsertOr at Replace (Values terms width) [] in
      let done = went (at_table schema table at found uncounted unstamped alone (λ t. OnRows (record (task old params) { table = t }) (mode_of old) None command old.now.trees) _
      (subst (λ s. Does old.step_limit (mode_of old) params (record old.now { schema = s }) text None command (Ok (tally, new.now))) has h)) in
      (done.0, done.1, ends schema table at found uncounted unstamped alone (task old params) (mode_of old) done.0 tally new.now done.2)

  kept_by : (db next : Trees) (edit : Edit) → edit.table ≡ table → Applies schema Enforced db edit next → (t : Table) → Has schema.tables t → t.tree ≢ table.tree → next t.tree ≡ db t.tree
  kept_by db next edit of applied t h differ =
      all_has (λ (u : Table). u.tree ≢ edit.table.tree → next u.tree ≡ db u.tree) schema.tables t applied.tables h (subst (λ (u : Table). t.tree ≢ u.tree) (sym of) differ)

  replaces_keeps : (db : Trees) (new : Row) (there : List Row) (next : Trees) → Replaces db new there next → (t : Table) → Has schema.tables t → t.tree ≢ table.tree → next t.tree ≡ db t.tree
  replaces_keeps db new [] next h t listed differ = kept_by db next _ refl h t listed differ
  replaces_keeps db new (x ∷ more) next h t listed differ = kept_by h.0 next _ refl h.2 t listed differ ∙ kept_by db h.0 _ refl h.1 t listed differ

  -- the rows in the way are gone, and the new one is there under a rowid of its own
  pub replaced_rows : (db : Trees) (new : Row) (there : List Row) (next : Trees) → Replaces db new there next → have_rowids (db table.tree) ≡ true
      → IsPermutation (cast_row table new ∷ without_all (db table.tree) (ids_of there)) (next table.tree) × (have_rowids (next table.tree) ≡ true)
  replaced_rows db new [] next h keyed =
      let row = cast_row table new in
      let rows = db table.tree in
      let free = not-true _ (and_parts (not (is_taken rows row)) true h.fresh).0 in
      (subst (IsPermutation (row ∷ rows)) (sym h.rows) (put_free row rows free), ap have_rowids h.rows ∙ keyed_put row rows (and_parts (is_int (rowid row)) true h.keyed).0 keyed)
  replaced_rows db new (x ∷ more) next h keyed =
      let row = cast_row table new in
      let rows = without_all (db table.tree) (ids_of (x ∷ more)) in
      let left : h.0 table.tree ≡ rows = h.1.rows in
      let free = not-true _ (and_parts (not (is_taken (h.0 table.tree) row)) true h.2.fresh).0 in
      let all = ap have_rowids left ∙ keyed_without (ids_of (x ∷ more)) (db table.tree) keyed in (
        subst₂ (λ a b. IsPermutation (row ∷ a) b) left (sym h.2.rows) (put_free row (h.0 table.tree) free),
        ap have_rowids h.2.rows ∙ keyed_put row (h.0 table.tree) (and_parts (is_int (rowid row)) true h.2.keyed).0 all,
      )

  -- an INSERT OR REPLACE of one row, inside a transaction
  pub replaced : (terms : List Term) (width : ℕ) (sql : List ℕ) (params source : Row) (old new : State) (count : ℕ)
      → command_of (understood schema sql) ≡ InsertOr at Replace (Values terms width) [] → IsPlain (understood schema sql)
      → value_rows params width (length terms / width) terms ≡ source ∷ [] → old.now.schema ≡ schema → ExecutesInside 0 sql params old new (Ok count)
      → (there : List Row) × WritesOnly table old new × AreConflicts None schema.indexes table (old.now.trees table.tree)
      (with_rowid Chosen (old.now.trees table.tree) (cast_row table (mended Replace table source))) there
      × Replaces old.now.trees (with_rowid Chosen (old.now.trees table.tree) (cast_row table (mended Replace table source))) there new.now.trees
  replaced terms width sql params source old new count is plain one has h =
      let w = runs_as sql params old new schema has (InsertOr at Replace (Values terms width) []) is plain count h.0 in
      let on = replaces_on old new params w.tally terms width (statement_of sql (understood schema sql)) has w.changed in
      let it = replaces_one old params source terms width old.now.trees on.0 one on.1 in
      let trees = ap (λ (d : Database). d.trees) on.2 in
      let row = with_rowid Chosen (old.now.trees table.tree) (cast_row table (mended Replace table source)) in
      let only : WritesOnly table old new = record {
        was_open = h.1.was_open;
        is_open = h.1.is_open;
        schema = ap (λ (d : Database). d.schema) on.2 ∙ sym has;
        sound = w.sound;
        others = λ t listed differ. ap (λ (f : Trees). f t.tree) trees ∙ replaces_keeps old.now.trees row it.0 on.0.trees it.2 t (subst (λ (s : Schema). Has s.tables t) has listed) differ;
      } in
      (it.0, only, it.1, subst (Replaces old.now.trees row it.0) (sym trees) it.2)
