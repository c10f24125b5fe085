-- What an INSERT does, by its command.
use Rattle.std.proofs.Common.{◌≡◌, ℕ, ◌/◌, List, [], ◌∷◌, length, slice_get, false, Some, None, Ok, refl, sym, ap, ap₂, subst, subst₂, ◌∙◌, ◌++◌, map, drop}
use Rattle.sqlite.specs.Order.{Row}
use Rattle.sqlite.specs.Term.{Term}
use Rattle.sqlite.specs.Table.{Table}
use Rattle.sqlite.specs.Schema.{Schema}
use Rattle.sqlite.specs.Source.TheVariants.{Values}
use Rattle.sqlite.specs.Command.TheVariants.{Insert}
use Rattle.sqlite.specs.Edit.{Edit, edit_of, Applies, with_rowid}
use Rattle.sqlite_rules.specs.Edit.{taken_by, numbered}
use Rattle.sqlite.specs.Rowids.TheVariants.{Chosen}
use Rattle.sqlite_schema.specs.declared.schema.Keys.TheVariants.{Enforced}
use Rattle.sqlite_rules.specs.Action.{works}
use Rattle.sqlite.specs.Does.{Tally, Does, OnRows}
use Rattle.sqlite.specs.Rows.{Task, Written, rowids_for, count_of, Inserts}
use Rattle.sqlite.specs.Tree.{Trees, put_row}
use Rattle.sqlite.specs.Effect.{Database, value_rows}
use Rattle.sqlite.specs.Listing.{understood}
use Rattle.sqlite.specs.State.{State, mode_of, ExecutesInside}
use Rattle.sqlite.proofs.Callers.{IsPlain, command_of, statement_of, runs_as, one_step}
use Rattle.std.specs.List.Sorted.{IsPermutation}
use Rattle.std.proofs.lemmas.List.Sorted.{IsPermutation-map}
use Rattle.sqlite.specs.Cast.{cast_row}
use Rattle.adm_schema.specs.Rows.{columns_of, rows_of}
use Rattle.adm_schema.specs.Effects.{WritesOnly, AddsRow, AddsRows}
use Rattle.std.proofs.lemmas.List.{map-append}
use Rattle.adm_schema.proofs.Lists.{put_fresh}
use Rattle.adm_schema.proofs.Statements.{went, same_value, unless_counted, unstamped_row, uncounted_rowids, task_in, at_table, ends, leaves_others}

module _ {X : Type 0} (table : Table) (source_of row_of : X → Row) (shows : (x : X) (rows : List Row) → columns_of table (with_rowid Chosen rows (cast_row table (source_of x))) ≡ row_of x) where
  -- the columns of rows that are given to a table
  pub shown_all : (xs : List X) (rows : List Row) → map (columns_of table) (numbered Chosen rows (map (λ s. cast_row table (drop 0 s)) (map source_of xs))) ≡ map row_of xs
  shown_all [] rows = refl
  shown_all (x ∷ xs) rows = ap₂ (λ r rs. r ∷ rs) (shows x rows) (shown_all xs (put_row (with_rowid Chosen rows (cast_row table (source_of x))) rows))

module _ (schema : Schema) (table : Table) (at : ℕ) (found : slice_get schema.tables at ≡ Some table) (uncounted : table.is_counted ≡ false) (unstamped : table.stamps.terms ≡ [])
    (alone : (olds news : List Row) → works schema Enforced 0 table.tree olds news ≡ []) where
  abbrev task : State → Row → Task
  task = task_in schema table at found uncounted unstamped alone

  -- the rows that an INSERT of VALUES leaves, and the schema
  inserts_on : (old new : State) (params : Row) (tally : Tally) (terms : List Term) (width : ℕ) (text : List ℕ) → old.now.schema ≡ schema
      → Does old.step_limit (mode_of old) params old.now text None (Insert at (Values terms width)) (Ok (tally, new.now))
      → (w : Written) × Inserts (task old params) (Values terms width) old.now.trees (Ok w) × (new.now ≡ record { schema = schema; trees = w.trees })
  inserts_on old new params tally terms width text has h =
      let command = Insert at (Values terms width) in
      let done = went (at_table schema table at found uncounted unstamped alone (λ t. OnRows (record (task old params) { table = t }) (mode_of old) None command old.now.trees) _
      (subst (λ s. Does old.step_limit (mode_of old) params (record old.now { schema = s }) text None command (Ok (tally, new.now))) has h)) in
      (done.0, done.1, ends schema table at found uncounted unstamped alone (task old params) (mode_of old) done.0 tally new.now done.2)

  inserts_all : (old : State) (params : Row) (sources : List Row) (terms : List Term) (width : ℕ) (db : Trees) (w : Written) → value_rows params width (length terms / width) terms ≡ sources
      → Inserts (task old params) (Values terms width) db (Ok w) → Applies schema Enforced db (edit_of db table [] Chosen 0 sources) w.trees
  inserts_all old params sources terms width db w all h =
      let given = went h in
      let counted = went given.2 in
      let written = went counted.2 in
      let last = went written.2 in
      let rows : given.0 ≡ sources = given.1.1 ∙ ap (λ p. value_rows p width (length terms / width) terms) (unstamped_row table unstamped params) ∙ all in
      let same : last.0 ≡ written.0 = same_value (unless_counted _ _ _ _ uncounted last.1) in
      let trees : w.trees ≡ written.0 = ap (λ (it : Written). it.trees) (same_value last.2) ∙ same in
      let first : Edit = edit_of db table [] (rowids_for table (count_of counted.0)) 0 given.0 in
      let applied = one_step schema Enforced db written.0 first (alone (taken_by db first) first.news) written.1 in
      let edit = ap₂ (λ by all. edit_of db table [] by 0 all) (uncounted_rowids table uncounted (count_of counted.0)) rows in
      subst₂ (Applies schema Enforced db) edit (sym trees) applied

  -- an INSERT of rows, inside a transaction
  pub inserted_all : (terms : List Term) (width : ℕ) (sql : List ℕ) (params : Row) (sources : List Row) (old new : State) (count : ℕ)
      → command_of (understood schema sql) ≡ Insert at (Values terms width) → IsPlain (understood schema sql)
      → value_rows params width (length terms / width) terms ≡ sources → old.now.schema ≡ schema → ExecutesInside 0 sql params old new (Ok count)
      → WritesOnly table old new × Applies schema Enforced old.now.trees (edit_of old.now.trees table [] Chosen 0 sources) new.now.trees
  inserted_all terms width sql params sources old new count is plain all has h =
      let w = runs_as sql params old new schema has (Insert at (Values terms width)) is plain count h.0 in
      let on = inserts_on old new params w.tally terms width (statement_of sql (understood schema sql)) has w.changed in
      let applied = inserts_all old params sources terms width old.now.trees on.0 all on.1 in
      let edit : Edit = edit_of old.now.trees table [] Chosen 0 sources in (
        leaves_others schema table at found uncounted unstamped alone old new edit on.0.trees refl has on.2 applied h.1 w.sound,
        subst (Applies schema Enforced old.now.trees edit) (sym (ap (λ (d : Database). d.trees) on.2)) applied,
      )

  -- they are so many more rows, each with a rowid of its own
  pub adds_all : {X : Type 0} (source_of row_of : X → Row) (xs : List X) (old new : State)
      → ((x : X) (rows : List Row) → columns_of table (with_rowid Chosen rows (cast_row table (source_of x))) ≡ row_of x)
      → WritesOnly table old new × Applies schema Enforced old.now.trees (edit_of old.now.trees table [] Chosen 0 (map source_of xs)) new.now.trees → AddsRows table (map row_of xs) old new
  adds_all source_of row_of xs old new shows h =
      let rows = old.now.trees table.tree in
      let news = numbered Chosen rows (map (λ s. cast_row table (drop 0 s)) (map source_of xs)) in
      let more : IsPermutation (news ++ rows) (new.now.trees table.tree) = subst (IsPermutation (news ++ rows)) (sym h.1.rows) (put_fresh rows news h.1.fresh) in
      let shown : map (columns_of table) (news ++ rows) ≡ map row_of xs ++ rows_of table old.now.trees =
      map-append (columns_of table) news rows ∙ ap (λ rs. rs ++ rows_of table old.now.trees) (shown_all table source_of row_of shows xs rows) in
      record {
        only = h.0;
        adds = subst (λ rs. IsPermutation rs (rows_of table new.now.trees)) shown (IsPermutation-map (columns_of table) _ _ more);
      }

  -- an INSERT of one row, inside a transaction
  pub inserted : (terms : List Term) (width : ℕ) (sql : List ℕ) (params source : Row) (old new : State) (count : ℕ)
      → command_of (understood schema sql) ≡ Insert at (Values terms width) → IsPlain (understood schema sql)
      → value_rows params width (length terms / width) terms ≡ source ∷ [] → old.now.schema ≡ schema → ExecutesInside 0 sql params old new (Ok count)
      → WritesOnly table old new × Applies schema Enforced old.now.trees (edit_of old.now.trees table [] Chosen 0 (source ∷ [])) new.now.trees
  inserted terms width sql params source = inserted_all terms width sql params (source ∷ [])

  -- its columns are one more row of the table, as SELECT * shows it
  pub adds : (old new : State) (source row : Row) → ((rows : List Row) → columns_of table (with_rowid Chosen rows (cast_row table source)) ≡ row)
      → WritesOnly table old new × Applies schema Enforced old.now.trees (edit_of old.now.trees table [] Chosen 0 (source ∷ [])) new.now.trees → AddsRow table row old new
  adds old new source row shows h =
      let it = adds_all (λ (x : Unit {0}). source) (λ x. row) (tt ∷ []) old new (λ x. shows) h in
      record { only = it.only; adds = it.adds }
