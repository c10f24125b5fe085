-- What a DELETE does, by its command.
use Rattle.std.proofs.Common.{◌≡◌, ℕ, List, [], length, slice_get, false, Some, None, Ok, refl, sym, ap, subst, ◌∙◌}
use Rattle.std.specs.Prelude.{unwrap_or}
use Rattle.std.proofs.lemmas.List.{length-map}
use Rattle.sqlite.specs.Order.{Row}
use Rattle.sqlite.specs.Table.{Table}
use Rattle.sqlite.specs.Schema.{Schema}
use Rattle.sqlite.specs.Command.TheVariants.{Delete}
use Rattle.sqlite.specs.Edit.{Edit, edit_of, Applies, id_in}
use Rattle.sqlite_rules.specs.Edit.{taken_by, row_at}
use Rattle.sqlite.specs.Rowids.TheVariants.{Given}
use Rattle.sqlite_schema.specs.declared.schema.Keys.TheVariants.{Enforced}
use Rattle.sqlite_rules.specs.Action.{works}
use Rattle.sqlite.specs.Does.{Tally, Does, OnRows}
use Rattle.sqlite.specs.Rows.{Task, Written, Deletes}
use Rattle.sqlite_schema.specs.declared.program.Program.{Program}
use Rattle.sqlite_rules.specs.Calls.{ids_of}
use Rattle.sqlite.specs.Tree.{Trees, rowid}
use Rattle.sqlite.specs.Effect.{Database, Answers}
use Rattle.sqlite.specs.Listing.{understood}
use Rattle.sqlite.specs.State.{State, mode_of, ExecutesInside}
use Rattle.sqlite.proofs.Callers.{IsPlain, command_of, statement_of, runs_as, one_step}
use Rattle.adm_schema.specs.Effects.{WritesOnly}
use Rattle.adm_schema.proofs.Statements.{went, same_value, task_in, at_table, ends, counts, leaves_others}

-- as many rowids as rows that name them
ids_length : (rows : List Row) → length (ids_of rows) ≡ length rows
ids_length rows = length-map rows (λ (r : Row). id_in (rowid r))

module _ (schema : Schema) (table : Table) (at : ℕ) (found : slice_get schema.tables at ≡ Some table) (uncounted : table.is_counted ≡ false) (unstamped : table.stamps.terms ≡ [])
    (alone : (olds news : List Row) → works schema Enforced 0 table.tree olds news ≡ []) where
  abbrev task : State → Row → Task
  task = task_in schema table at found uncounted unstamped alone

  pub deletes_on : (old new : State) (params : Row) (tally : Tally) (q : Program) (text : List ℕ) → old.now.schema ≡ schema
      → Does old.step_limit (mode_of old) params old.now text None (Delete at q) (Ok (tally, new.now))
      → (w : Written) × Deletes (task old params) q old.now.trees (Ok w) × (new.now ≡ record { schema = schema; trees = w.trees }) × (tally.rows ≡ Some (length w.rows))
  deletes_on old new params tally q text has h =
      let done = went (at_table schema table at found uncounted unstamped alone (λ t. OnRows (record (task old params) { table = t }) (mode_of old) None (Delete at q) old.now.trees) _
      (subst (λ s. Does old.step_limit (mode_of old) params (record old.now { schema = s }) text None (Delete at q) (Ok (tally, new.now))) has h)) in
      (done.0, done.1, ends schema table at found uncounted unstamped alone (task old params) (mode_of old) done.0 tally new.now done.2, counts schema table at found uncounted unstamped alone (task old params) (mode_of old) done.0 tally new.now done.2)

  pub deletes_some : (old : State) (params : Row) (q : Program) (db : Trees) (w : Written) → Deletes (task old params) q db (Ok w)
      → (rows : List Row) × Answers (record { schema = schema; trees = db }) q params rows
      × Applies schema Enforced db (edit_of db table (ids_of rows) Given 0 []) w.trees × (length w.rows ≡ length rows)
  deletes_some old params q db w h =
      let asked = went h in
      let edited = went asked.2 in
      let edit : Edit = edit_of db table (ids_of asked.0) Given 0 [] in
      let applied = one_step schema Enforced db edited.0 edit (alone (taken_by db edit) edit.news) edited.1 in
      let trees : w.trees ≡ edited.0 = ap (λ (it : Written). it.trees) (same_value edited.2) in
      let long : length w.rows ≡ length (taken_by db edit) = ap (λ (it : Written). length it.rows) (same_value edited.2) in
      (asked.0, asked.1, subst (Applies schema Enforced db edit) (sym trees) applied, long ∙ length-map edit.gone (row_at (db table.tree)) ∙ ids_length asked.0)

  -- a DELETE of the rows that a query names by their rowids
  pub deleted : (q : Program) (sql : List ℕ) (params : Row) (old new : State) (count : ℕ) → command_of (understood schema sql) ≡ Delete at q
      → IsPlain (understood schema sql) → old.now.schema ≡ schema → ExecutesInside 0 sql params old new (Ok count)
      → (rows : List Row) × WritesOnly table old new × Answers (record { schema = schema; trees = old.now.trees }) q params rows
      × Applies schema Enforced old.now.trees (edit_of old.now.trees table (ids_of rows) Given 0 []) new.now.trees × (count ≡ length rows)
  deleted q sql params old new count is plain has h =
      let w = runs_as sql params old new schema has (Delete at q) is plain count h.0 in
      let on = deletes_on old new params w.tally q (statement_of sql (understood schema sql)) has w.changed in
      let some = deletes_some old params q old.now.trees on.0 on.1 in
      let edit : Edit = edit_of old.now.trees table (ids_of some.0) Given 0 [] in (
        some.0,
        leaves_others schema table at found uncounted unstamped alone old new edit on.0.trees refl has on.2 some.2 h.1 w.sound,
        some.1,
        subst (Applies schema Enforced old.now.trees edit) (sym (ap (λ (d : Database). d.trees) on.2)) some.2,
        w.counted ∙ ap (λ o. unwrap_or o 0) on.3 ∙ some.3,
      )
