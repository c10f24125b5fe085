-- What an UPDATE does, by its command, and how many rows it writes.
use Rattle.std.proofs.Common.{◌≡◌, ℕ, ◌^◌, List, [], ◌∷◌, ◌++◌, map, drop, slice_get, true, false, nat_le, Some, None, Ok, refl, sym, ap, subst, subst₂, ◌∙◌, append-nil, length}
use Rattle.std.specs.List.Sorted.{IsPermutation}
use Rattle.std.proofs.lemmas.List.Sorted.{IsPermutation-trans, IsPermutation-map}
use Rattle.std.proofs.lemmas.Simd.{map-map}
use Rattle.sqlite.specs.Order.{Row}
use Rattle.sqlite.specs.Term.{Term, eval_all}
use Rattle.sqlite.specs.Table.{Table}
use Rattle.sqlite.specs.Schema.{Schema}
use Rattle.sqlite.specs.Command.TheVariants.{Update}
use Rattle.sqlite.specs.Cast.{cast_row}
use Rattle.sqlite.specs.Edit.{Edit, edit_of, Applies, id_in, have_rowids, without_all}
use Rattle.sqlite_rules.specs.Edit.{taken_by, numbered, put_all, are_fresh}
use Rattle.sqlite.specs.Rowids.TheVariants.{Given}
use Rattle.sqlite_schema.specs.declared.schema.Keys.TheVariants.{Enforced}
use Rattle.sqlite_rules.specs.Action.{works}
use Rattle.sqlite_rules.specs.Calls.{ids_of}
use Rattle.sqlite.specs.Does.{Tally, Does, OnRows}
use Rattle.sqlite.specs.Rows.{Task, Written, Updates}
use Rattle.sqlite_schema.specs.declared.program.Program.{Program}
use Rattle.sqlite.specs.Tree.{Trees, rowid}
use Rattle.sqlite.specs.Effect.{Database, Answers}
use Rattle.sqlite.specs.Listing.{understood}
use Rattle.sqlite.specs.State.{State, mode_of, ExecutesInside}
use Rattle.sqlite.proofs.Callers.{IsPlain, command_of, statement_of, runs_as, one_step}
use Rattle.adm_schema.specs.Queries.{query_of, program_of}
use Rattle.adm_schema.specs.Effects.{WritesOnly}
use Rattle.adm_schema.proofs.Lists.{put_fresh, own_rowids, all_go, ids_have}
use Rattle.adm_schema.proofs.Queries.{answers_all}
use Rattle.adm_schema.proofs.Statements.{went, same_value, task_in, at_table, ends, leaves_others, counts}
use Rattle.std.specs.Prelude.{unwrap_or}
use Rattle.std.proofs.lemmas.List.{length-map}

-- as many rows are written as are answered
turned_length : (table : Table) (rows answered : List Row) → length (numbered Given rows (map (λ (s : Row). cast_row table (drop 1 s)) answered)) ≡ length answered
turned_length table rows answered = ap length (own_rowids rows (map (λ (s : Row). cast_row table (drop 1 s)) answered)) ∙ length-map answered (λ (s : Row). cast_row table (drop 1 s))

module _ (schema : Schema) (table : Table) (at : ℕ) (found : slice_get schema.tables at ≡ Some table) (uncounted : table.is_counted ≡ false) (unstamped : table.stamps.terms ≡ [])
    (alone : (olds news : List Row) → works schema Enforced 0 table.tree olds news ≡ []) where
  abbrev task : State → Row → Task
  task = task_in schema table at found uncounted unstamped alone

  updates_on : (old new : State) (params : Row) (tally : Tally) (q : Program) (text : List ℕ) → old.now.schema ≡ schema
      → Does old.step_limit (mode_of old) params old.now text None (Update at q) (Ok (tally, new.now))
      → (w : Written) × Updates (task old params) q params old.now.trees (Ok w) × (new.now ≡ record { schema = schema; trees = w.trees }) × (tally.rows ≡ Some (length w.rows))
  updates_on old new params tally q text has h =
      let done = went (at_table schema table at found uncounted unstamped alone (λ t. OnRows (record (task old params) { table = t }) (mode_of old) None (Update at q) old.now.trees) _
      (subst (λ s. Does old.step_limit (mode_of old) params (record old.now { schema = s }) text None (Update at q) (Ok (tally, new.now))) has h)) in (
        done.0,
        done.1,
        ends schema table at found uncounted unstamped alone (task old params) (mode_of old) done.0 tally new.now done.2,
        counts schema table at found uncounted unstamped alone (task old params) (mode_of old) done.0 tally new.now done.2,
      )

  updates_some : (old : State) (params : Row) (q : Program) (db : Trees) (w : Written) → Updates (task old params) q params db (Ok w)
      → (rows : List Row) × Answers (record { schema = schema; trees = db }) q params rows × Applies schema Enforced db (edit_of db table (ids_of rows) Given 1 rows) w.trees
      × (length w.rows ≡ length rows)
  updates_some old params q db w h =
      let asked = went h in
      let edited = went asked.2 in
      let edit : Edit = edit_of db table (ids_of asked.0) Given 1 asked.0 in
      let applied = one_step schema Enforced db edited.0 edit (alone (taken_by db edit) edit.news) edited.1 in
      let trees : w.trees ≡ edited.0 = ap (λ (it : Written). it.trees) (same_value edited.2) in
      let long : length w.rows ≡ length edit.news = ap (λ (it : Written). length it.rows) (same_value edited.2) in
      (asked.0, asked.1, subst (Applies schema Enforced db edit) (sym trees) applied, long ∙ turned_length table (without_all (db table.tree) (ids_of asked.0)) asked.0)

  -- an UPDATE of the rows that a query answers, each as its old rowid and the new row
  pub updated : (q : Program) (sql : List ℕ) (params : Row) (old new : State) (count : ℕ) → command_of (understood schema sql) ≡ Update at q
      → IsPlain (understood schema sql) → old.now.schema ≡ schema → ExecutesInside 0 sql params old new (Ok count)
      → (rows : List Row) × WritesOnly table old new × Answers (record { schema = schema; trees = old.now.trees }) q params rows
      × Applies schema Enforced old.now.trees (edit_of old.now.trees table (ids_of rows) Given 1 rows) new.now.trees × (count ≡ length rows)
  updated q sql params old new count is plain has h =
      let w = runs_as sql params old new schema has (Update at q) is plain count h.0 in
      let on = updates_on old new params w.tally q (statement_of sql (understood schema sql)) has w.changed in
      let some = updates_some old params q old.now.trees on.0 on.1 in
      let edit : Edit = edit_of old.now.trees table (ids_of some.0) Given 1 some.0 in
      let only = leaves_others schema table at found uncounted unstamped alone old new edit on.0.trees refl has on.2 some.2 h.1 w.sound in (
        some.0,
        only,
        some.1,
        subst (Applies schema Enforced old.now.trees edit) (sym (ap (λ (d : Database). d.trees) on.2)) some.2,
        w.counted ∙ ap (λ o. unwrap_or o 0) on.3 ∙ some.3,
      )

  -- each row comes in its new form, in place of the old one
  pub updated_all : (project : List Term) (sql : List ℕ) (params : Row) (old new : State) (count : ℕ)
      → command_of (understood schema sql) ≡ Update at (program_of (query_of table.tree [] project [])) → IsPlain (understood schema sql)
      → nat_le (2 ^ 31) table.tree ≡ false → ((r : Row) → rowid (eval_all project (params ∷ r ∷ [])) ≡ rowid r) → old.now.schema ≡ schema → ExecutesInside 0 sql params old new (Ok count)
      → WritesOnly table old new
      × (have_rowids (old.now.trees table.tree) ≡ true → IsPermutation (map (λ r. cast_row table (drop 1 (eval_all project (params ∷ r ∷ [])))) (old.now.trees table.tree)) (new.now.trees table.tree))
  updated_all project sql params old new count is plain low own has h =
      let some = updated (program_of (query_of table.tree [] project [])) sql params old new count is plain has h in
      let rows = old.now.trees table.tree in
      let turned = λ (r : Row). eval_all project (params ∷ r ∷ []) in
      let asked : IsPermutation (map turned rows) some.0 = answers_all table.tree project [] (record { schema = schema; trees = old.now.trees }) params some.0 low some.2 in
      let news = map (λ (s : Row). cast_row table (drop 1 s)) some.0 in (
        some.1,
        λ keyed.
            let ids : IsPermutation (map (λ (r : Row). id_in (rowid r)) rows) (ids_of some.0) =
            subst (λ xs. IsPermutation xs (ids_of some.0)) (map-map (λ (r : Row). id_in (rowid r)) turned rows
            ∙ (λ i. map (λ r. id_in (own r i)) rows)) (IsPermutation-map (λ (r : Row). id_in (rowid r)) _ some.0 asked) in
            let left : without_all rows (ids_of some.0) ≡ [] = all_go (ids_of some.0) rows keyed (ids_have rows (ids_of some.0) ids) in
            let given : numbered Given (without_all rows (ids_of some.0)) news ≡ news = own_rowids (without_all rows (ids_of some.0)) news in
            let fresh : are_fresh [] news ≡ true = subst₂ (λ gone new. are_fresh gone new ≡ true) left given some.3.fresh in
            let put : IsPermutation (news ++ []) (new.now.trees table.tree) =
            subst (IsPermutation (news ++ [])) (sym (some.3.rows ∙ (λ i. put_all (left i) (given i)))) (put_fresh [] news fresh) in
            let all : IsPermutation (map (λ r. cast_row table (drop 1 (turned r))) rows) news =
            subst (λ xs. IsPermutation xs news) (map-map (λ (s : Row). cast_row table (drop 1 s)) turned rows) (IsPermutation-map (λ (s : Row). cast_row table (drop 1 s)) _ some.0 asked) in
            IsPermutation-trans _ _ _ all (subst (λ xs. IsPermutation xs (new.now.trees table.tree)) (append-nil news) put),
      )
