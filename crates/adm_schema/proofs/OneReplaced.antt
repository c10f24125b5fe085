-- One row that is found by a test and written anew by its rowid, in a table whose key is no integer.
use Rattle.std.proofs.Common.{◌≡◌, ℕ, ℤ, ◌^◌, List, [], ◌∷◌, map, drop, filter, slice_get, true, false, not, nat_le, Some, Ok, refl, sym, ap, subst, subst₂, ◌∙◌}
use Rattle.std.specs.Prelude.{◌&&◌}
use Rattle.std.specs.List.Sorted.{IsPermutation}
use Rattle.std.proofs.lemmas.List.Sorted.{IsPermutation-map}
use Rattle.sqlite.specs.declared.types.Value.TheVariants.{Int, Text}
use Rattle.sqlite.specs.Collation.TheVariants.{Binary}
use Rattle.sqlite.specs.Order.{Row, column}
use Rattle.sqlite.specs.Term.{Term, eval_all}
use Rattle.sqlite.specs.Table.{Table}
use Rattle.sqlite.specs.Schema.{Schema}
use Rattle.sqlite.specs.Command.TheVariants.{Update}
use Rattle.sqlite.specs.Tree.{rowid}
use Rattle.sqlite.specs.Edit.{id_in, without_all}
use Rattle.sqlite_rules.specs.Edit.{numbered, put_all, are_fresh}
use Rattle.sqlite.specs.Rowids.TheVariants.{Given}
use Rattle.sqlite.specs.Cast.{cast_row}
use Rattle.sqlite.specs.Effect.{Database}
use Rattle.sqlite.specs.Listing.{understood}
use Rattle.sqlite.specs.State.{State, Shown, ExecutesInside}
use Rattle.sqlite.proofs.Callers.{IsPlain, command_of}
use Rattle.sqlite_keyed.proofs.ListLemmas.{filter-map, filter_same}
use Rattle.sqlite_schema.specs.Rules.{equal}
use Rattle.sqlite_schema.specs.declared.schema.Keys.TheVariants.{Enforced}
use Rattle.sqlite_rules.specs.Action.{works}
use Rattle.sqlite_rules.specs.Calls.{ids_of}
use Rattle.adm_schema.specs.Queries.{query_of, program_of}
use Rattle.adm_schema.specs.RowTexts.{has_code, find_school, update_school, school_turned, has_seventh}
use Rattle.adm_schema.specs.Effects.{ReplacesRow, begins_with, drop_of}
use Rattle.adm_schema.specs.Rows.{columns_of, rows_of}
use Rattle.adm_schema.specs.Schema.{school, register_schema}
use Rattle.adm_schema.proofs.Casts.{cast_int}
use Rattle.adm_schema.proofs.OneRow.{answers_some}
use Rattle.adm_schema.proofs.OneFound.{passing, picks_found, finds_one, school_test}
use Rattle.adm_schema.proofs.Lists.{put_fresh, own_rowids}
use Rattle.adm_schema.proofs.RowTexts.{finds_school, updates_school}
use Rattle.adm_schema.proofs.Updates.{updated}

module _ (schema : Schema) (table : Table) (at : ℕ) (found : slice_get schema.tables at ≡ Some table) (uncounted : table.is_counted ≡ false) (unstamped : table.stamps.terms ≡ [])
    (alone : (olds news : List Row) → works schema Enforced 0 table.tree olds news ≡ []) (low : nat_le (2 ^ 31) table.tree ≡ false) where
  -- an UPDATE of all columns by that rowid writes one row: it is in place of those that begin as the tests say
  pub replaces_found : (tests : List Term) (params key : Row) (by project : List Term) (given : Row) (sql : List ℕ) (k : ℤ) (x row : Row) (old new : State)
      → ((r : Row) → passing tests params r ≡ begins_with key (columns_of table r)) → ((r : Row) → passing by given r ≡ (equal Binary (rowid r) (Int k) && true))
      → rowid (eval_all project (given ∷ x ∷ [])) ≡ rowid x → columns_of table (cast_row table (drop 1 (eval_all project (given ∷ x ∷ [])))) ≡ row
      → filter (passing tests params) (old.now.trees table.tree) ≡ x ∷ [] → rowid x ≡ Int k
      → command_of (understood schema sql) ≡ Update at (program_of (query_of table.tree by project [])) → IsPlain (understood schema sql)
      → old.now.schema ≡ schema → ExecutesInside 0 sql given old new (Ok 1) → ReplacesRow table key row old new
  replaces_found tests params key by project given sql k x row old new test picks own shows one number is plain has h =
      let rows = old.now.trees table.tree in
      let it = updated schema table at found uncounted unstamped alone (program_of (query_of table.tree by project [])) sql given old new 1 is plain has h in
      let asked = answers_some table.tree by project (record { schema = schema; trees = old.now.trees }) given it.0 low it.2 in
      let picked = picks_found schema table at found uncounted unstamped alone low tests params by project given k x rows it.0 one number picks asked it.4 in
      let ids : ids_of it.0 ≡ k ∷ [] = ap ids_of picked.0 ∙ ap (λ v. id_in v ∷ []) (own ∙ number) in
      let rest = filter (λ r. not (passing tests params r)) rows in
      let left : without_all rows (ids_of it.0) ≡ rest = ap (without_all rows) ids ∙ picked.1 in
      let source = λ (s : Row). cast_row table (drop 1 s) in
      let put = source (eval_all project (given ∷ x ∷ [])) in
      let news : numbered Given (without_all rows (ids_of it.0)) (map source it.0) ≡ put ∷ [] = own_rowids (without_all rows (ids_of it.0)) (map source it.0) ∙ ap (map source) picked.0 in
      let fresh : are_fresh rest (put ∷ []) ≡ true = subst₂ (λ gone more. are_fresh gone more ≡ true) left news it.3.fresh in
      let all : IsPermutation (put ∷ rest) (new.now.trees table.tree) =
      subst (IsPermutation (put ∷ rest)) (sym (it.3.rows ∙ (λ i. put_all (left i) (news i)))) (put_fresh rest (put ∷ []) fresh) in
      let dropped : map (columns_of table) rest ≡ drop_of key (rows_of table old.now.trees) =
      sym (filter-map (λ r. not (begins_with key r)) (columns_of table) rows ∙ ap (map (columns_of table)) (filter_same _ _ (λ r. ap not (sym (test r))) rows)) in
      record {
        only = it.1;
        rows = subst₂ (λ r rs. IsPermutation (r ∷ rs) (rows_of table new.now.trees)) shows dropped (IsPermutation-map (columns_of table) _ _ all);
      }

-- the row of a school is found and written anew
pub replaces_school : (code name : List ℕ) (pan east north : ℤ) (criteria : List ℕ) (k : ℤ) (shown : Row) (old mid new : State) → old.now.schema ≡ register_schema → mid.now ≡ old.now
    → column shown 0 ≡ Int k → Shown find_school (Text code ∷ []) old mid (shown ∷ [])
    → ExecutesInside 0 update_school (Text code ∷ Text name ∷ Int pan ∷ Int east ∷ Int north ∷ Text criteria ∷ Int k ∷ []) mid new (Ok 1)
    → ReplacesRow school (Text code ∷ []) (Text code ∷ Text name ∷ Int pan ∷ Int east ∷ Int north ∷ Text criteria ∷ []) mid new
replaces_school code name pan east north criteria k shown old mid new has same number found h =
    let it = finds_one register_schema school 1 refl refl refl (λ _ _. refl) refl has_code find_school finds_school.0
    (Text code ∷ []) shown k old mid finds_school.1 finds_school.2 finds_school.3 has number found in
    replaces_found register_schema school 1 refl refl refl (λ _ _. refl) refl has_code (Text code ∷ []) (Text code ∷ []) has_seventh school_turned
    (Text code ∷ Text name ∷ Int pan ∷ Int east ∷ Int north ∷ Text criteria ∷ Int k ∷ []) update_school k it.0
    (Text code ∷ Text name ∷ Int pan ∷ Int east ∷ Int north ∷ Text criteria ∷ []) mid new (school_test code) (λ _. refl) refl (rw (cast_int pan, cast_int east, cast_int north))
    (ap (λ (d : Database). filter (passing has_code (Text code ∷ [])) (d.trees school.tree)) same ∙ it.1) it.2 updates_school.0 updates_school.1 (ap (λ (d : Database). d.schema) same ∙ has) h
