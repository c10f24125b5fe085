-- What the statements do on the tables whose rows are written by their keys.
use Rattle.std.proofs.Common.{◌≡◌, ℕ, suc, length, map, slice_get, pos, Bool, true, false, List, ◌∷◌, [], Ok, refl, sym, ap, subst, ◌∙◌, ◌≤◌, ◌/◌, arith}
use Rattle.std.specs.Prelude.{Option, Some, None, is_some, if◌then◌else◌}
use Rattle.std.specs.List.{flat_map}
use Rattle.sqlite.specs.declared.types.Value.TheVariants.{Null, Int, Text}
use Rattle.sqlite.specs.Cast.{cast_row}
use Rattle.sqlite.specs.Order.{Row, column}
use Rattle.sqlite.specs.Table.{Table}
use Rattle.sqlite.specs.Term.{Term}
use Rattle.sqlite.specs.Tree.{rowid}
use Rattle.sqlite.specs.Command.TheVariants.{Insert}
use Rattle.sqlite.specs.Source.TheVariants.{Values}
use Rattle.sqlite.specs.Listing.{understood}
use Rattle.sqlite.proofs.Callers.{IsPlain, command_of}
use Rattle.sqlite_schema.specs.declared.schema.Column.{Column}
use Rattle.sqlite_schema.specs.declared.schema.Keys.TheVariants.{Enforced}
use Rattle.sqlite_rules.specs.Action.{works}
use Rattle.sqlite_rules.specs.Lists.{Has}
use Rattle.sqlite.specs.Rows.{mended}
use Rattle.sqlite.specs.Edit.{next_rowid, with_rowid}
use Rattle.sqlite.specs.Rowids.TheVariants.{Chosen}
use Rattle.sqlite.specs.Values.{bound_value, or_null}
use Rattle.sqlite.specs.Effect.{value_rows}
use Rattle.sqlite.specs.Ops.{is_null}
use Rattle.sqlite_schema.specs.declared.command.Conflict.TheVariants.{Replace}
use Rattle.adm_schema.specs.Columns.{child_columns, application_columns, imported_columns, given_terms, one_row, eight_rows}
use Rattle.adm_schema.specs.Rows.{columns_of}
use Rattle.sqlite.specs.State.{State, HasCleanDisk, ExecutesInside}
use Rattle.adm_types.specs.declared.rows.PlaceRow.{PlaceRow}
use Rattle.adm_types.specs.declared.rows.LeftPair.{LeftPair}
use Rattle.adm_types.specs.declared.rows.PlaceState.{PlaceState}
use Rattle.adm_types.specs.declared.rows.PlaceState.TheVariants.{Offered, Accepted, Plan}
use Rattle.sqlite_trees.specs.View.{doubt}
use Rattle.adm_schema.specs.Schema.{child, application, place, left_list, imported, register_schema}
use Rattle.adm_schema.specs.RowTexts as text
use Rattle.adm_schema.specs.Texts.{insert_left_list, left_list_terms, insert_imported, insert_imported_rows}
use Rattle.adm_schema.proofs.Listed.{has_child, has_application, has_place, has_left_list, has_imported}
use Rattle.adm_schema.proofs.Casts.{cast_null, cast_int}
use Rattle.adm_schema.proofs.OneRow.{puts_row, cuts_row}
use Rattle.adm_schema.proofs.Inserts.{inserted, adds, inserted_all, adds_all}
use Rattle.adm_schema.proofs.Fresh.{puts_all}
use Rattle.adm_schema.proofs.Eights.{eight_of, given_places}
use Rattle.adm_schema.proofs.Texts.{inserts_left_list, inserts_imported, inserts_imported_rows}
use Rattle.adm_schema.proofs.RowTexts.{puts_child, inserts_child, inserts_children, puts_application, inserts_application, inserts_applications, puts_place, inserts_places, cuts_application, cuts_place}
use Rattle.adm_store.specs.declared.rows.ChildRow.{ChildRow}
use Rattle.adm_store.specs.declared.rows.ApplicationRow.{ApplicationRow}
use Rattle.adm_store.specs.declared.rows.ImportedRow.{ImportedRow}
use Rattle.adm_store.specs.Changes.{written_child, written_application, written_imported}
use Rattle.adm_rows.specs.Forms.{place_row, left_row, state_columns, truth_code}
use Rattle.adm_store.specs.Writes.{RunsText, Adds, Puts, Cuts, Writes, write_of, key_row}
use Rattle.adm_store.proofs.MapLemmas.{rows_keyed}
use Rattle.adm_store.proofs.LogLemmas.{add_one, add_keyed, add_many_keyed, put_one, put_many, cut_one}

-- a truth value as SQL has it
pub truth_is : (b : Bool) → Int (if b then pos 1 else pos 0) ≡ Int (pos (truth_code b))
truth_is true = refl
truth_is false = refl

-- a number that may be missing, as a parameter
pub bound_number : (o : Option ℕ) → bound_value (or_null (λ n. Int (pos n)) o) ≡ or_null (λ n. Int (pos n)) o
bound_number None = refl
bound_number (Some n) = refl

-- a row as it is given to the table, with the key in the rowid's place
abbrev stored : Row → Row
stored [] = []
stored (key ∷ row) = key ∷ Null ∷ row

-- the parameters of these rows, one after another, are given to a table of these columns as these rows
abbrev Gives : {X : Type 0} → List Column → (X → Row) → List X → Type 0
Gives columns row_of rows =
    let terms = given_terms columns eight_rows in
    let width = suc (length columns) in
    value_rows (flat_map row_of rows) width (length terms / width) terms ≡ map (λ x. stored (row_of x)) rows

-- rows that a plain INSERT wrote are each at its key
module _ {X : Type 0} (table : Table) (listed : Has register_schema.tables table) (at : ℕ) (found : slice_get register_schema.tables at ≡ Some table) (uncounted : table.is_counted ≡ false)
    (unstamped : table.stamps.terms ≡ []) (alone : (olds news : List Row) → works register_schema Enforced 0 table.tree olds news ≡ []) (has_key : is_some table.key ≡ true)
    (own : (r : Row) → rowid (columns_of table r) ≡ rowid r) (row_of : X → Row) (keyed : (x : X) → is_null (rowid (stored (row_of x))) ≡ false)
    (casts : (x : X) → cast_row table (stored (row_of x)) ≡ stored (row_of x)) (shows : (x : X) → columns_of table (stored (row_of x)) ≡ row_of x) where
  puts_rows : (terms : List Term) (width : ℕ) (sql : List ℕ) (params : Row) (rows : List X) → command_of (understood register_schema sql) ≡ Insert at (Values terms width)
      → IsPlain (understood register_schema sql) → value_rows params width (length terms / width) terms ≡ map (λ x. stored (row_of x)) rows → (old new : State)
      → doubt old.is_clean ≤ doubt new.is_clean → RunsText sql params old new → Writes (write_of Puts table row_of rows ∷ []) old new
  puts_rows terms width sql params rows is plain given old new later ran = put_many table listed old new later has_key (map row_of rows) (λ clean sees.
      let early : HasCleanDisk old = omega (arith, later, clean) in
      let h = (ran clean).1 in
      puts_all table own (λ x. stored (row_of x)) row_of keyed casts shows register_schema rows old new
      (inserted_all register_schema table at found uncounted unstamped alone terms width sql params (map (λ x. stored (row_of x)) rows) old new (ran clean).0 is plain given
      (sees early h.1.was_open) h))

stored_child : (it : ChildRow) → cast_row child (stored (written_child it)) ≡ stored (written_child it)
stored_child it = simp (cast_null, cast_int) refl

pub writes_child : (old new : State) (it : ChildRow) → doubt old.is_clean ≤ doubt new.is_clean → RunsText text.put_child (written_child it) old new
    → Writes (write_of Puts child written_child (it ∷ []) ∷ []) old new
writes_child old new it later ran = put_one child has_child old new later refl (written_child it) (λ clean sees.
    let early : HasCleanDisk old = omega (arith, later, clean) in
    let h = (ran clean).1 in
    puts_row register_schema child 2 refl refl refl (λ _ _. refl) (λ _. refl) (given_terms child_columns one_row) (suc (length child_columns)) text.put_child (written_child it)
    (stored (written_child it)) (written_child it) (pos it.columns.0) old new (ran clean).0 (λ _ _. refl)
    puts_child.0 puts_child.1 refl (stored_child it) (stored_child it) refl refl (sees early h.1.was_open) h)

-- children none of whom was there
child_rows : (terms : List Term) (width : ℕ) (sql : List ℕ) (params : Row) (rows : List ChildRow) → command_of (understood register_schema sql) ≡ Insert 2 (Values terms width)
    → IsPlain (understood register_schema sql) → value_rows params width (length terms / width) terms ≡ map (λ x. stored (written_child x)) rows → (old new : State)
    → doubt old.is_clean ≤ doubt new.is_clean → RunsText sql params old new → Writes (write_of Puts child written_child rows ∷ []) old new
child_rows = puts_rows child has_child 2 refl refl refl (λ _ _. refl) refl (λ _. refl) written_child (λ _. refl) stored_child (λ _. refl)

pub adds_child : (old new : State) (it : ChildRow) → doubt old.is_clean ≤ doubt new.is_clean → RunsText text.insert_child (written_child it) old new
    → Writes (write_of Puts child written_child (it ∷ []) ∷ []) old new
adds_child old new it =
    child_rows (given_terms child_columns one_row) (suc (length child_columns)) text.insert_child (written_child it) (it ∷ []) inserts_child.0 inserts_child.1 refl old new

eight_children : (rows : List ChildRow) → length rows ≡ 8 → Gives child_columns written_child rows
eight_children rows long = subst (Gives child_columns written_child) (sym (eight_of rows long).8) refl

pub adds_children : (old new : State) (rows : List ChildRow) → length rows ≡ 8 → doubt old.is_clean ≤ doubt new.is_clean → RunsText text.insert_children (flat_map written_child rows) old new
    → Writes (write_of Puts child written_child rows ∷ []) old new
adds_children old new rows long =
    child_rows (given_terms child_columns eight_rows) (suc (length child_columns)) text.insert_children (flat_map written_child rows) rows inserts_children.0 inserts_children.1 (eight_children rows long) old new

stored_application : (it : ApplicationRow) → cast_row application (stored (written_application it)) ≡ stored (written_application it)
stored_application it = simp (cast_null, cast_int) refl

pub writes_application : (old new : State) (it : ApplicationRow) → doubt old.is_clean ≤ doubt new.is_clean
    → RunsText text.put_application (written_application it) old new → Writes (write_of Puts application written_application (it ∷ []) ∷ []) old new
writes_application old new it later ran = put_one application has_application old new later refl (written_application it) (λ clean sees.
    let early : HasCleanDisk old = omega (arith, later, clean) in
    let h = (ran clean).1 in
    puts_row register_schema application 3 refl refl refl (λ _ _. refl) (λ _. refl) (given_terms application_columns one_row)
    (suc (length application_columns)) text.put_application (written_application it) (stored (written_application it)) (written_application it) (pos it.columns.0) old new (ran clean).0 (λ _ _. refl)
    puts_application.0 puts_application.1 refl (stored_application it) (stored_application it) refl refl (sees early h.1.was_open) h)

-- applications of children that had none
application_rows : (terms : List Term) (width : ℕ) (sql : List ℕ) (params : Row) (rows : List ApplicationRow) → command_of (understood register_schema sql) ≡ Insert 3 (Values terms width)
    → IsPlain (understood register_schema sql) → value_rows params width (length terms / width) terms ≡ map (λ x. stored (written_application x)) rows → (old new : State)
    → doubt old.is_clean ≤ doubt new.is_clean → RunsText sql params old new → Writes (write_of Puts application written_application rows ∷ []) old new
application_rows = puts_rows application has_application 3 refl refl refl (λ _ _. refl) refl (λ _. refl) written_application (λ _. refl) stored_application (λ _. refl)

pub adds_application : (old new : State) (it : ApplicationRow) → doubt old.is_clean ≤ doubt new.is_clean → RunsText text.insert_application (written_application it) old new
    → Writes (write_of Puts application written_application (it ∷ []) ∷ []) old new
adds_application old new it =
    application_rows (given_terms application_columns one_row) (suc (length application_columns)) text.insert_application (written_application it) (it ∷ [])
    inserts_application.0 inserts_application.1 refl old new

eight_applications : (rows : List ApplicationRow) → length rows ≡ 8 → Gives application_columns written_application rows
eight_applications rows long = subst (Gives application_columns written_application) (sym (eight_of rows long).8) refl

pub adds_applications : (old new : State) (rows : List ApplicationRow) → length rows ≡ 8 → doubt old.is_clean ≤ doubt new.is_clean
    → RunsText text.insert_applications (flat_map written_application rows) old new → Writes (write_of Puts application written_application rows ∷ []) old new
adds_applications old new rows long =
    application_rows (given_terms application_columns eight_rows) (suc (length application_columns)) text.insert_applications (flat_map written_application rows) rows
    inserts_applications.0 inserts_applications.1 (eight_applications rows long) old new

pub cuts_application_out : (old new : State) (count : ℕ) (number : ℕ) → doubt old.is_clean ≤ doubt new.is_clean
    → (HasCleanDisk new → ExecutesInside 0 text.delete_application (key_row number) old new (Ok count)) → Writes (write_of Cuts application key_row (number ∷ []) ∷ []) old new
cuts_application_out old new count number later ran = cut_one application has_application old new later refl number (λ clean sees.
    let early : HasCleanDisk old = omega (arith, later, clean) in
    let h = ran clean in
    cuts_row register_schema application 3 refl refl refl (λ _ _. refl) (λ _. refl) text.delete_application
    (pos number) old new count cuts_application.0 cuts_application.1 refl (sees early h.1.was_open) h)

mended_place : (it : PlaceRow) → mended Replace place (stored (place_row it)) ≡ stored (place_row it)
mended_place it = go it.place.state
  where
    go : (state : PlaceState) → mended Replace place (Int (pos it.child) ∷ Null ∷ Text it.place.school ∷ state_columns state) ≡ Int (pos it.child) ∷ Null ∷ Text it.place.school ∷ state_columns state
    go (Offered day None) = refl
    go (Offered day (Some reminded)) = refl
    go Accepted = refl
    go Plan = refl

stored_place : (it : PlaceRow) → cast_row place (stored (place_row it)) ≡ stored (place_row it)
stored_place it = go it.place.state
  where
    go : (state : PlaceState) → cast_row place (Int (pos it.child) ∷ Null ∷ Text it.place.school ∷ state_columns state) ≡ Int (pos it.child) ∷ Null ∷ Text it.place.school ∷ state_columns state
    go (Offered day None) = rw (cast_null, cast_int (pos it.child), cast_int (pos 1), cast_int (pos day))
    go (Offered day (Some reminded)) = rw (cast_null, cast_int (pos it.child), cast_int (pos 1), cast_int (pos day), cast_int (pos reminded))
    go Accepted = rw (cast_null, cast_int (pos it.child), cast_int (pos 2))
    go Plan = rw (cast_null, cast_int (pos it.child), cast_int (pos 3))

given_place : (it : PlaceRow) → value_rows (place_row it) 6 1 text.place_terms ≡ stored (place_row it) ∷ []
given_place it = go it.place.state
  where
    go : (state : PlaceState) → value_rows (Int (pos it.child) ∷ Text it.place.school ∷ state_columns state) 6 1 text.place_terms ≡ (Int
        (pos it.child) ∷ Null ∷ Text it.place.school ∷ state_columns state) ∷ []
    go (Offered day None) = refl
    go (Offered day (Some reminded)) = refl
    go Accepted = refl
    go Plan = refl

shown_place : (it : PlaceRow) → columns_of place (stored (place_row it)) ≡ place_row it
shown_place it = go it.place.state
  where
    go : (state : PlaceState) → columns_of place (Int (pos it.child) ∷ Null ∷ Text it.place.school ∷ state_columns state) ≡ Int (pos it.child) ∷ Text it.place.school ∷ state_columns state
    go (Offered day None) = refl
    go (Offered day (Some reminded)) = refl
    go Accepted = refl
    go Plan = refl

pub writes_place : (old new : State) (count : ℕ) (it : PlaceRow) → doubt old.is_clean ≤ doubt new.is_clean
    → (HasCleanDisk new → ExecutesInside 0 text.put_place (place_row it) old new (Ok count)) → Writes (write_of Puts place place_row (it ∷ []) ∷ []) old new
writes_place old new count it later ran = put_one place has_place old new later refl (place_row it) (λ clean sees.
    let early : HasCleanDisk old = omega (arith, later, clean) in
    let h = ran clean in
    puts_row register_schema place 4 refl refl refl (λ _ _. refl) (λ _. refl) text.place_terms 6 text.put_place (place_row it) (stored (place_row it)) (place_row it)
    (pos it.child) old new count (λ _ _. refl)
    puts_place.0 puts_place.1 (given_place it) (ap (cast_row place) (mended_place it) ∙ stored_place it) (stored_place it) refl (shown_place it) (sees early h.1.was_open) h)

-- a place as five values
abbrev place_values : PlaceRow → Row
place_values it =
    Int (pos it.child) ∷ Text it.place.school ∷ column (place_row it) 2 ∷ column (place_row it) 3 ∷ column (place_row it) 4 ∷ []

place_is : (it : PlaceRow) → place_values it ≡ place_row it
place_is it = go it.place.state
  where
    go : (state : PlaceState) → Int (pos it.child) ∷ Text it.place.school ∷ column (Int (pos it.child) ∷ Text it.place.school ∷ state_columns state) 2
        ∷ column (Int (pos it.child) ∷ Text it.place.school ∷ state_columns state) 3 ∷ column (Int (pos it.child) ∷ Text it.place.school ∷ state_columns state) 4 ∷ []
        ≡ Int (pos it.child) ∷ Text it.place.school ∷ state_columns state
    go (Offered day None) = refl
    go (Offered day (Some reminded)) = refl
    go Accepted = refl
    go Plan = refl

eight_places : (rows : List PlaceRow) → length rows ≡ 8 → Gives place.columns place_row rows
eight_places rows long = subst (λ (f : PlaceRow → Row). Gives place.columns f rows) (λ i it. place_is it i)
    (given_places (λ (it : PlaceRow). Int (pos it.child)) (λ it. Text it.place.school) (λ it. column (place_row it) 2) (λ it. column (place_row it) 3)
    (λ it. column (place_row it) 4) rows long)

-- eight places of children that had none
pub adds_places : (old new : State) (rows : List PlaceRow) → length rows ≡ 8 → doubt old.is_clean ≤ doubt new.is_clean → RunsText text.insert_places (flat_map place_row rows) old new
    → Writes (write_of Puts place place_row rows ∷ []) old new
adds_places old new rows long =
    puts_rows place has_place 4 refl refl refl (λ _ _. refl) refl (λ _. refl) place_row (λ _. refl) stored_place shown_place (given_terms place.columns eight_rows) 6 text.insert_places (flat_map place_row rows) rows
    inserts_places.0 inserts_places.1 (eight_places rows long) old new

pub cuts_place_out : (old new : State) (count : ℕ) (number : ℕ) → doubt old.is_clean ≤ doubt new.is_clean
    → (HasCleanDisk new → ExecutesInside 0 text.delete_place (key_row number) old new (Ok count)) → Writes (write_of Cuts place key_row (number ∷ []) ∷ []) old new
cuts_place_out old new count number later ran = cut_one place has_place old new later refl number (λ clean sees.
    let early : HasCleanDisk old = omega (arith, later, clean) in
    let h = ran clean in
    cuts_row register_schema place 4 refl refl refl (λ _ _. refl) (λ _. refl) text.delete_place (pos number) old new count cuts_place.0 cuts_place.1 refl (sees early h.1.was_open) h)

given_left : (it : LeftPair) (rows : List Row) → with_rowid Chosen rows (cast_row left_list (Null ∷ left_row it)) ≡ Int (next_rowid rows) ∷ left_row it
given_left it rows = rw (cast_null, cast_int (pos it.child))

pub adds_left : (old new : State) (count : ℕ) (it : LeftPair) → doubt old.is_clean ≤ doubt new.is_clean
    → (HasCleanDisk new → ExecutesInside 0 insert_left_list (left_row it) old new (Ok count)) → Writes (write_of Adds left_list left_row (it ∷ []) ∷ []) old new
adds_left old new count it later ran = add_one left_list has_left_list old new later refl (left_row it) (λ clean sees.
    let early : HasCleanDisk old = omega (arith, later, clean) in
    let h = ran clean in
    adds register_schema left_list 5 refl refl refl (λ _ _. refl) old new (Null ∷ left_row it) (left_row it) (λ rows. ap (columns_of left_list) (given_left it rows))
    (inserted register_schema left_list 5 refl refl refl (λ _ _. refl) left_list_terms 3 insert_left_list (left_row it)
    (Null ∷ left_row it) old new count inserts_left_list.0 inserts_left_list.1 refl (sees early h.1.was_open) h))

given_imported : (it : ImportedRow) (rows : List Row) → with_rowid Chosen rows (cast_row imported (stored (written_imported it))) ≡ stored (written_imported it)
given_imported it rows = simp (cast_null, cast_int) refl

pub adds_imported : (old new : State) (it : ImportedRow) → doubt old.is_clean ≤ doubt new.is_clean → RunsText insert_imported (written_imported it) old new
    → Writes (write_of Adds imported written_imported (it ∷ []) ∷ []) old new
adds_imported old new it later ran = add_keyed imported has_imported old new later refl (written_imported it) refl (λ clean sees.
    let early : HasCleanDisk old = omega (arith, later, clean) in
    let h = (ran clean).1 in
    adds register_schema imported 9 refl refl refl (λ _ _. refl) old new (stored (written_imported it)) (written_imported it) (λ rows. ap (columns_of imported) (given_imported it rows))
    (inserted register_schema imported 9 refl refl refl (λ _ _. refl) (given_terms imported_columns one_row) (suc (length imported_columns)) insert_imported (written_imported it)
    (stored (written_imported it)) old new (ran clean).0 inserts_imported.0 inserts_imported.1 refl (sees early h.1.was_open) h))

eight_imported : (rows : List ImportedRow) → length rows ≡ 8 → Gives imported_columns written_imported rows
eight_imported rows long = subst (Gives imported_columns written_imported) (sym (eight_of rows long).8) refl

-- eight of them
pub adds_imported_rows : (old new : State) (rows : List ImportedRow) → length rows ≡ 8 → doubt old.is_clean ≤ doubt new.is_clean
    → RunsText insert_imported_rows (flat_map written_imported rows) old new → Writes (write_of Adds imported written_imported rows ∷ []) old new
adds_imported_rows old new rows long later ran = add_many_keyed imported has_imported old new later refl (map written_imported rows)
    (rows_keyed (λ (it : ImportedRow). it.columns.0) written_imported (λ _. refl) rows) (λ clean sees.
    let early : HasCleanDisk old = omega (arith, later, clean) in
    let h = (ran clean).1 in
    adds_all register_schema imported 9 refl refl refl (λ _ _. refl) (λ it. stored (written_imported it)) written_imported rows old new (λ it rows. ap (columns_of imported) (given_imported it rows))
    (inserted_all register_schema imported 9 refl refl refl (λ _ _. refl) (given_terms imported_columns eight_rows) (suc (length imported_columns)) insert_imported_rows (flat_map written_imported rows)
    (map (λ it. stored (written_imported it)) rows) old new (ran clean).0 inserts_imported_rows.0 inserts_imported_rows.1 (eight_imported rows long) (sees early h.1.was_open) h))
