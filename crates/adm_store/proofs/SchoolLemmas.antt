-- What the statements on the table `school` do.
use Rattle.std.proofs.Common.{◌≡◌, ◌==◌, ℕ, Bool, true, false, pos, List, ◌∷◌, [], ◌≤◌, arith, Ok, refl, ap}
use Rattle.std.specs.Prelude.{if◌then◌else◌}
use Rattle.std.proofs.lemmas.List.Sorted.{IsPermutation-trans, IsPermutation-append_comm}
use Rattle.sqlite.specs.declared.types.Value.TheVariants.{Null, Int}
use Rattle.sqlite.specs.Order.{Row}
use Rattle.sqlite.specs.Edit.{next_rowid, with_rowid}
use Rattle.sqlite.specs.Cast.{cast_row}
use Rattle.sqlite.specs.Rowids.TheVariants.{Chosen}
use Rattle.sqlite.specs.State.{State, HasCleanDisk, Shown, ExecutesInside}
use Rattle.sqlite.specs.Table.{Table}
use Rattle.adm_schema.specs.Effects.{ReplacesRow, drop_of}
use Rattle.adm_schema.specs.Rows.{columns_of, rows_of}
use Rattle.sqlite_trees.specs.View.{doubt}
use Rattle.adm_schema.specs.Schema.{school, register_schema}
use Rattle.adm_schema.specs.RowTexts.{find_school, delete_school}
use Rattle.adm_schema.specs.Texts.{insert_school, school_terms}
use Rattle.adm_schema.proofs.Listed.{has_school}
use Rattle.adm_schema.proofs.Casts.{cast_null, cast_int}
use Rattle.adm_schema.proofs.OneFound.{drops_school}
use Rattle.adm_schema.proofs.OneReplaced.{replaces_school}
use Rattle.adm_schema.proofs.RowTexts.{finds_school}
use Rattle.adm_schema.proofs.Inserts.{inserted, adds}
use Rattle.adm_schema.proofs.Texts.{inserts_school}
use Rattle.adm_store.specs.declared.rows.SchoolRow.{SchoolRow}
use Rattle.adm_store.specs.Changes.{written_school}
use Rattle.adm_store.specs.Found.{DeletesFound, WritesFound}
use Rattle.adm_store.specs.Schools.{code_row}
use Rattle.adm_store.specs.Writes.{Adds, Drops, Writes, Leaves, write_of, changed, after_writes}
use Rattle.adm_store.proofs.FoundStatements.{shown_open, search_alone, replaces_before, found_and_cut}
use Rattle.adm_store.proofs.LogLemmas.{own_writes, add_one}

stored_school : (it : SchoolRow) (rows : List Row) → with_rowid Chosen rows (cast_row school (Null ∷ written_school it)) ≡ Int (next_rowid rows) ∷ written_school it
stored_school it rows = rw (cast_null, cast_int (pos it.pan), cast_int (pos it.east), cast_int (pos it.north))

pub adds_school : (old new : State) (count : ℕ) (it : SchoolRow) → doubt old.is_clean ≤ doubt new.is_clean
    → (HasCleanDisk new → ExecutesInside 0 insert_school (written_school it) old new (Ok count)) → Writes (write_of Adds school written_school (it ∷ []) ∷ []) old new
adds_school old new count it later ran = add_one school has_school old new later refl (written_school it) (λ clean sees.
    let early : HasCleanDisk old = omega (arith, later, clean) in
    let h = ran clean in
    adds register_schema school 1 refl refl refl (λ _ _. refl) old new (Null ∷ written_school it) (written_school it) (λ rows. ap (columns_of school) (stored_school it rows))
    (inserted register_schema school 1 refl refl refl (λ _ _. refl) school_terms 7 insert_school (written_school it)
    (Null ∷ written_school it) old new count inserts_school.0 inserts_school.1 refl (sees early h.1.was_open) h))

-- the row of a school is found, and deleted
pub drops_school_row : (old mid new : State) (code : List ℕ) (shown : Row) → doubt old.is_clean ≤ doubt mid.is_clean → doubt mid.is_clean ≤ doubt new.is_clean
    → (HasCleanDisk mid → Shown find_school (code_row code) old mid (shown ∷ []))
    → (HasCleanDisk new → DeletesFound delete_school shown mid new) → Writes (write_of Drops school code_row (code ∷ []) ∷ []) old new
drops_school_row old mid new code shown first second search cuts = found_and_cut school has_school refl find_school finds_school.2 (code_row code) delete_school old mid new shown first second
    (λ k has same number found h. drops_school code k shown old mid new has same number found h) search cuts

-- ---- the row of a school is found, and written anew

after_two : (row key : Row) (t : Table) (rows : List Row) → (t.tree == school.tree) ≡ false
    → after_writes t (record { kind = Drops; table = school; rows = key ∷ [] } ∷ record { kind = Adds; table = school; rows = row ∷ [] } ∷ []) rows ≡ rows
after_two row key t rows is = go (t.tree == school.tree) is
  where
    go : (b : Bool) → b ≡ false
        → (if b then changed Adds (row ∷ []) (if b then changed Drops (key ∷ []) rows else rows) else (if b then changed Drops (key ∷ []) rows else rows)) ≡ rows
    go false e = refl
    go true e = absurd (cc)

-- a row in place of those of its first values is dropped and added
replace_one : (row key : Row) (old new : State) → old.now.schema ≡ register_schema → ReplacesRow school key row old new
    → Leaves (record { kind = Drops; table = school; rows = key ∷ [] } ∷ record { kind = Adds; table = school; rows = row ∷ [] } ∷ []) old new
replace_one row key old new has p = own_writes school _ old new has_school has p.only (after_two row key)
    (λ _. (IsPermutation-trans _ _ _ (IsPermutation-append_comm (drop_of key (rows_of school old.now.trees)) (row ∷ [])) p.rows, refl))

pub replaces_school_row : (old mid new : State) (it : SchoolRow) (shown : Row) → doubt old.is_clean ≤ doubt mid.is_clean → doubt mid.is_clean ≤ doubt new.is_clean
    → (HasCleanDisk mid → Shown find_school (code_row it.code) old mid (shown ∷ [])) → (HasCleanDisk new → WritesFound shown it mid new)
    → Writes (write_of Drops school code_row (it.code ∷ []) ∷ write_of Adds school written_school (it ∷ []) ∷ []) old new
replaces_school_row old mid new it shown first second search writes clean sees sound =
    let middle : HasCleanDisk mid = omega (arith, second, clean) in
    let early : HasCleanDisk old = omega (arith, first, middle) in
    let found = search middle in
    let one = writes clean in
    let live = shown_open find_school (code_row it.code) old mid (shown ∷ []) found in
    let has = sees early live in
    let same = (search_alone school has_school refl find_school finds_school.2 (code_row it.code) old mid (shown ∷ []) has found).0.now_is in
    let there = replaces_school it.code it.name (pos it.pan) (pos it.east) (pos it.north) it.criteria one.0 shown old mid new has same one.1 found one.2 in
    let p = replaces_before school (code_row it.code) (written_school it) old mid new live same there in
    (λ _. p.only.is_open, λ _. replace_one (written_school it) (code_row it.code) old new has p)
