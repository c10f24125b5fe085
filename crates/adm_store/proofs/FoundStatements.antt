-- What two statements do that find a row by its key, and delete it or write it anew by its rowid.
use Rattle.std.proofs.Common.{◌≡◌, ◌∙◌, ℕ, ℤ, ◌≤◌, List, [], ◌∷◌, false, Some, None, Ok, sym, ap, subst, arith, IsTrue}
use Rattle.std.specs.Prelude.{is_some}
use Rattle.std.specs.List.Sorted.{IsPermutation}
use Rattle.std.proofs.lemmas.List.Sorted.{IsPermutation-refl}
use Rattle.sqlite.specs.declared.types.Value.TheVariants.{Int}
use Rattle.sqlite.specs.Order.{Row, column}
use Rattle.sqlite.specs.Schema.{Schema}
use Rattle.sqlite.specs.Table.{Table}
use Rattle.sqlite.specs.Effect.{Database, IsDatabase}
use Rattle.sqlite.specs.Listing.{understood}
use Rattle.sqlite.specs.State.{State, HasCleanDisk, Shown, ShowsRows, IsUnchanged, ExecutesInside}
use Rattle.sqlite.specs.Clock.{timed}
use Rattle.sqlite.proofs.Callers.{IsPlain}
use Rattle.sqlite_trees.specs.View.{doubt}
use Rattle.sqlite_rules.specs.Lists.{Has}
use Rattle.adm_schema.specs.Effects.{WritesOnly, DropsRow, ReplacesRow, drop_of}
use Rattle.adm_schema.specs.Rows.{rows_of}
use Rattle.adm_schema.specs.Schema.{register_schema}
use Rattle.adm_store.specs.Found.{DeletesFound}
use Rattle.adm_store.specs.Writes.{Drops, Writes}
use Rattle.adm_store.proofs.LogLemmas.{drop_one}

-- what showed rows was open
pub shown_open : (sql : List ℕ) (params : Row) (old new : State) (rows : List Row) → Shown sql params old new rows → IsTrue old.is_open
unfolding Shown
shown_open sql params old new rows h = go h.0.returning h.2
  where
    go : (o : _) → ShowsRows old new sql h.0 (timed params h.0.formats h.1.now) rows o → IsTrue old.is_open
    go None it = it.3.0.was_open
    go (Some what) it = it.1.shown.was_open

-- what is written of one table after nothing was written
only_before : (table : Table) (old mid new : State) → IsTrue old.is_open → mid.now ≡ old.now → WritesOnly table mid new → WritesOnly table old new
only_before table old mid new live same only = record {
  was_open = live;
  is_open = only.is_open;
  schema = only.schema ∙ ap (λ (d : Database). d.schema) same;
  sound = only.sound;
  others = λ t listed apart. only.others t (subst (λ (s : Schema). Has s.tables t) (sym (ap (λ (d : Database). d.schema) same)) listed) apart ∙ ap (λ (d : Database). d.trees t.tree) same;
}

-- a row that is written in place of others after nothing was written
pub replaces_before : (table : Table) (key row : Row) (old mid new : State) → IsTrue old.is_open → mid.now ≡ old.now → ReplacesRow table key row mid new → ReplacesRow table key row old new
replaces_before table key row old mid new live same replaces = record {
  only = only_before table old mid new live same replaces.only;
  rows = subst (λ (d : Database). IsPermutation (row ∷ drop_of key (rows_of table d.trees)) (rows_of table new.now.trees)) same replaces.rows;
}

-- a row that is dropped after nothing was written
drops_before : (table : Table) (key : Row) (old mid new : State) → IsTrue old.is_open → mid.now ≡ old.now → DropsRow table key mid new → DropsRow table key old new
drops_before table key old mid new live same drops = record {
  only = only_before table old mid new live same drops.only;
  rows = subst (λ (d : Database). IsPermutation (drop_of key (rows_of table d.trees)) (rows_of table new.now.trees)) same drops.rows;
}

module _ (table : Table) (listed : Has register_schema.tables table) (unkeyed : is_some table.key ≡ false) (find : List ℕ) (plain : IsPlain (understood register_schema find)) (key : Row) where
  -- the search writes nothing
  pub search_alone : (old new : State) (rows : List Row) → old.now.schema ≡ register_schema → Shown find key old new rows → IsUnchanged old new
  unfolding Shown
  search_alone old new rows has h =
      let known = sym h.1.is ∙ ap (λ s. understood s find) has in
      let bare = subst IsPlain (sym known) plain in
      (rw bare.0 at h.2).3

  -- the row is found, and deleted
  pub found_and_cut : (cut : List ℕ) (old mid new : State) (shown : Row) → doubt old.is_clean ≤ doubt mid.is_clean → doubt mid.is_clean ≤ doubt new.is_clean
      → ((k : ℤ) → old.now.schema ≡ register_schema → mid.now ≡ old.now → column shown 0 ≡ Int k → Shown find key old mid (shown ∷ [])
      → ExecutesInside 0 cut (Int k ∷ []) mid new (Ok 1) → DropsRow table key mid new)
      → (HasCleanDisk mid → Shown find key old mid (shown ∷ [])) → (HasCleanDisk new → DeletesFound cut shown mid new) → Writes (record { kind = Drops; table = table; rows = key ∷ [] } ∷ []) old new
  found_and_cut cut old mid new shown first second drops search cuts = drop_one table listed old new (omega (arith, first, second)) unkeyed key (λ clean sees sound.
      let middle : HasCleanDisk mid = omega (arith, second, clean) in
      let early : HasCleanDisk old = omega (arith, first, middle) in
      let it = search middle in
      let one = cuts clean in
      let live = shown_open find key old mid (shown ∷ []) it in
      let has = sees early live in
      let same = (search_alone old mid (shown ∷ []) has it).0.now_is in
      drops_before table key old mid new live same (drops one.0 has same one.1 it one.2))

  -- it is not found, and nothing is deleted
  pub found_none : (old new : State) → doubt old.is_clean ≤ doubt new.is_clean
      → (old.now.schema ≡ register_schema → Shown find key old new [] → drop_of key (rows_of table old.now.trees) ≡ rows_of table old.now.trees)
      → (HasCleanDisk new → Shown find key old new []) → Writes (record { kind = Drops; table = table; rows = key ∷ [] } ∷ []) old new
  found_none old new later none search = drop_one table listed old new later unkeyed key (λ clean sees sound.
      let early : HasCleanDisk old = omega (arith, later, clean) in
      let it = search clean in
      let live = shown_open find key old new [] it in
      let has = sees early live in
      let shows = (search_alone old new [] has it).0 in
      record {
        only = record {
          was_open = live;
          is_open = shows.is_open;
          schema = ap (λ (d : Database). d.schema) shows.now_is;
          sound = subst IsDatabase (sym shows.now_is) (sound early live);
          others = λ t there apart. ap (λ (d : Database). d.trees t.tree) shows.now_is;
        };
        rows = subst (λ rows. IsPermutation rows (rows_of table new.now.trees)) (ap (λ (d : Database). rows_of table d.trees) shows.now_is ∙ sym (none has it)) (IsPermutation-refl _);
      })
