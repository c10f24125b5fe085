-- What the migration of a file leaves.
use Rattle.std.proofs.Common.{ℕ, pos, ◌≡◌, ◌≢◌, ◌≤◌, ◌∙◌, inl, inr, true, Ok, Err, Result, OnOk, length, List, [], ◌∷◌, map, refl, sym, ap, subst, arith, IsTrue}
use Rattle.std.specs.List.Sorted.{IsPermutation}
use Rattle.std.proofs.lemmas.List.Sorted.{IsPermutation-refl}
use Rattle.sqlite.specs.Order.{Row}
use Rattle.sqlite.specs.Table.{Table}
use Rattle.sqlite.specs.Tree.{Trees}
use Rattle.sqlite.specs.Edit.{have_rowids}
use Rattle.sqlite.specs.Schema.{Schema}
use Rattle.sqlite.specs.Effect.{Database}
use Rattle.sqlite.specs.State.{State, HasCleanDisk, IsLive, Survives}
use Rattle.sqlite.proofs.StateLemmas.{survives_then}
use Rattle.sqlite.specs.Held.{Held, state}
use Rattle.sqlite.proofs.Callers.{one_permutation}
use Rattle.sqlite_trees.specs.declared.store.Store as store
use Rattle.sqlite_trees.specs.View.{doubt}
use Rattle.sqlite_trees.specs.Objects.{catalog_tree}
use Rattle.sqlite_catalog.specs.Listing.{IsSound, Lists}
use Rattle.sqlite_catalog.proofs.ReadLemmas.{lists_once}
use Rattle.sqlite_rules.specs.Lists.{Has}
use Rattle.adm_register.specs.State.{State as Register}
use Rattle.adm_register.specs.Rows.{rows_in_order}
use Rattle.adm_schema.specs.declared.version.Version.{Version}
use Rattle.adm_schema.specs.declared.version.Version.TheVariants.{First, Second}
use Rattle.adm_schema.specs.Effects.{AddsTable, MarksSecond, with_second}
use Rattle.adm_schema.specs.Rows.{rows_of, columns_of}
use Rattle.adm_schema.specs.Schema.{meta, school, child, application, place, left_list, draw, offer, lot, imported, present, schema_of, register_schema}
use Rattle.adm_schema.proofs.Listed.{meta_in, school_in, child_in, application_in, place_in, left_list_in, draw_in, offer_in, lot_in, imported_in, has_present}
use Rattle.adm_rows.specs.Forms.{season_row, version_code, phase_code, days_text}
use Rattle.adm_types.specs.Seasons.{SeasonFacts}
use Rattle.adm_types.specs.declared.seasons.Size.TheVariants.{Standard}
use Rattle.sqlite.specs.declared.types.Value.TheVariants.{Int, Text}
use Rattle.adm_rows.specs.Present.{present_columns}
use Rattle.adm_store.specs.Migration.{MakesPresent, MakesSecond, IsMigrated}
use Rattle.adm_rows.specs.Represents.{IsStarted, RepresentsIn, RepresentsNow, Represents, LeavesAll, HasRows, HoldsRegister, written_in, written_tables}
use Rattle.adm_rows.proofs.FaultLemmas.{apart}
use Rattle.adm_rows.proofs.RegisterRows.{each_table}
use Rattle.adm_rows.proofs.RowLemmas.{recursion_had}

-- outside a transaction, what a connection sees of a file that represents a register in this version
pub holds_in : (v : Version) (s : State) (r : Register) → ((db : Trees) → s.may_leave db → RepresentsIn v db r) → (IsTrue s.is_open → s.may_leave s.committed.trees)
    → (IsTrue s.is_open → s.now ≡ s.committed) → IsLive s
    → IsTrue s.is_open → (s.now.schema ≡ schema_of v) × HoldsRegister v s.now.trees r
holds_in v s r before stays settled live is_open =
    let file = before s.committed.trees (stays is_open) in
    let trees = ap (λ (d : Database). d.trees) (settled is_open) in
    let listed = subst (λ (db : Trees). Lists (db catalog_tree) (schema_of v)) (sym trees) file.sound.lists in
    (lists_once (s.now.trees catalog_tree) s.now.schema (schema_of v) ((live is_open).0).lists listed, subst (λ (db : Trees). HoldsRegister v db r) (sym trees) file.holds)

module _ (begun mid last : State) (adds : AddsTable (schema_of First) register_schema begun mid) (marks : MarksSecond mid last) where
  -- the table is not written since it was made, or since the migration began
  after_made : (t : Table) → Has register_schema.tables t → t.tree ≢ meta.tree → last.now.trees t.tree ≡ mid.now.trees t.tree
  after_made t listed apart = marks.only.others t (subst (λ (s : Schema). Has s.tables t) (sym adds.schema) listed) apart

  made_kept : (t : Table) → Has (schema_of First).tables t → mid.now.trees t.tree ≡ begun.now.trees t.tree
  made_kept t listed = recursion_had (λ (t : Table). mid.now.trees t.tree ≡ begun.now.trees t.tree) (schema_of First).tables t adds.others listed

  kept : (t : Table) (rows : List Row) → Has (schema_of First).tables t → Has register_schema.tables t → t.tree ≢ meta.tree → HasRows t rows begun.now.trees → HasRows t rows last.now.trees
  kept t rows listed later apart had = subst (λ xs. IsPermutation rows (map (columns_of t) xs)) (sym (after_made t later apart ∙ made_kept t listed)) had

  -- the row of the season names the second version
  season_marked : (row marked : Row) → with_second row ≡ marked → IsTrue (have_rowids (row ∷ [])) → HasRows meta (row ∷ []) begun.now.trees → HasRows meta (marked ∷ []) last.now.trees
  season_marked row marked is keyed had =
      let one : rows_of meta mid.now.trees ≡ row ∷ [] = ap (map (columns_of meta)) (made_kept meta (meta_in First)) ∙ one_permutation row (rows_of meta begun.now.trees) had in
      let moved = marks.rows (subst (λ rows. IsTrue (have_rowids rows)) (sym one) keyed) in
      subst (λ rows. IsPermutation rows (rows_of meta last.now.trees)) (ap (map with_second) one ∙ ap (λ (r : Row). r ∷ []) is) moved

  none_there : (rows : List Row) → rows ≡ [] → HasRows present rows last.now.trees
  none_there rows none = subst (λ xs. IsPermutation xs (rows_of present last.now.trees)) (sym none)
      (subst (λ xs. IsPermutation [] (map (columns_of present) xs)) (sym (after_made present has_present (λ e. absurd (omega (arith, e))) ∙ adds.none)) (IsPermutation-refl []))

  -- the row of a season of the standard size is that of the second version then
  marked_row : (season : SeasonFacts) (draws : ℕ) → season.size ≡ Standard → with_second (season_row First season draws) ≡ season_row Second season draws
  marked_row season draws sized = ap (λ size. Int (pos 1) ∷ Int (pos (version_code Second size)) ∷ Int (pos (phase_code season.phase)) ∷ Int (pos season.year) ∷ Text (days_text season.holidays) ∷ Int (pos draws) ∷ []) (sym sized)

  -- a file of the first version is one of the second then, and represents the same register
  pub second_file : (r : Register) → HoldsRegister First begun.now.trees r → RepresentsIn Second last.now.trees r
  second_file r held = record {
    sound = subst (λ s. IsSound s last.now.trees) (marks.only.schema ∙ adds.schema) marks.only.sound;
    holds = record {
      rows = record {
        each = each_table Second (λ t. HasRows t (written_in (written_tables Second (rows_in_order r)) t) last.now.trees) (
          season_marked (season_row First r.season (length (rows_in_order r).draws)) (season_row Second r.season (length (rows_in_order r).draws)) (marked_row r.season (length (rows_in_order r).draws) held.rows.sized) refl (held.rows.each meta (meta_in First)),
          (
            kept school _ (school_in First) (school_in Second) (λ e. absurd (omega (arith, e))) (held.rows.each school (school_in First)),
            (
              kept child _ (child_in First) (child_in Second) (λ e. absurd (omega (arith, e))) (held.rows.each child (child_in First)),
              (
                kept application _ (application_in First) (application_in Second) (λ e. absurd (omega (arith, e))) (held.rows.each application (application_in First)),
                (
                  kept place _ (place_in First) (place_in Second) (λ e. absurd (omega (arith, e))) (held.rows.each place (place_in First)),
                  (
                    kept left_list _ (left_list_in First) (left_list_in Second) (λ e. absurd (omega (arith, e))) (held.rows.each left_list (left_list_in First)),
                    (
                      kept draw _ (draw_in First) (draw_in Second) (λ e. absurd (omega (arith, e))) (held.rows.each draw (draw_in First)),
                      (
                        kept offer _ (offer_in First) (offer_in Second) (λ e. absurd (omega (arith, e))) (held.rows.each offer (offer_in First)),
                        (
                          kept lot _ (lot_in First) (lot_in Second) (λ e. absurd (omega (arith, e))) (held.rows.each lot (lot_in First)),
                          (
                            kept imported _ (imported_in First) (imported_in Second) (λ e. absurd (omega (arith, e))) (held.rows.each imported (imported_in First)),
                            (none_there _ (ap (map present_columns) held.rows.said.1), tt),
                          ),
                        ),
                      ),
                    ),
                  ),
                ),
              ),
            ),
          ),
        );
        said = tt;
        sized = tt;
      };
      formed = held.formed;
    };
  }

-- what the transaction of a migration leaves represents the same register
pub migrated : {S : Type 0} (g : store.Ghosts S) (start begun : Held S) (mid last : State) (r : Register) → begun ≡ record start { in_transaction = true }
    → (IsTrue (state g start).is_open → (state g start).may_leave (state g start).committed.trees)
    → (IsTrue (state g start).is_open → (state g start).now ≡ (state g start).committed) → IsLive (state g start)
    → LeavesAll First r (state g start) → doubt (state g begun).is_clean ≤ doubt mid.is_clean → doubt mid.is_clean ≤ doubt last.is_clean
    → (HasCleanDisk mid → MakesPresent (state g begun) mid) → (HasCleanDisk last → MakesSecond mid last) → HasCleanDisk last → RepresentsIn Second last.now.trees r
migrated g start begun mid last r is stays settled live before clean1 clean2 makes marks late =
    let middle : HasCleanDisk mid = omega (arith, clean2, late) in
    let early : HasCleanDisk (state g begun) = omega (arith, clean1, middle) in
    let holds : HasCleanDisk (state g begun) → IsTrue (state g begun).is_open → ((state g begun).now.schema ≡ schema_of First) × HoldsRegister First (state g begun).now.trees r =
    subst (λ h. HasCleanDisk (state g h) → IsTrue (state g h).is_open
    → ((state g h).now.schema ≡ schema_of First) × HoldsRegister First (state g h).now.trees r) (sym is) (λ c o. holds_in First (state g start) r (before c) stays settled live o) in
    let adds = makes middle (λ o. (holds early o).0) in
    let second = marks late (λ o. (adds.schema, adds.sound)) in
    second_file (state g begun) mid last adds second r ((holds early adds.was_open).1)

-- ---- a file that was read, and then brought to the second version

module _ (v : Version) (r : Register) (start mid : State) (started : IsStarted start) (kept : Survives start mid (λ _. ⊥)) (stands : HasCleanDisk mid
    → IsTrue start.is_open → (db : Trees) → start.may_leave db → RepresentsIn v db r) where
  pub leaves_read : LeavesAll v r mid
  leaves_read clean db may =
      let early : HasCleanDisk start = omega (arith, kept.clean, clean) in
      elim (kept.crash clean db may) [ inl was ↦ stands clean (started early) db was | inr none ↦ absurd none ]

  pub brought : (end : State) → Survives mid end (λ db. (v ≡ First) × RepresentsIn Second db r) → Survives start end (IsMigrated start)
  brought end later = survives_then start mid end (λ _. ⊥) (λ db. (v ≡ First) × RepresentsIn Second db r) (IsMigrated start) (λ _ db none. absurd none)
      (λ clean db it.
      let middle : HasCleanDisk mid = omega (arith, later.clean, clean) in
      let early : HasCleanDisk start = omega (arith, kept.clean, middle) in
      record { register = r; was = λ w may. subst (λ u. RepresentsIn u w r) it.0 (stands middle (started early) w may); is = it.1 }) kept later

-- what may be committed may be said more weakly
pub weaker : (start end : State) (P Q : Trees → Type 0) → ((db : Trees) → P db → Q db) → Survives start end P → Survives start end Q
weaker start end P Q f kept = record {
  clean = kept.clean;
  shield = kept.shield;
  counts = kept.counts;
  limit = kept.limit;
  closes = kept.closes;
  crash = λ clean db may. elim (kept.crash clean db may) [ inl was ↦ inl was | inr now ↦ inr (f db now) ];
}

-- what an Ok says under a condition
pub later_ok : {X E : Type 0} (x : Result X E) (C A Q : Type 0) → (C → OnOk x A) → ((C → A) → Q) → OnOk x Q
later_ok (Ok v) C A Q h f = f h
later_ok (Err e) C A Q h f = tt

-- a file of the second version is not migrated
pub not_migrated : (old : State) (db was : Trees) (r : Register) → IsMigrated old db → old.may_leave was → RepresentsIn Second was r → ⊥
not_migrated old db was r it may stands = apart (lists_once (was catalog_tree) (schema_of First) (schema_of Second) (it.was was may).sound.lists stands.sound.lists)

pub represents_register : (db : Trees) (r : Register) → RepresentsNow db r → Represents db r
represents_register db r stands = record { version = Second; stands = stands }
