-- What a transaction of the store leaves.
use Rattle.std.proofs.Common.{◌≡◌, ◌⊎◌, ◌≤◌, ◌<◌, ◌+◌, ℕ, pos, length, inl, inr, List, [], ◌∷◌, ◌++◌, map, refl, sym, ap, ◌∙◌, subst, subst₂, IsTrue, true, false, Ok, Err, Result, OnOk, arith}
use Rattle.std.proofs.lemmas.List.{length-map, map-append}
use Rattle.std.proofs.lemmas.Simd.{map-map}
use Rattle.std.specs.Cmp.{nat_cmp_total}
use Rattle.std.specs.FinMap.{values, nat_cmp-IsAntisymmetric}
use Rattle.sqlite.specs.declared.types.Value.TheVariants.{Int}
use Rattle.adm_types.specs.declared.draws.Draw.{Draw}
use Rattle.adm_types.specs.declared.draws.DrawRow.{DrawRow}
use Rattle.adm_draws.specs.Draws.{row_of, offer_rows_of, lot_rows_of}
use Rattle.adm_register.specs.Draws.{no_draws, are_in_order}
use Rattle.adm_register.specs.WellFormed.{WellFormed}
use Rattle.std.specs.List.Sorted.{IsPermutation}
use Rattle.std.proofs.lemmas.List.Sorted.{IsPermutation-refl}
use Rattle.adm_types.specs.declared.rows.Child.{Child}
use Rattle.adm_types.specs.declared.rows.Application.{Application}
use Rattle.adm_types.specs.declared.rows.Row.{Row as ImportRow}
use Rattle.adm_types.specs.declared.rows.PlaceRow.{PlaceRow}
use Rattle.adm_types.specs.declared.rows.LeftPair.{LeftPair}
use Rattle.adm_types.specs.contracts.rows.Child.{the_row as child_code}
use Rattle.adm_types.specs.contracts.rows.Application.{the_row as application_code}
use Rattle.adm_types.specs.contracts.rows.PlaceRow.{the_row as place_code}
use Rattle.adm_register.specs.State.{State as Register}
use Rattle.adm_types.specs.Seasons.{SeasonFacts}
use Rattle.adm_register.specs.Rows.{rows_in_order}
use Rattle.sqlite.specs.Order.{Row}
use Rattle.sqlite.specs.Table.{Table}
use Rattle.sqlite.specs.Tree.{Trees}
use Rattle.sqlite.specs.Edit.{have_rowids}
use Rattle.sqlite.specs.Effect.{Database}
use Rattle.sqlite.specs.State.{State, HasCleanDisk, IsLive, Shows, Survives}
use Rattle.sqlite.proofs.StateLemmas.{survives_then}
use Rattle.sqlite.specs.Held.{Held, state}
use Rattle.sqlite_trees.specs.declared.store.Store as store
use Rattle.sqlite_trees.specs.View.{doubt}
use Rattle.sqlite_trees.specs.Objects.{catalog_tree}
use Rattle.sqlite_catalog.specs.Listing.{IsSound, Lists}
use Rattle.sqlite_catalog.proofs.ReadLemmas.{lists_once}
use Rattle.sqlite_rules.specs.Lists.{Has}
use Rattle.sqlite.proofs.Callers.{one_permutation}
use Rattle.adm_schema.specs.declared.version.Version.TheVariants.{Second}
use Rattle.adm_schema.specs.Rows.{rows_of}
use Rattle.std.specs.Prelude.{fold}
use Rattle.adm_schema.specs.Effects.{drop_of}
use Rattle.adm_schema.specs.Schema.{draw, present, school, register_schema}
use Rattle.adm_rows.specs.Forms.{season_row, child_row, application_row, place_row, left_row, imported_row}
use Rattle.adm_rows.specs.DrawForms.{draw_row, offer_row, lot_row}
use Rattle.adm_rows.specs.Present.{present_columns, moved_key}
use Rattle.adm_store.specs.Schools.{code_row}
use Rattle.adm_rows.specs.Represents.{RepresentsIn, HasRows, HoldsRegister, LeavesOnly, LeavesEither, written_in, written_tables}
use Rattle.adm_store.specs.Changes.{IsStep, written_school, written_child, written_application, written_imported, written_count, last_draw, draw_count}
use Rattle.adm_store.specs.Writes.{Write, Sets, Leaves, Writes, changed, after_writes, are_keyed, count_of, key_row, writes_of}
use Rattle.adm_store.specs.declared.rows.Changes.{Changes}
use Rattle.adm_store.proofs.LogLemmas.{after_none}
use Rattle.adm_rows.proofs.RegisterRows.{each_table}
use Rattle.adm_rows.proofs.RowsFit.{left_total, left_same}
use Rattle.adm_store.proofs.MapLemmas.{coded_stable, keyed_moved, rows_keyed}
use Rattle.adm_store.proofs.AddedRows.{added_rows, keys_kept}
use Rattle.adm_store.proofs.AddedParts.{added_parts}
use Rattle.adm_store.proofs.DrawOrder.{counted, last_is}
use Rattle.adm_store.proofs.TurnLemmas.{put_over, cut_and_put}
use Rattle.adm_store.proofs.PresentWrites.{presents_written}
use Rattle.adm_store.proofs.SchoolWrites.{schools_written}

-- outside a transaction, what a connection sees of a file that represents a register
pub holds_now : (s : State) (r : Register) → LeavesOnly r s → (IsTrue s.is_open → s.may_leave s.committed.trees) → (IsTrue s.is_open → s.now ≡ s.committed) → IsLive s
    → HasCleanDisk s → IsTrue s.is_open → (s.now.schema ≡ register_schema) × HoldsRegister Second s.now.trees r
holds_now s r before stays settled live clean is_open =
    let file = before clean s.committed.trees (stays is_open) in
    let trees = ap (λ (d : Database). d.trees) (settled is_open) in
    let listed = subst (λ (db : Trees). Lists (db catalog_tree) register_schema) (sym trees) file.sound.lists in
    (lists_once (s.now.trees catalog_tree) s.now.schema register_schema ((live is_open).0).lists listed, subst (λ (db : Trees). HoldsRegister Second db r) (sym trees) file.holds)

-- what is set in the row of `meta` is nothing, where the count of draws stays, or the new count
abbrev IsSet : List Row → ℕ → ℕ → Type 0
IsSet counts m n = ((counts ≡ []) × (m ≡ n)) ⊎ (counts ≡ (Int (pos n) ∷ []) ∷ [])

set_in : (season : SeasonFacts) (counts : List Row) (m n : ℕ) → IsSet counts m n → changed Sets counts (season_row Second season m ∷ []) ≡ season_row Second season n ∷ []
set_in season counts m n (inl it) = ap (λ news. changed Sets news (season_row Second season m ∷ [])) it.0 ∙ ap (λ k. season_row Second season k ∷ []) it.1
set_in season counts m n (inr it) = ap (λ news. changed Sets news (season_row Second season m ∷ [])) it

-- the row of the season stays, but for its count of draws
season_rows : (old new : SeasonFacts) → new ≡ old → (counts : List Row) (m n : ℕ) → IsSet counts m n → (was now : List Row) → IsPermutation (season_row Second old m ∷ []) was
    → (IsTrue (have_rowids was) → IsPermutation (changed Sets counts was) now) → IsPermutation (season_row Second new n ∷ []) now
season_rows old new same counts m n set was now held moved =
    let one = one_permutation (season_row Second old m) was held in
    let row : changed Sets counts was ≡ season_row Second old n ∷ [] = ap (changed Sets counts) one ∙ set_in old counts m n set in
    subst (λ season. IsPermutation (season_row Second season n ∷ []) now) (sym same) (subst (λ rows. IsPermutation rows now) row (moved (subst (λ rows. IsTrue (have_rowids rows)) (sym one) refl)))

-- what new draws set there is the number of the last one, which is how many there are
draws_set : (old new : Register) (changes : Changes) → IsStep old new changes → WellFormed old
    → IsSet (map written_count (last_draw changes.draws)) (length (map row_of (values old.draws))) (length (map row_of (values new.draws)))
draws_set old new changes step formed =
    let are = step.changes_are in
    let long = λ (r : Register). length-map (values r.draws) row_of in
    elim (counted new.season old.draws new.draws (λ k d is. (formed.draws.each k d is).own_number) (λ k d is. (step.formed.draws.each k d is).own_number) step.extends.draws
    (subst (λ season. are_in_order season no_draws (values old.draws) ≡ true) (sym step.extends.season) formed.draws.in_order) step.formed.draws.in_order _ are.differs.draws) [
      | inl none ↦ inl (ap (λ rows. map written_count (last_draw rows)) (are.draws ∙ ap (map row_of) none.0), long old ∙ none.1 ∙ sym (long new))
      | inr it ↦ inr (ap (λ rows. map written_count (last_draw rows)) (are.draws ∙ ap (map row_of) it.2 ∙ map-append row_of it.0 (it.1 ∷ []))
          ∙ ap (map written_count) (last_is (map row_of it.0) (row_of it.1)) ∙ ap (λ n. (Int (pos n) ∷ []) ∷ []) (it.3 ∙ sym (long new)))
    ]

-- each table has the rows of the old one after these writes
abbrev Moves : List Write → Trees → Trees → Type 0
Moves writes was now = (t : Table) → Has register_schema.tables t → IsTrue (are_keyed t (rows_of t was)) → IsPermutation (after_writes t writes (rows_of t was)) (rows_of t now)

-- from what the old register has of a table, and what the writes leave of it, comes what the new one has
abbrev Becomes : Trees → Trees → Register → Register → Changes → Table → Type 0
Becomes was now old new changes t =
    HasRows t (written_in (written_tables Second (rows_in_order old)) t) was
    → (IsTrue (are_keyed t (rows_of t was)) → IsPermutation (after_writes t (writes_of changes) (rows_of t was)) (rows_of t now))
    → HasRows t (written_in (written_tables Second (rows_in_order new)) t) now

-- trees that result from those of the old register by these changes
new_trees : (was now : Trees) (old new : Register) (changes : Changes) → IsStep old new changes → HoldsRegister Second was old → IsSound register_schema now
    → Moves (writes_of changes) was now → RepresentsIn Second now new
new_trees was now old new changes step held sound moves = let are = step.changes_are in let differs = are.differs in record {
  sound = sound;
  holds = record {
    rows = record {
      each = λ t listed. each_table Second (Becomes was now old new changes) (
        λ had turn. season_rows old.season new.season step.extends.season _ _ _ (draws_set old new changes step held.formed) _ _ had turn,
        (
          λ had turn. schools_written old.schools new.schools (λ k v is. (held.formed.base.schools_fit k v is).own_code)
              (λ k v is. (step.formed.base.schools_fit k v is).own_code) step.extends.schools _ differs.schools _ _ _ are.schools had
              (subst (λ keys. IsPermutation (fold (λ rows key. drop_of key rows) (rows_of school was) (map code_row keys) ++ map written_school changes.schools)
              (rows_of school now)) are.replaced (turn refl)),
          (
            λ had turn. put_over (λ (c : Child). c.no) child_row (λ _. refl) (coded_stable child_code.coded) old.children new.children
                (λ k v is. (held.formed.base.children_fit k v is).own_number)
                (λ k v is. (step.formed.base.children_fit k v is).own_number) _ differs.children _ _ _ are.children had step.extends.children turn,
            (
              λ had turn. cut_and_put (λ (a : Application). a.child) application_row (λ _. refl) (coded_stable application_code.coded) old.applications new.applications
                  (λ k v is. (held.formed.base.applications_fit k v is).own_number)
                  (λ k v is. (step.formed.base.applications_fit k v is).own_number) _ differs.applications _ _ _ are.applications had changes.ended (are.ended ∙ differs.ended) turn,
              (
                λ had turn. cut_and_put (λ (p : PlaceRow). p.child) place_row (λ _. refl) (coded_stable place_code.coded) old.places new.places
                    (λ k v is. (held.formed.places.each k v is).own_number) (λ k v is. (step.formed.places.each k v is).own_number) _ differs.places _ _ _
                    (ap (map place_row) are.places) had changes.vacated (are.vacated ∙ differs.vacated) turn,
                (
                  λ had turn. added_rows left_total left_same (λ (p : LeftPair). p) old.left new.left (λ k v is. (step.formed.left k v is).own_key)
                      (keys_kept old.left new.left (λ k v is. (held.formed.left k v is).own_key)
                      (λ k v is. (step.formed.left k v is).own_key) step.extends.left) _ differs.left left_row _ _ _ (ap (map left_row) are.left) had (turn refl),
                  (
                    λ had turn. subst (λ rows. IsPermutation rows (rows_of draw now)) (sym (map-map draw_row row_of (values new.draws)))
                        (added_rows nat_cmp_total nat_cmp-IsAntisymmetric (λ (d : Draw). d.number) old.draws new.draws
                        (λ k v is. (step.formed.draws.each k v is).own_number) step.extends.draws _ differs.draws (λ d. draw_row (row_of d)) _ _ _
                        (ap (map draw_row) are.draws ∙ map-map draw_row row_of _)
                        (subst (λ rows. IsPermutation rows (rows_of draw was)) (map-map draw_row row_of (values old.draws)) had)
                        (turn (keyed_moved _ _ had (rows_keyed (λ (d : DrawRow). d.draw) draw_row (λ _. refl) (map row_of (values old.draws)))))),
                    (
                      λ had turn. added_parts nat_cmp_total nat_cmp-IsAntisymmetric (λ (d : Draw). d.number) old.draws new.draws
                          (λ k v is. (step.formed.draws.each k v is).own_number) step.extends.draws _ differs.draws offer_rows_of offer_row _ _ _ (ap (map offer_row) are.offers) had (turn refl),
                      (
                        λ had turn. added_parts nat_cmp_total nat_cmp-IsAntisymmetric (λ (d : Draw). d.number) old.draws new.draws
                            (λ k v is. (step.formed.draws.each k v is).own_number) step.extends.draws _ differs.draws lot_rows_of lot_row _ _ _ (ap (map lot_row) are.lots) had (turn refl),
                        (
                          λ had turn. added_rows nat_cmp_total nat_cmp-IsAntisymmetric (λ (r : ImportRow). r.child.no) old.imported new.imported
                              (λ k v is. (step.formed.imported k v is).child.own_number) step.extends.imported _ differs.imported imported_row _ _ _ are.imported had
                              (turn (keyed_moved _ _ had (rows_keyed (λ (r : ImportRow). r.child.no) imported_row (λ _. refl) (values old.imported)))),
                          (
                            λ had turn. presents_written old.children new.children (λ k v is. (held.formed.base.children_fit k v is).own_number)
                                (λ k v is. (step.formed.base.children_fit k v is).own_number) step.extends.children _ differs.children old.imported new.imported
                                (λ k v is. (step.formed.imported k v is).child.own_number) step.extends.imported _ differs.imported _ _ had
                                (subst₂ (λ keys rows. IsPermutation
                                (fold (λ rows key. drop_of key rows) (rows_of present was) (map moved_key keys) ++ map present_columns rows) (rows_of present now)) are.moved are.present (turn refl)),
                            tt,
                          ),
                        ),
                      ),
                    ),
                  ),
                ),
              ),
            ),
          ),
        ),
      ) t listed (held.rows.each t listed) (moves t listed);
      said = tt;
      sized = tt;
    };
    formed = step.formed;
  };
}

pub stands : (start end : State) (old new : Register) (changes : Changes) → IsStep old new changes → (start.now.schema ≡ register_schema) × HoldsRegister Second start.now.trees old
    → Leaves (writes_of changes) start end → RepresentsIn Second end.now.trees new
stands start end old new changes step held wrote = new_trees start.now.trees end.now.trees old new changes step held.1
    (subst (λ s. IsSound s end.now.trees) (wrote.schema ∙ held.0) wrote.sound) wrote.rows

-- a commit leaves what it wrote, or what was there
pub survives_commit : (start last end : State) (P : Trees → Type 0) → Survives start last (λ _. ⊥) → (HasCleanDisk last → P last.now.trees)
    → Survives last end (λ db. db ≡ last.now.trees) → Survives start end P
survives_commit start last end P before file commit =
    survives_then start last end (λ _. ⊥) (λ db. db ≡ last.now.trees) P (λ _ db none. absurd none)
    (λ clean db is. subst P (sym is) (file (omega (arith, commit.clean)))) before commit

pub on_ok : {X E : Type 0} (r : Result X E) (P Q : Type 0) → (P → Q) → OnOk r P → OnOk r Q
on_ok (Ok x) P Q f h = f h
on_ok (Err e) P Q f h = tt

-- what the transaction wrote represents the new register
pub wrote : {S : Type 0} (g : store.Ghosts S) (start begun : Held S) (last : State) (old new : Register) (changes : Changes) → begun ≡ record start { in_transaction = true }
    → (IsTrue (state g start).is_open → (state g start).may_leave (state g start).committed.trees)
    → (IsTrue (state g start).is_open → (state g start).now ≡ (state g start).committed) → IsLive (state g start)
    → IsStep old new changes → LeavesOnly old (state g start) → doubt (state g begun).is_clean ≤ doubt last.is_clean
    → 0 < count_of (writes_of changes) → Writes (writes_of changes) (state g begun) last → HasCleanDisk last → RepresentsIn Second last.now.trees new
wrote g start begun last old new changes is stays settled live step before clean some writes late =
    let holds : HasCleanDisk (state g begun) → IsTrue (state g begun).is_open → ((state g begun).now.schema ≡ register_schema) × HoldsRegister Second (state g begun).now.trees old =
    subst (λ h. HasCleanDisk (state g h) → IsTrue (state g h).is_open
    → ((state g h).now.schema ≡ register_schema) × HoldsRegister Second (state g h).now.trees old) (sym is) (holds_now (state g start) old before stays settled live) in
    let early : HasCleanDisk (state g begun) = omega (arith, clean, late) in
    let lively : IsLive (state g begun) = subst (λ h. IsLive (state g h)) (sym is) live in
    let writing = writes late (λ c o. (holds c o).0) (λ c o. (lively o).0) in
    let written = writing.1 (writing.0 (inl some)) in
    stands (state g begun) last old new changes step (holds early written.was_open) written

-- the rows and keys of a commit, counted
pub count_is : (c : Changes) → count_of (writes_of c) ≡ length c.replaced +
    (length c.schools + length c.children + length c.applications + length c.places + length c.left + length c.imported + length c.present + draw_count c) +
    (length c.ended + length c.vacated + length c.moved)
count_is c = omega (
  arith,
  length-map c.replaced code_row,
  length-map c.schools written_school,
  length-map c.children written_child,
  length-map c.applications written_application,
  length-map c.places place_row,
  length-map c.left left_row,
  length-map c.draws draw_row,
  length-map c.offers offer_row,
  length-map c.lots lot_row,
  length-map c.imported written_imported,
  length-map (last_draw c.draws) written_count,
  length-map c.ended key_row,
  length-map c.vacated key_row,
  length-map c.moved moved_key,
  length-map c.present present_columns,
)

-- a file that represents the old register represents the new one, where nothing changed
pub no_change : (old new : Register) (changes : Changes) → IsStep old new changes → count_of (writes_of changes) ≡ 0 → (db : Trees) → RepresentsIn Second db old → RepresentsIn Second db new
no_change old new changes step none db file = new_trees db db old new changes step file.holds file.sound
    (λ t _ _. subst (λ rows. IsPermutation rows (rows_of t db)) (sym (after_none t (writes_of changes) (rows_of t db) none)) (IsPermutation-refl _))

-- what is known of a commit that may not have happened
pub either : (start end : State) (old new : Register) → Survives start end (λ db. RepresentsIn Second db new) → LeavesOnly old start → LeavesEither old new end
either start end old new survives before clean db may = elim (survives.crash clean db may) [ inl was ↦ inl (before (omega (arith, survives.clean, clean)) db was) | inr now ↦ inr now ]

pub commits_file : (last end : State) (P : Trees → Type 0) → P last.now.trees → Shows last end last.now last.now false → IsTrue end.is_open × P end.committed.trees
commits_file last end P file shown = (shown.is_open, subst (λ (d : Database). P d.trees) (sym shown.committed_is) file)
