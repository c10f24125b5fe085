-- What a CREATE TABLE leaves.
use Rattle.std.proofs.Common.{◌≡◌, ℕ, zero, suc, ◌+◌, List, [], ◌∷◌, Ok, Some, None, slice_get, false, sym, ap, ◌∙◌, subst, subst₂}
use Rattle.std.specs.List.{AllByRecursion}
use Rattle.sqlite.specs.Schema.{Schema}
use Rattle.sqlite.specs.Table.{Table}
use Rattle.sqlite.specs.Command.TheVariants.{CreateTable}
use Rattle.sqlite.specs.Change.{created, next_tree, KeepsRows}
use Rattle.sqlite.specs.Does.{Tally, lacks_sequence}
use Rattle.sqlite.specs.Effect.{Database, IsDatabase}
use Rattle.sqlite.specs.State.{Writes, State, ExecutesInside}
use Rattle.sqlite.specs.Tree.{Trees}
use Rattle.sqlite.proofs.Callers.{runs_as}
use Rattle.std.proofs.lemmas.Option.{same_Some}
use Rattle.adm_lists.proofs.Each.{each_push}
use Rattle.adm_schema.specs.Effects.{SeesNoRows}
use Rattle.adm_schema.specs.Creations.{IsCreation, creations, schema_after}
use Rattle.adm_schema.specs.Schema.{new_meta, new_school, new_child, new_application, new_place, new_left_list, new_draw, new_offer, new_lot, new_imported, new_present}
use Rattle.adm_schema.proofs.Statements.{went, same_value, unless}
use Rattle.adm_schema.proofs.Creates.{creates_meta, creates_school, creates_child, creates_application, creates_place, creates_left_list, creates_draw, creates_offer, creates_lot, creates_imported, creates_present}

pub creates : {before after : Schema} {table : Table} {sql : List ℕ} → IsCreation before sql table after → (old new : State) (count : ℕ) → old.now.schema ≡ before
    → ExecutesInside 0 sql [] old new (Ok count)
    → (new.now.schema ≡ after) × (new.now.trees (next_tree before) ≡ []) × KeepsRows before.tables old.now.trees new.now.trees × IsDatabase new.now
creates {before} {after} {table} {sql} made old new count has h =
    let w = subst (λ t. Writes old new None CreateTable t [] count) made.text (runs_as sql [] old new before has CreateTable made.command made.plain count h.0) in
    let all = went w.changed in
    let first = went all.1 in
    let it = first.1 in
    let both : Ok it.table ≡ Ok table = sym it.defined ∙ made.defines in
    let same : it.table ≡ table = cc in
    let schema : first.0.schema ≡ after = it.is ∙ ap (λ s. created s it.table) has ∙ ap (created before) same ∙ made.makes in
    let none : lacks_sequence first.0.schema ≡ false = ap lacks_sequence schema ∙ made.uncounted in
    let now : new.now ≡ first.0 = ap (λ (p : Tally × Database). p.1) (same_value all.2) ∙ same_value (unless _ _ _ none first.2) in
    let trees = ap (λ (d : Database). d.trees) now in (
      ap (λ (d : Database). d.schema) now ∙ schema,
      ap (λ (t : Trees). t (next_tree before)) trees ∙ subst (λ s. first.0.trees (next_tree s) ≡ []) has it.empty,
      subst₂ (λ (s : Schema) (t : Trees). KeepsRows s.tables old.now.trees t) has (sym trees) it.others,
      w.sound,
    )

all_kept : (tables : List Table) (old new : Trees) → KeepsRows tables old new → AllByRecursion (λ t. old t.tree ≡ []) tables → AllByRecursion (λ t. new t.tree ≡ []) tables
all_kept [] old new kept all = tt
all_kept (t ∷ tables) old new kept all = (kept.0 ∙ all.0, all_kept tables old new kept.1 all.1)

-- a new table has no row, and the others have none still
pub makes_next : (before after : Schema) (table : Table) (sql : List ℕ) → IsCreation before sql table after → (old new : State) (count : ℕ) → SeesNoRows before old
    → ExecutesInside 0 sql [] old new (Ok count) → SeesNoRows after new
makes_next before after table sql made old new count sees h =
    let it = creates made old new count sees.schema_is h in
    let next : Table = record table { tree = next_tree before } in
    record {
      schema_is = it.0;
      sound = it.3;
      empty = subst (λ (s : Schema). AllByRecursion (λ t. new.now.trees t.tree ≡ []) s.tables) made.makes
          (each_push (λ (t : Table). new.now.trees t.tree ≡ []) before.tables next (all_kept before.tables old.now.trees new.now.trees it.2 sees.empty) it.1);
    }

-- each text of the list makes the next schema of the one before
pub creation_at : (i : ℕ) (sql : List ℕ) → slice_get creations i ≡ Some sql → (table : Table) × IsCreation (schema_after i) sql table (schema_after (i + 1))
creation_at zero sql is = (new_meta, subst (λ t. IsCreation (schema_after 0) t new_meta (schema_after 1)) (same_Some _ _ is) creates_meta)
creation_at (suc zero) sql is = (new_school, subst (λ t. IsCreation (schema_after 1) t new_school (schema_after 2)) (same_Some _ _ is) creates_school)
creation_at (suc (suc zero)) sql is = (new_child, subst (λ t. IsCreation (schema_after 2) t new_child (schema_after 3)) (same_Some _ _ is) creates_child)
creation_at (suc (suc (suc zero))) sql is = (new_application, subst (λ t. IsCreation (schema_after 3) t new_application (schema_after 4)) (same_Some _ _ is) creates_application)
creation_at (suc (suc (suc (suc zero)))) sql is = (new_place, subst (λ t. IsCreation (schema_after 4) t new_place (schema_after 5)) (same_Some _ _ is) creates_place)
creation_at (suc (suc (suc (suc (suc zero))))) sql is = (new_left_list, subst (λ t. IsCreation (schema_after 5) t new_left_list (schema_after 6)) (same_Some _ _ is) creates_left_list)
creation_at (suc (suc (suc (suc (suc (suc zero)))))) sql is = (new_draw, subst (λ t. IsCreation (schema_after 6) t new_draw (schema_after 7)) (same_Some _ _ is) creates_draw)
creation_at (suc (suc (suc (suc (suc (suc (suc zero))))))) sql is = (new_offer, subst (λ t. IsCreation (schema_after 7) t new_offer (schema_after 8)) (same_Some _ _ is) creates_offer)
creation_at (suc (suc (suc (suc (suc (suc (suc (suc zero)))))))) sql is = (new_lot, subst (λ t. IsCreation (schema_after 8) t new_lot (schema_after 9)) (same_Some _ _ is) creates_lot)
creation_at (suc (suc (suc (suc (suc (suc (suc (suc (suc zero))))))))) sql is = (
  new_imported,
  subst (λ t. IsCreation (schema_after 9) t new_imported (schema_after 10)) (same_Some _ _ is) creates_imported,
)
creation_at (suc (suc (suc (suc (suc (suc (suc (suc (suc (suc zero)))))))))) sql is = (
  new_present,
  subst (λ t. IsCreation (schema_after 10) t new_present (schema_after 11)) (same_Some _ _ is) creates_present,
)
creation_at (suc (suc (suc (suc (suc (suc (suc (suc (suc (suc (suc more))))))))))) sql is = absurd (cc)
