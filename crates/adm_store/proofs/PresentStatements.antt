-- What the statements do that write in the table of present schools.
use Rattle.std.proofs.Common.{ℕ, ◌≤◌, pos, [], ◌∷◌, false, Ok, refl, arith}
use Rattle.sqlite.specs.Order.{Row}
use Rattle.sqlite.specs.State.{State, HasCleanDisk, Shown, ExecutesInside}
use Rattle.sqlite_trees.specs.View.{doubt}
use Rattle.adm_types.specs.declared.rows.PresentRow.{PresentRow}
use Rattle.adm_schema.specs.RowTexts.{find_present, delete_present, insert_present}
use Rattle.adm_schema.specs.Schema.{present}
use Rattle.adm_schema.proofs.Listed.{has_present}
use Rattle.adm_schema.proofs.OneFound.{drops_present, no_present, adds_present}
use Rattle.adm_schema.proofs.RowTexts.{finds_present}
use Rattle.adm_rows.specs.Forms.{truth_code}
use Rattle.adm_store.specs.Found.{DeletesFound}
use Rattle.adm_rows.specs.Present.{present_columns, moved_key}
use Rattle.adm_store.specs.Writes.{Adds, Drops, Writes, write_of}
use Rattle.adm_store.proofs.FoundStatements.{found_and_cut, found_none}
use Rattle.adm_store.proofs.LogLemmas.{add_one}

-- the row of a child is found, and deleted
pub drops_child : (old mid new : State) (child : ℕ) (shown : Row) → doubt old.is_clean ≤ doubt mid.is_clean → doubt mid.is_clean ≤ doubt new.is_clean
    → (HasCleanDisk mid → Shown find_present (moved_key child) old mid (shown ∷ []))
    → (HasCleanDisk new → DeletesFound delete_present shown mid new) → Writes (write_of Drops present moved_key (child ∷ []) ∷ []) old new
drops_child old mid new child shown first second search cuts = found_and_cut present has_present refl find_present finds_present.2 (moved_key child) delete_present old mid new shown first second
    (λ k has same number found h. drops_present (pos child) (pos (truth_code false)) k shown old mid new has same number found h) search cuts

-- it is not found, and nothing is deleted
pub drops_nothing : (old new : State) (child : ℕ) → doubt old.is_clean ≤ doubt new.is_clean → (HasCleanDisk new → Shown find_present (moved_key child) old new [])
    → Writes (write_of Drops present moved_key (child ∷ []) ∷ []) old new
drops_nothing old new child later search = found_none present has_present refl find_present finds_present.2 (moved_key child) old new later
    (λ has found. no_present (pos child) (pos (truth_code false)) old new has found) search

-- a row is added
pub adds_present_row : (old new : State) (count : ℕ) (row : PresentRow) → doubt old.is_clean ≤ doubt new.is_clean
    → (HasCleanDisk new → ExecutesInside 0 insert_present (present_columns row) old new (Ok count))
    → Writes (write_of Adds present present_columns (row ∷ []) ∷ []) old new
adds_present_row old new count row later runs = add_one present has_present old new later refl (present_columns row) (λ clean sees.
    let early : HasCleanDisk old = omega (arith, later, clean) in
    let h = runs clean in
    adds_present (pos row.child) (pos (truth_code row.is_imported)) row.school old new count (sees early h.1.was_open) h)
