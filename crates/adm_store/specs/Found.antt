-- A row that is found by a search, and deleted or written anew by its rowid.
use Rattle.std.specs.Prelude.{◌≡◌, ℕ, ℤ, List, [], ◌∷◌, ◌++◌, Ok}
use Rattle.sqlite.specs.declared.types.Value.TheVariants.{Int}
use Rattle.sqlite.specs.Order.{Row, column}
use Rattle.sqlite.specs.State.{State, ExecutesInside}
use Rattle.adm_schema.specs.RowTexts.{update_school}
use Rattle.adm_store.specs.declared.rows.SchoolRow.{SchoolRow}
use Rattle.adm_store.specs.Changes.{written_school}

-- by this text one row was deleted, whose rowid is the value in the first column
abbrev pub DeletesFound : List ℕ → Row → State → State → Type 0
DeletesFound cut shown old new = (rowid : ℤ) × (column shown 0 ≡ Int rowid) × ExecutesInside 0 cut (Int rowid ∷ []) old new (Ok 1)

-- one row was written with these values, whose rowid is the value in the first column
abbrev pub WritesFound : Row → SchoolRow → State → State → Type 0
WritesFound shown row old new = (rowid : ℤ) × (column shown 0 ≡ Int rowid) × ExecutesInside 0 update_school (written_school row ++ Int rowid ∷ []) old new (Ok 1)
