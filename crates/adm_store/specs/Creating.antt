-- What the making of a table leaves.
use Rattle.std.specs.Prelude.{ℕ, List}
use Rattle.sqlite.specs.Schema.{Schema}
use Rattle.sqlite.specs.State.{State}
use Rattle.sqlite.specs.Table.{Table}
use Rattle.adm_schema.specs.Creations.{IsCreation}
use Rattle.adm_schema.specs.Effects.{SeesNone, SeesNoRows}

-- where the text makes one schema of another by a table, and the connection saw the one without rows, it sees the other without rows
abbrev pub MakesATable : List ℕ → State → State → Type 0
MakesATable text old new = (before after : Schema) (table : Table) → IsCreation before text table after → SeesNone before old → SeesNoRows after new
