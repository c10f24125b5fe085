-- Which of the errors of an open is reported.
use Rattle.std.specs.Prelude.{◌≡◌, ℕ, zero, suc, pos, Bool, true, false, List, [], ◌∷◌, Ok, Err, None, if◌then◌else◌}
use Rattle.sqlite.specs.declared.types.Value.{Value}
use Rattle.sqlite.specs.declared.types.Value.TheVariants.{Int}
use Rattle.sqlite.specs.Order.{Row, column}
use Rattle.sqlite.specs.Effect.{Database, Reads}
use Rattle.sqlite.specs.Listing.{understood, reads_listing, IsSourceOf}
use Rattle.sqlite_resolve.specs.declared.compiled.Compiled.{Compiled}
use Rattle.sqlite_resolve.specs.declared.error.CompileError.{CompileError}
use Rattle.adm_schema.specs.Rows.{rows_of}
use Rattle.adm_schema.specs.declared.version.Version.{Version as FileVersion}
use Rattle.adm_schema.specs.Schema.{meta, schema_of}
use Rattle.adm_schema.specs.Texts.{select_meta}
use Rattle.adm_rows.specs.declared.fault.OpenFault.{OpenFault}
use Rattle.adm_rows.specs.declared.fault.OpenFault.TheVariants.{NotOurs, Version, BadRow}

-- a version that is known
abbrev pub is_known_version : Value → Bool
is_known_version (Int (pos (suc zero))) = true
is_known_version (Int (pos (suc (suc zero)))) = true
is_known_version (Int (pos (suc (suc (suc zero))))) = true
is_known_version other = false

-- what is wrong first with a file that represents no register, by the rows of its table `meta`: there is none; its row names a version that is not known; anything else
abbrev pub first_open_fault : List Row → OpenFault
first_open_fault [] = NotOurs
first_open_fault (cells ∷ []) = if is_known_version (column cells 1) then BadRow else Version
first_open_fault (row ∷ next ∷ rows) = BadRow

-- the text, which `sqlite` understands so, answers these rows
abbrev pub AnswersRows : Database → List ℕ → Compiled → List Row → Type 0
AnswersRows db sql c rows = (source : Database) × (params : Row) × IsSourceOf (reads_listing db.schema sql) db source × Reads c.command source params rows

-- `sqlite` understands the text, and these are the rows that it answers, where it is a query
abbrev pub IsAnswered : Database → List ℕ → List Row → Type 0
IsAnswered db sql rows = (c : Compiled) × (understood db.schema sql ≡ Ok c) × (c.returning ≡ None → AnswersRows db sql c rows)

-- the text is no query that `sqlite` understands, as where a table or a column is missing
abbrev pub IsNotAsked : Database → List ℕ → Type 0
IsNotAsked db sql = (c : Compiled) → understood db.schema sql ≡ Ok c → c.returning ≡ None → ⊥

-- the error is the first that fits, in the order NotOurs, Version, BadRow
pub record IsFirstFault (db : Database) (fault : OpenFault) : Type 0 where
  -- there is no table `meta` with its columns, by their names
  pub no_table : (why : CompileError) → understood db.schema select_meta ≡ Err why → fault ≡ NotOurs
  -- else its rows decide
  pub by_rows : (c : Compiled) → understood db.schema select_meta ≡ Ok c → c.returning ≡ None → (rows : List Row) × AnswersRows db select_meta c rows × (fault ≡ first_open_fault rows)
  -- in a file with the tables of a register these are the rows of its table `meta`
  pub own_rows : (v : FileVersion) → db.schema ≡ schema_of v → fault ≡ first_open_fault (rows_of meta db.trees)
