-- The rows of the tables, as they are read.
use Rattle.std.specs.Prelude.{◌≡◌, ◌<◌, ℕ, List, [], ◌∷◌, length, map}
use Rattle.std.specs.List.{AllByRecursion}
use Rattle.adm_register.specs.declared.register_rows.Rows.{Rows}
use Rattle.sqlite.specs.Order.{Row}
use Rattle.sqlite.specs.State.{State, HasCleanDisk}
use Rattle.adm_schema.specs.declared.version.Version.{Version}
use Rattle.sqlite.specs.Table.{Table}
use Rattle.sqlite.specs.Term.{Term, eval_all}
use Rattle.sqlite.specs.Tree.{Trees}
use Rattle.sqlite_value.specs.declared.keys.Key.{Key}
use Rattle.adm_schema.specs.Queries.{Asks}
use Rattle.adm_schema.specs.Rows.{columns_of}
use Rattle.adm_schema.specs.Schema.{meta, present, schema_of}
use Rattle.adm_schema.specs.declared.version.Version.TheVariants.{First, Second}
use Rattle.adm_types.specs.declared.rows.PresentRow.{PresentRow}
use Rattle.adm_rows.specs.Present.{present_columns}
use Rattle.adm_rows.specs.Forms.{season_row}
use Rattle.std.specs.FinMap.{values}
use Rattle.adm_types.specs.Seasons.{SeasonFacts}
use Rattle.adm_register.specs.State.{State as Register}
use Rattle.adm_rows.specs.Faults.{IsReadAgain, AreReadAgain, IsChildReadAgain, IsImportReadAgain}
use Rattle.adm_rows.specs.Represents.{HasRows, HoldsRegister, written_in, written_tables}

-- in a file of this version the text queries each row of the table, column by column
pub record AsksAll (v : Version) (table : Table) (text : List ℕ) : Type 0 where
  pub project : List Term
  pub order : List (Term × Key)
  pub asks : Asks (schema_of v) text table.tree project order
  pub columns : (row : Row) → eval_all project ([] ∷ row ∷ []) ≡ columns_of table row
  pub few : table.tree < 16

-- on a clean disk, where the connection had the tables of this version, this is so of the trees that it saw
abbrev pub ReadsIn : Version → (Trees → Type 0) → State → State → Type 0
ReadsIn v P old new = HasCleanDisk new → old.now.schema ≡ schema_of v → P old.now.trees

-- the same of each version
abbrev pub Finds : (Trees → Type 0) → State → State → Type 0
Finds P old new = (v : Version) → ReadsIn v P old new

-- and it sees what it saw
abbrev pub SeesTheSameIn : Version → State → State → Type 0
SeesTheSameIn v old new = HasCleanDisk new → old.now.schema ≡ schema_of v → new.now ≡ old.now

abbrev pub SeesTheSame : State → State → Type 0
SeesTheSame old new = (v : Version) → SeesTheSameIn v old new

-- the table has the rows of these values, in some order, and no other row
abbrev pub Holds : {X : Type 0} → Table → (X → Row) → List X → Trees → Type 0
Holds table row_of items = HasRows table (map row_of items)

-- these are the present schools: the rows of their table, and none in a file that has no such table
abbrev pub HoldsPresent : Version → List PresentRow → Trees → Type 0
HoldsPresent First all db = all ≡ []
HoldsPresent Second all db = Holds present present_columns all db

-- each table that was there from the first version on has the rows that are written in it, and no other row
abbrev pub HoldsFirst : Version → Rows → Trees → Type 0
HoldsFirst v rows db = AllByRecursion (λ t. HasRows t (written_in (written_tables v rows) t) db) (schema_of First).tables

-- `meta` has the one row of this version and this season, with so many draws, and no other row
abbrev pub HoldsSeason : Version → SeasonFacts → ℕ → Trees → Type 0
HoldsSeason v season draws = HasRows meta (season_row v season draws ∷ [])

-- the register is of this season, and has so many draws
abbrev pub IsOfSeason : SeasonFacts → ℕ → Register → Type 0
IsOfSeason season draws r = (r.season ≡ season) × (length (values r.draws) ≡ draws)

-- no register of this season, with so many draws, is found
abbrev pub FindsNone : Version → SeasonFacts → ℕ → State → State → Type 0
FindsNone v season draws old new = (r : Register) → IsOfSeason season draws r → ReadsIn v (λ db. ¬ HoldsRegister v db r) old new

-- the same where `meta` names the version, the season and so many draws
abbrev pub FindsNoneNamed : Version → SeasonFacts → ℕ → State → State → Type 0
FindsNoneNamed v season draws old new = (r : Register) → IsOfSeason season draws r → ReadsIn v (λ db. HoldsSeason v season draws db → ¬ HoldsRegister v db r) old new

-- no register at all is found where the tables that were there from the first version on have these rows
abbrev pub FindsNoneWith : Version → Rows → State → State → Type 0
FindsNoneWith v rows old new = (r : Register) → ReadsIn v (λ db. HoldsFirst v rows db → ¬ HoldsRegister v db r) old new

-- each of these is what its row is read as
pub record AreReadBack (rows : Rows) : Type 0 where
  pub schools : AllByRecursion IsReadAgain rows.schools
  pub children : AllByRecursion IsChildReadAgain rows.children
  pub applications : AllByRecursion (λ x. AreReadAgain x.list) rows.applications
  pub imported : AllByRecursion IsImportReadAgain rows.imported
