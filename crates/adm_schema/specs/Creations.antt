-- What CREATE TABLE makes of a schema, and the texts that make the register's.
use Rattle.std.specs.Prelude.{◌≡◌, ℕ, get_or, false, List, [], ◌∷◌, codes, Ok}
use Rattle.sqlite.specs.Compile.{table_defined_by}
use Rattle.sqlite.specs.Change.{created}
use Rattle.sqlite.specs.Command.TheVariants.{CreateTable}
use Rattle.sqlite.specs.Does.{lacks_sequence}
use Rattle.sqlite.specs.Listing.{understood}
use Rattle.sqlite.specs.Schema.{Schema}
use Rattle.sqlite.specs.Table.{Table}
use Rattle.sqlite.proofs.Callers.{IsPlain, command_of, statement_of}
use Rattle.adm_schema.specs.declared.version.Version.TheVariants.{First}
use Rattle.adm_schema.specs.Columns.{child_columns, application_columns, imported_columns, create_text}
use Rattle.adm_schema.specs.Schema.{no_schema, with_meta, with_school, with_child, with_application, with_place, with_left_list, with_draw, with_offer, with_lot, schema_of, register_schema}

-- the text makes the second schema of the first, by this table
pub record IsCreation (before : Schema) (sql : List ℕ) (table : Table) (after : Schema) : Type 0 where
  pub command : command_of (understood before sql) ≡ CreateTable
  pub text : statement_of sql (understood before sql) ≡ sql
  pub plain : IsPlain (understood before sql)
  pub defines : table_defined_by sql ≡ Ok table
  pub makes : created before table ≡ after
  pub uncounted : lacks_sequence after ≡ false

abbrev pub create_meta : List ℕ
create_meta = codes "CREATE TABLE meta (one INTEGER PRIMARY KEY CHECK (one = 1), version INTEGER NOT NULL, phase INTEGER NOT NULL, year INTEGER NOT NULL, holidays TEXT NOT NULL, draws INTEGER NOT NULL) STRICT"

abbrev pub create_school : List ℕ
create_school = codes "CREATE TABLE school (code TEXT PRIMARY KEY NOT NULL, name TEXT NOT NULL, pan INTEGER NOT NULL, east INTEGER NOT NULL, north INTEGER NOT NULL, criteria TEXT NOT NULL) STRICT"

abbrev pub create_child : List ℕ
create_child = create_text (codes "child") child_columns

abbrev pub create_application : List ℕ
create_application = create_text (codes "application") application_columns

abbrev pub create_place : List ℕ
create_place = codes "CREATE TABLE place (child INTEGER PRIMARY KEY, school TEXT NOT NULL, kind INTEGER NOT NULL, day INTEGER, reminded INTEGER) STRICT"

abbrev pub create_left_list : List ℕ
create_left_list = codes "CREATE TABLE left_list (child INTEGER NOT NULL, school TEXT NOT NULL, PRIMARY KEY (child, school)) STRICT"

abbrev pub create_draw : List ℕ
create_draw = codes "CREATE TABLE draw (draw INTEGER PRIMARY KEY, round INTEGER NOT NULL, school TEXT, day INTEGER NOT NULL) STRICT"

abbrev pub create_offer : List ℕ
create_offer = codes "CREATE TABLE offer (draw INTEGER NOT NULL, child INTEGER NOT NULL, school TEXT, fresh INTEGER NOT NULL, PRIMARY KEY (draw, child)) STRICT"

abbrev pub create_lot : List ℕ
create_lot = codes "CREATE TABLE lot (draw INTEGER NOT NULL, school TEXT NOT NULL, child INTEGER NOT NULL, lot INTEGER NOT NULL, PRIMARY KEY (draw, school, child), UNIQUE (draw, school, lot)) STRICT"

abbrev pub create_imported : List ℕ
create_imported = create_text (codes "imported") imported_columns

abbrev pub create_present : List ℕ
create_present = codes "CREATE TABLE present (child INTEGER NOT NULL, imported INTEGER NOT NULL, school TEXT NOT NULL, PRIMARY KEY (child, imported)) STRICT"

-- the texts in their order
abbrev pub creations : List (List ℕ)
creations = create_meta ∷ create_school ∷ create_child ∷ create_application ∷ create_place ∷ create_left_list ∷ create_draw ∷ create_offer ∷ create_lot ∷ create_imported ∷ create_present ∷ []

-- the schemas that the texts make, one after another, from the empty one
abbrev pub schemas : List Schema
schemas =
    no_schema ∷ with_meta ∷ with_school ∷ with_child ∷ with_application ∷ with_place ∷ with_left_list ∷ with_draw ∷ with_offer ∷ with_lot ∷ schema_of First
    ∷ register_schema ∷ []

-- the schema once so many of the tables are made
abbrev pub schema_after : ℕ → Schema
schema_after made = get_or schemas made register_schema
