-- The tables of a register's file in its two versions, and the schemas as the tables are made one after another.
use Rattle.std.specs.Prelude.{true, false, [], ◌∷◌, Some, None, codes, List, ℕ, pos}
use Rattle.sqlite.specs.Collation.TheVariants.{Binary}
use Rattle.sqlite.specs.declared.types.Value.TheVariants.{Int}
use Rattle.sqlite.specs.Table.{Table}
use Rattle.sqlite.specs.Schema.{Schema}
use Rattle.sqlite.specs.Kind.TheVariants.{Integer, Text}
use Rattle.sqlite.specs.Term.{op2, col, lit}
use Rattle.sqlite_sql.specs.declared.ops.BinaryOp.TheVariants.{Compare}
use Rattle.sqlite_sql.specs.declared.ops.CompareOp.TheVariants.{Eq}
use Rattle.sqlite_schema.specs.declared.schema.Column.{Column}
use Rattle.sqlite_schema.specs.declared.schema.Index.{Index}
use Rattle.adm_schema.specs.Columns.{column_of, child_columns, application_columns, imported_columns}
use Rattle.adm_schema.specs.declared.version.Version.{Version}
use Rattle.adm_schema.specs.declared.version.Version.TheVariants.{First, Second}

-- a table with no key
abbrev pub table_of : List ℕ → List Column → Table
table_of name columns = record {
  name = name;
  tree = 0;
  columns = columns;
  key = None;
  primary = [];
  uniques = [];
  orders = [];
  checks = [];
  references = [];
  computed = [];
  stamps = record { places = []; terms = []; formats = [] };
  is_counted = false;
}

-- the index that keeps a key's columns apart
abbrev pub index_of : List ℕ → ℕ → ℕ → List ℕ → Index
index_of name tree table columns = record { name = name; tree = tree; table = table; columns = columns; order = record { digits = 0 }; is_unique = true }

-- the one row of the season, whose key is 1, as its text defines it, before it has a tree
abbrev pub new_meta : Table
new_meta = record (table_of (codes "meta") (column_of (codes "one") Integer false ∷ column_of (codes "version") Integer true ∷ column_of (codes "phase") Integer true ∷ column_of (codes "year") Integer true ∷ column_of (codes "holidays") Text true ∷ column_of (codes "draws") Integer true ∷ [])) { key = Some 0; primary = 0 ∷ []; checks = op2 (Compare Eq Binary) (col 1 0) (lit (Int (pos 1))) ∷ [] }

-- schools by their codes, as its text defines it, before it has a tree
abbrev pub new_school : Table
new_school = record (table_of (codes "school") (column_of (codes "code") Text true ∷ column_of (codes "name") Text true ∷ column_of (codes "pan") Integer true ∷ column_of (codes "east") Integer true ∷ column_of (codes "north") Integer true ∷ column_of (codes "criteria") Text true ∷ [])) { primary = 1 ∷ []; uniques = (1 ∷ []) ∷ []; orders = record { digits = 0 } ∷ [] }

-- children by their numbers, as its text defines it, before it has a tree
abbrev pub new_child : Table
new_child = record (table_of (codes "child") child_columns) { key = Some 0; primary = 0 ∷ [] }

-- applications by the child, as its text defines it, before it has a tree
abbrev pub new_application : Table
new_application = record (table_of (codes "application") application_columns) { key = Some 0; primary = 0 ∷ [] }

-- places by the child, as its text defines it, before it has a tree
abbrev pub new_place : Table
new_place = record (table_of (codes "place") (column_of (codes "child") Integer false ∷ column_of (codes "school") Text true ∷ column_of (codes "kind") Integer true ∷ column_of (codes "day") Integer false ∷ column_of (codes "reminded") Integer false ∷ [])) { key = Some 0; primary = 0 ∷ [] }

-- the schools whose waiting lists a child left, as its text defines it, before it has a tree
abbrev pub new_left_list : Table
new_left_list = record (table_of (codes "left_list") (column_of (codes "child") Integer true ∷ column_of (codes "school") Text true ∷ [])) { primary = 1 ∷ 2 ∷ []; uniques = (1 ∷ 2 ∷ []) ∷ []; orders = record { digits = 0 } ∷ [] }

-- draws by their numbers, as its text defines it, before it has a tree
abbrev pub new_draw : Table
new_draw = record (table_of (codes "draw") (column_of (codes "draw") Integer false ∷ column_of (codes "round") Integer true ∷ column_of (codes "school") Text false ∷ column_of (codes "day") Integer true ∷ [])) { key = Some 0; primary = 0 ∷ [] }

-- the outcomes of draws, as its text defines it, before it has a tree
abbrev pub new_offer : Table
new_offer = record (table_of (codes "offer") (column_of (codes "draw") Integer true ∷ column_of (codes "child") Integer true ∷ column_of (codes "school") Text false ∷ column_of (codes "fresh") Integer true ∷ [])) { primary = 1 ∷ 2 ∷ []; uniques = (1 ∷ 2 ∷ []) ∷ []; orders = record { digits = 0 } ∷ [] }

-- the lots of draws, as its text defines it, before it has a tree
abbrev pub new_lot : Table
new_lot = record (table_of (codes "lot") (column_of (codes "draw") Integer true ∷ column_of (codes "school") Text true ∷ column_of (codes "child") Integer true ∷ column_of (codes "lot") Integer true ∷ [])) { primary = 1 ∷ 2 ∷ 3 ∷ []; uniques = (1 ∷ 2 ∷ 3 ∷ []) ∷ (1 ∷ 2 ∷ 4 ∷ []) ∷ []; orders = record { digits = 0 } ∷ record { digits = 0 } ∷ [] }

-- rows that came by an import, as its text defines it, before it has a tree
abbrev pub new_imported : Table
new_imported = record (table_of (codes "imported") imported_columns) { key = Some 0; primary = 0 ∷ [] }

-- the present schools of children and of imported rows, as its text defines it, before it has a tree
abbrev pub new_present : Table
new_present = record (table_of (codes "present") (column_of (codes "child") Integer true ∷ column_of (codes "imported") Integer true ∷ column_of (codes "school") Text true ∷ [])) { primary = 1 ∷ 2 ∷ []; uniques = (1 ∷ 2 ∷ []) ∷ []; orders = record { digits = 0 } ∷ [] }

-- ---- with their trees

-- the table of the season, with one row
abbrev pub meta : Table
meta = new_meta

-- the table of schools, by their codes
abbrev pub school : Table
school = record new_school { tree = 1 }

-- the table of children, by their numbers
abbrev pub child : Table
child = record new_child { tree = 3 }

-- the table of applications, by the child's number
abbrev pub application : Table
application = record new_application { tree = 4 }

-- the table of places, by the child's number
abbrev pub place : Table
place = record new_place { tree = 5 }

-- the table of children and the schools that they left
abbrev pub left_list : Table
left_list = record new_left_list { tree = 6 }

-- the table of draws, by their numbers
abbrev pub draw : Table
draw = record new_draw { tree = 8 }

-- the table of the outcomes of draws
abbrev pub offer : Table
offer = record new_offer { tree = 9 }

-- the table of the lots of draws
abbrev pub lot : Table
lot = record new_lot { tree = 11 }

-- the table of imported rows, by the child's number
abbrev pub imported : Table
imported = record new_imported { tree = 14 }

-- the table of present schools, of children and of imported rows
abbrev pub present : Table
present = record new_present { tree = 15 }

-- the automatic index of `school`: no code is repeated
abbrev pub school_index : Index
school_index = index_of (codes "sqlite_autoindex_school_1") 2 1 (1 ∷ [])

-- the automatic index of `left_list`: no child is repeated at a school
abbrev pub left_list_index : Index
left_list_index = index_of (codes "sqlite_autoindex_left_list_1") 7 6 (1 ∷ 2 ∷ [])

-- the automatic index of `offer`: no child is repeated in a draw
abbrev pub offer_index : Index
offer_index = index_of (codes "sqlite_autoindex_offer_1") 10 9 (1 ∷ 2 ∷ [])

-- the first automatic index of `lot`: no child is repeated at a school in a draw
abbrev pub lot_index_1 : Index
lot_index_1 = index_of (codes "sqlite_autoindex_lot_1") 12 11 (1 ∷ 2 ∷ 3 ∷ [])

-- the second automatic index of `lot`: no lot is repeated at a school in a draw
abbrev pub lot_index_2 : Index
lot_index_2 = index_of (codes "sqlite_autoindex_lot_2") 13 11 (1 ∷ 2 ∷ 4 ∷ [])

-- the automatic index of `present`: no child is repeated among children, nor among imported rows
abbrev pub present_index : Index
present_index = index_of (codes "sqlite_autoindex_present_1") 16 15 (1 ∷ 2 ∷ [])

-- ---- the schemas

-- the schema of a file without a table, an index or a view
abbrev pub no_schema : Schema
no_schema = record { tables = []; indexes = []; views = [] }

abbrev pub with_meta : Schema
with_meta = record { tables = meta ∷ []; indexes = []; views = [] }

abbrev pub with_school : Schema
with_school = record { tables = meta ∷ school ∷ []; indexes = school_index ∷ []; views = [] }

abbrev pub with_child : Schema
with_child = record { tables = meta ∷ school ∷ child ∷ []; indexes = school_index ∷ []; views = [] }

abbrev pub with_application : Schema
with_application = record { tables = meta ∷ school ∷ child ∷ application ∷ []; indexes = school_index ∷ []; views = [] }

abbrev pub with_place : Schema
with_place = record { tables = meta ∷ school ∷ child ∷ application ∷ place ∷ []; indexes = school_index ∷ []; views = [] }

abbrev pub with_left_list : Schema
with_left_list = record { tables = meta ∷ school ∷ child ∷ application ∷ place ∷ left_list ∷ []; indexes = school_index ∷ left_list_index ∷ []; views = [] }

abbrev pub with_draw : Schema
with_draw = record { tables = meta ∷ school ∷ child ∷ application ∷ place ∷ left_list ∷ draw ∷ []; indexes = school_index ∷ left_list_index ∷ []; views = [] }

abbrev pub with_offer : Schema
with_offer = record { tables = meta ∷ school ∷ child ∷ application ∷ place ∷ left_list ∷ draw ∷ offer ∷ []; indexes = school_index ∷ left_list_index ∷ offer_index ∷ []; views = [] }

abbrev pub with_lot : Schema
with_lot = record { tables = meta ∷ school ∷ child ∷ application ∷ place ∷ left_list ∷ draw ∷ offer ∷ lot ∷ []; indexes = school_index ∷ left_list_index ∷ offer_index ∷ lot_index_1 ∷ lot_index_2 ∷ []; views = [] }

-- ---- the versions of the file

-- the tables, and the indexes of their keys, that came after the first version
abbrev pub later_tables : Version → List Table
later_tables First = []
later_tables Second = present ∷ []

-- the indexes that a version has beyond those of version 1
abbrev pub later_indexes : Version → List Index
later_indexes First = []
later_indexes Second = present_index ∷ []

-- the whole schema of a version
abbrev pub schema_of : Version → Schema
schema_of v = record { tables = meta ∷ school ∷ child ∷ application ∷ place ∷ left_list ∷ draw ∷ offer ∷ lot ∷ imported ∷ later_tables v; indexes = school_index ∷ left_list_index ∷ offer_index ∷ lot_index_1 ∷ lot_index_2 ∷ later_indexes v; views = [] }

-- that of the version that is written
abbrev pub register_schema : Schema
register_schema = schema_of Second
