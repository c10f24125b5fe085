-- The register's tables, as the data with which code compares those of a file.
use Rattle.std.specs.Prelude.{ℕ, pos, Bool, List, [], ◌∷◌, Some, map}
use Rattle.std.specs.Borrow.{Bor}
use Rattle.sqlite.specs.Table.{Table}
use Rattle.sqlite.specs.Kind.{Kind}
use Rattle.sqlite_schema.specs.declared.schema.Column.{Column}
use Rattle.sqlite_schema.specs.declared.schema.Stamps.{Stamps}
use Rattle.sqlite_value.specs.declared.keys.Order.{Order}
use Rattle.sqlite.specs.Collation.TheVariants.{Binary}
use Rattle.sqlite.specs.Term.{op2, col, lit}
use Rattle.sqlite.specs.declared.types.Value.TheVariants.{Int}
use Rattle.sqlite_sql.specs.declared.ops.BinaryOp.TheVariants.{Compare}
use Rattle.sqlite_sql.specs.declared.ops.CompareOp.TheVariants.{Eq}
use Rattle.sqlite_schema.specs.declared.schema.Index.{Index}
use Rattle.adm_schema.specs.declared.expected.ExpectedKeys.{ExpectedKeys}
use Rattle.adm_schema.specs.declared.expected.ExpectedKeys.TheVariants.{Rowid, One, Unique}
use Rattle.adm_schema.specs.declared.expected.ExpectedTable.{ExpectedTable}
use Rattle.adm_schema.specs.declared.expected.ExpectedIndex.{ExpectedIndex}
use Rattle.adm_schema.specs.Columns.{column_of}
use Rattle.adm_schema.specs.Schema.{table_of, index_of}

-- the columns of a STRICT table, by name, type and NOT NULL
abbrev pub strict_columns : List (Bor (List ℕ) × Kind × Bool) → List Column
strict_columns = map (λ c. column_of c.0.now c.1 c.2)

abbrev pub places_of : List (Bor (List ℕ)) → List (List ℕ)
places_of = map (λ places. places.now)

-- an order for each key, in which all its columns ascend
abbrev pub ascending : List (Bor (List ℕ)) → List Order
ascending = map (λ _. record { digits = 0 })

-- no default reads the time
abbrev pub no_stamps : Stamps
no_stamps = record { places = []; terms = []; formats = [] }

-- a table whose first column is its rowid
abbrev pub rowid_table : List ℕ → ℕ → List Column → Table
rowid_table name tree columns = record (table_of name columns) { tree = tree; key = Some 0; primary = 0 ∷ [] }

-- a table with these unique keys, of which the first is its primary key
abbrev pub keyed_table : List ℕ → ℕ → List Column → List ℕ → List (List ℕ) → List Order → Table
keyed_table name tree columns primary uniques orders = record (table_of name columns) { tree = tree; primary = primary; uniques = uniques; orders = orders }

-- the same, with the CHECK that it is 1
abbrev pub one_row_table : List ℕ → ℕ → List Column → Table
one_row_table name tree columns = record (rowid_table name tree columns) { checks = op2 (Compare Eq Binary) (col 1 0) (lit (Int (pos 1))) ∷ [] }

-- the table, and the index, that is expected
abbrev pub table_of_keys : ExpectedKeys → List ℕ → ℕ → List Column → Table
table_of_keys Rowid name tree columns = rowid_table name tree columns
table_of_keys One name tree columns = one_row_table name tree columns
table_of_keys (Unique primary uniques) name tree columns = keyed_table name tree columns primary.now (places_of uniques.now) (ascending uniques.now)

abbrev pub table_is : ExpectedTable → Table
table_is t = table_of_keys t.keys t.name.now t.tree (strict_columns t.columns.now)

abbrev pub index_is : ExpectedIndex → Index
index_is i = index_of i.name.now i.tree i.table i.columns.now
