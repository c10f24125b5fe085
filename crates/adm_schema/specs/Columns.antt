-- The columns of tables, by the list of the fields that they hold, and the texts of SQL and the terms that follow from columns.
use Rattle.std.specs.Prelude.{ℕ, suc, ◌*◌, Bool, true, false, List, [], ◌∷◌, ◌++◌, map, length, codes}
use Rattle.std.specs.List.{flat_map}
use Rattle.std.specs.Fmt.{digits_onto}
use Rattle.sqlite.specs.declared.types.Value.TheVariants.{Null}
use Rattle.sqlite.specs.Collation.TheVariants.{Binary}
use Rattle.sqlite.specs.Kind.{Kind}
use Rattle.sqlite.specs.Kind.TheVariants.{Integer, Text}
use Rattle.sqlite.specs.Table.{Table}
use Rattle.sqlite.specs.Term.{Term, col, lit}
use Rattle.sqlite_schema.specs.declared.schema.Column.{Column}
use Rattle.adm_fields.specs.Lists.{Format, application_fields}
use Rattle.adm_fields.specs.Lists as fields

-- a column of a STRICT table, and whether it is NOT NULL
abbrev pub column_of : List ℕ → Kind → Bool → Column
column_of name kind not_null = record { name = name; kind = kind; is_strict = true; not_null = not_null; default = Null; collation = Binary }

-- A field is a column of its name: a number or a truth value is an integer, and all else a text. The number of a child is the key, which SQLite keeps from being NULL.
abbrev pub columns : Format (λ _. Kind × Bool) (λ _. List Column)
columns = record {
  field = λ name otherwise kind others. column_of name kind.0 kind.1 ∷ others;
  no_more = [];
  a_child = (Integer, false);
  a_code_or_none = (Text, false);
  a_text = (Text, true);
  a_number = (Integer, true);
  a_truth = (Integer, true);
  a_day = (Integer, true);
  some_flags = (Integer, true);
  some_codes = (Text, true);
}

-- the columns of the table `child`, one for each field
abbrev pub child_columns : List Column
child_columns = fields.child_columns columns (Text, true)

-- the columns of the table `application`, one for each field
abbrev pub application_columns : List Column
application_columns = application_fields columns

-- the columns of the table `imported`, one for each field
abbrev pub imported_columns : List Column
imported_columns = fields.import_columns columns (Text, true)

-- ---- the texts of SQL, over any columns of which the first is the key

-- with a comma and a space between each two
abbrev pub listed : List (List ℕ) → List ℕ
listed [] = []
listed (item ∷ []) = item
listed (item ∷ next ∷ items) = item ++ codes ", " ++ listed (next ∷ items)

-- the names of columns, with a comma and a space between each two
abbrev pub names : List Column → List ℕ
names columns = listed (map (λ c. c.name) columns)

abbrev pub type_name : Kind → List ℕ
type_name Text = codes "TEXT"
type_name other = codes "INTEGER"

abbrev pub defined : List Column → List (List ℕ)
defined [] = []
defined (key ∷ columns) = (key.name ++ codes " INTEGER PRIMARY KEY") ∷ map (λ c. c.name ++ codes " " ++ type_name c.kind ++ codes " NOT NULL") columns

abbrev pub create_text : List ℕ → List Column → List ℕ
create_text table columns = codes "CREATE TABLE " ++ table ++ codes " (" ++ listed (defined columns) ++ codes ") STRICT"

-- the places of columns, or of parameters, counted on from this one
abbrev pub places_from : ℕ → List Column → List ℕ
places_from at [] = []
places_from at (column ∷ columns) = at ∷ places_from (suc at) columns

-- a number in decimal, as a text that computes
abbrev pub number_text : ℕ → List ℕ
number_text n = digits_onto 64 10 false n []

-- the places of the rows that a text writes: of one, and of eight
abbrev pub one_row : List ℕ
one_row = 0 ∷ []

abbrev pub eight_rows : List ℕ
eight_rows = 0 ∷ 1 ∷ 2 ∷ 3 ∷ 4 ∷ 5 ∷ 6 ∷ 7 ∷ []

-- the parameters of the row at a place, of rows of these columns
abbrev pub row_text : List Column → ℕ → List ℕ
row_text columns at = codes "(" ++ listed (map (λ n. codes "?" ++ number_text n) (places_from (suc (at * length columns)) columns)) ++ codes ")"

-- what writes the rows at these places, whose columns are the parameters, one row after another, after the words that say how
abbrev pub values_text : List ℕ → Table → List ℕ → List ℕ
values_text how table rows = how ++ table.name ++ codes " (" ++ names table.columns ++ codes ") VALUES " ++ listed (map (row_text table.columns) rows)

-- rows that are new
abbrev pub insert_text : Table → List ℕ → List ℕ
insert_text = values_text (codes "INSERT INTO ")

-- rows in place of those of their keys
abbrev pub put_text : Table → List ℕ → List ℕ
put_text = values_text (codes "INSERT OR REPLACE INTO ")

-- the rows whose column of this name is the parameter
abbrev pub delete_text : Table → List ℕ → List ℕ
delete_text table name = codes "DELETE FROM " ++ table.name ++ codes " WHERE " ++ name ++ codes " = ?1"

-- all rows, column by column
abbrev pub select_text : Table → List ℕ
select_text table = codes "SELECT " ++ names table.columns ++ codes " FROM " ++ table.name

-- ---- what they mean

-- the row at a place as it is given to a table whose key is the rowid: the key goes to the rowid's place, and its own column is NULL
abbrev pub keyed_at : List Column → ℕ → List Term
keyed_at [] at = []
keyed_at (key ∷ columns) at = col 0 (at * suc (length columns)) ∷ lit Null ∷ map (λ n. col 0 n) (places_from (suc (at * suc (length columns))) columns)

-- the rows at these places as they are given to it
abbrev pub given_terms : List Column → List ℕ → List Term
given_terms columns rows = flat_map (keyed_at columns) rows

-- the row at a place as it is given to a table whose rowid is no column
abbrev pub added_at : List Column → ℕ → List Term
added_at columns at = lit Null ∷ map (λ n. col 0 n) (places_from (at * length columns) columns)

-- the rows at these places as they are given to it
abbrev pub added_terms : List Column → List ℕ → List Term
added_terms columns rows = flat_map (added_at columns) rows

-- each column of a table whose rowid is no column
abbrev pub column_terms : List Column → List Term
column_terms columns = map (λ n. col 1 n) (places_from 1 columns)

-- the rowid, which is the key, and then each column
abbrev pub shown_terms : List Column → List Term
shown_terms [] = []
shown_terms (key ∷ columns) = col 1 0 ∷ map (λ n. col 1 n) (places_from 2 columns)
