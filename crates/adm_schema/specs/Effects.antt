-- What a statement inside a transaction leaves of the tables.
use Rattle.std.specs.Prelude.{◌≡◌, ◌≢◌, ◌⊎◌, ◌<◌, ℕ, ℤ, pos, List, ◌∷◌, [], ◌++◌, map, take, drop, filter, fold, Bool, true, not, ◌&&◌, IsTrue, IsPermutation}
use Rattle.std.specs.List.{AllByRecursion}
use Rattle.std.specs.Ordering.{is_eq}
use Rattle.sqlite.specs.Order.{Row, column, value_cmp}
use Rattle.sqlite.specs.Table.{Table}
use Rattle.sqlite.specs.Tree.{rowid, without_rowid}
use Rattle.sqlite.specs.Edit.{id_in, have_rowids}
use Rattle.sqlite.specs.Effect.{IsDatabase}
use Rattle.sqlite.specs.Schema.{Schema}
use Rattle.sqlite.specs.Change.{next_tree, KeepsRows}
use Rattle.sqlite.specs.declared.types.Value.TheVariants.{Int}
use Rattle.sqlite.specs.State.{State, HasCleanDisk}
use Rattle.sqlite_rules.specs.Lists.{Has}
use Rattle.adm_schema.specs.Rows.{rows_of}
use Rattle.adm_schema.specs.Schema.{meta}

-- while it is open, it sees these tables
abbrev pub Sees : Schema → State → Type 0
Sees schema s = HasCleanDisk s → IsTrue s.is_open → s.now.schema ≡ schema

-- while it is open, what it sees is a database
abbrev pub SeesDatabase : State → Type 0
SeesDatabase s = HasCleanDisk s → IsTrue s.is_open → IsDatabase s.now

-- it sees a database of these tables, and none has a row
pub record SeesNoRows (schema : Schema) (s : State) : Type 0 where
  pub schema_is : s.now.schema ≡ schema
  pub sound : IsDatabase s.now
  pub empty : AllByRecursion (λ t. s.now.trees t.tree ≡ []) schema.tables

-- the same, while it is open
abbrev pub SeesNone : Schema → State → Type 0
SeesNone schema s = IsTrue s.is_open → SeesNoRows schema s

-- the transaction goes on with the same tables, and each other table keeps its rows
pub record WritesOnly (table : Table) (old new : State) : Type 0 where
  pub was_open : IsTrue old.is_open
  pub is_open : IsTrue new.is_open
  pub schema : new.now.schema ≡ old.now.schema
  pub sound : IsDatabase new.now
  pub others : (t : Table) → Has old.now.schema.tables t → t.tree ≢ table.tree → new.now.trees t.tree ≡ old.now.trees t.tree

-- this table has this row too
pub record AddsRow (table : Table) (row : Row) (old new : State) : Type 0 where
  pub only : WritesOnly table old new
  pub adds : IsPermutation (row ∷ rows_of table old.now.trees) (rows_of table new.now.trees)

-- this table has these rows too
pub record AddsRows (table : Table) (news : List Row) (old new : State) : Type 0 where
  pub only : WritesOnly table old new
  pub adds : IsPermutation (news ++ rows_of table old.now.trees) (rows_of table new.now.trees)

-- after this many writes, or where it was open before, the transaction is open
abbrev pub StaysOpen : ℕ → State → State → Type 0
StaysOpen writes old new = (0 < writes) ⊎ IsTrue old.is_open → IsTrue new.is_open

-- ---- a table whose key is an integer in its first column

-- the number in a row's first column
abbrev pub integer_key : Row → ℤ
integer_key row = id_in (rowid row)

-- the rows, with this one in place of the one of its key
abbrev pub put_in : Row → List Row → List Row
put_in row rows = row ∷ without_rowid (integer_key row) rows

-- the same for each of these rows, one after another
abbrev pub put_each : List Row → List Row → List Row
put_each = fold (λ rows row. put_in row rows)

-- where each row has an integer as its key, this table has the rows that result from the old ones so, in some order, and each has an integer as its key
pub record Turns (table : Table) (change : List Row → List Row) (old new : State) : Type 0 where
  pub only : WritesOnly table old new
  pub rows : IsTrue (have_rowids (rows_of table old.now.trees)) → IsPermutation (change (rows_of table old.now.trees)) (rows_of table new.now.trees)
  pub keyed : IsTrue (have_rowids (rows_of table old.now.trees)) → IsTrue (have_rowids (rows_of table new.now.trees))

-- this table has this row in place of the one of its key
abbrev pub PutsRow : Table → Row → State → State → Type 0
PutsRow table row = Turns table (put_in row)

-- this table has no row of this key
abbrev pub DeletesRow : Table → ℤ → State → State → Type 0
DeletesRow table key = Turns table (without_rowid key)

-- ---- a table whose key is no integer

-- the row begins with these values
abbrev pub begins_with : Row → Row → Bool
begins_with [] row = true
begins_with (v ∷ key) row = is_eq (value_cmp (column row 0) v) && begins_with key (drop 1 row)

-- the rows that do not begin with these values
abbrev pub drop_of : Row → List Row → List Row
drop_of key = filter (λ row. not (begins_with key row))

-- this table has no row that begins with these values
pub record DropsRow (table : Table) (key : Row) (old new : State) : Type 0 where
  pub only : WritesOnly table old new
  pub rows : IsPermutation (drop_of key (rows_of table old.now.trees)) (rows_of table new.now.trees)

-- this table has this row in place of those that begin with these values
pub record ReplacesRow (table : Table) (key row : Row) (old new : State) : Type 0 where
  pub only : WritesOnly table old new
  pub rows : IsPermutation (row ∷ drop_of key (rows_of table old.now.trees)) (rows_of table new.now.trees)

-- ---- the table `meta`

-- a row of it with this count of draws, which is its sixth and last column
abbrev pub with_draws : Row → Row → Row
with_draws count row = take 5 row ++ count

-- each row of it has this count of draws
pub record SetsDraws (count : Row) (old new : State) : Type 0 where
  pub only : WritesOnly meta old new
  pub rows : IsTrue (have_rowids (rows_of meta old.now.trees)) → IsPermutation (map (with_draws count) (rows_of meta old.now.trees)) (rows_of meta new.now.trees)

-- a row of it with the second version, whose number is its second column
abbrev pub with_second : Row → Row
with_second row = take 1 row ++ Int (pos 2) ∷ drop 2 row

-- each row of it has the second version
pub record MarksSecond (old new : State) : Type 0 where
  pub only : WritesOnly meta old new
  pub rows : IsTrue (have_rowids (rows_of meta old.now.trees)) → IsPermutation (map with_second (rows_of meta old.now.trees)) (rows_of meta new.now.trees)

-- the new state has one table more, without rows, and the rows of the others are as they were
pub record AddsTable (before after : Schema) (old new : State) : Type 0 where
  pub was_open : IsTrue old.is_open
  pub is_open : IsTrue new.is_open
  pub schema : new.now.schema ≡ after
  pub sound : IsDatabase new.now
  pub none : new.now.trees (next_tree before) ≡ []
  pub others : KeepsRows before.tables old.now.trees new.now.trees
