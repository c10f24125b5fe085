-- What statements write, one after another, and what they leave before it is committed.
use Rattle.std.specs.Prelude.{◌≡◌, ◌==◌, ℕ, Bool, true, pos, List, [], ◌∷◌, map, ◌++◌, length, fold, sum_by, is_some, Ok, if◌then◌else◌, IsTrue, IsPermutation}
use Rattle.sqlite.specs.Order.{Row}
use Rattle.sqlite.specs.Table.{Table}
use Rattle.sqlite.specs.Edit.{have_rowids, without_all}
use Rattle.sqlite.specs.Effect.{IsDatabase}
use Rattle.sqlite.specs.State.{State, HasCleanDisk, ExecutesInside}
use Rattle.sqlite.specs.declared.types.Value.TheVariants.{Int}
use Rattle.sqlite_rules.specs.Lists.{Has}
use Rattle.adm_schema.specs.Rows.{rows_of}
use Rattle.adm_schema.specs.Effects.{Sees, SeesDatabase, StaysOpen, integer_key, put_each, drop_of, with_draws}
use Rattle.adm_schema.specs.Schema.{meta, school, child, application, place, left_list, draw, offer, lot, imported, present, register_schema}
use Rattle.adm_store.specs.declared.rows.Changes.{Changes}
use Rattle.adm_store.specs.Changes.{written_school, written_child, written_application, written_imported, written_count, last_draw}
use Rattle.adm_rows.specs.Forms.{place_row, left_row}
use Rattle.adm_rows.specs.DrawForms.{draw_row, offer_row, lot_row}
use Rattle.adm_rows.specs.Present.{present_columns, moved_key}
use Rattle.adm_store.specs.Schools.{code_row}

-- rows that are more, rows in place of those of their keys, keys alone, of which no row remains, the first values of rows of which none remains, or counts of draws, each in place of the one before
pub data Kind : Type 0 where
  Adds : Kind
  Puts : Kind
  Cuts : Kind
  Drops : Kind
  Sets : Kind

-- the text ran with these values as its parameters
abbrev pub RunsText : List ℕ → Row → State → State → Type 0
RunsText text row old new = HasCleanDisk new → (count : ℕ) × ExecutesInside 0 text row old new (Ok count)

-- what statements of one kind write in one table, one after another
pub record Write : Type 0 where
  pub kind : Kind
  pub table : Table
  pub rows : List Row

-- the row of a key alone
abbrev pub key_row : ℕ → Row
key_row key = Int (pos key) ∷ []

-- the rows of the table then
abbrev pub changed : Kind → List Row → List Row → List Row
changed Adds news rows = rows ++ news
changed Puts news rows = put_each rows news
changed Cuts news rows = without_all rows (map integer_key news)
changed Drops news rows = fold (λ rows key. drop_of key rows) rows news
changed Sets news rows = fold (λ rows count. map (with_draws count) rows) rows news

-- the rows of any table after one such, and after each of these
abbrev pub turn : Table → List Row → Write → List Row
turn t rows w = if t.tree == w.table.tree then changed w.kind w.rows rows else rows

abbrev pub after_writes : Table → List Write → List Row → List Row
after_writes t writes rows = fold (turn t) rows writes

abbrev pub count_of : List Write → ℕ
count_of = sum_by (λ w. length w.rows)

-- each row has an integer as its key, where the table has such a key
abbrev pub are_keyed : Table → List Row → Bool
are_keyed t rows = if is_some t.key then have_rowids rows else true

-- the transaction goes on with the same tables, whose rows are the old ones after these writes, in some order
pub record Leaves (writes : List Write) (old new : State) : Type 0 where
  pub was_open : IsTrue old.is_open
  pub is_open : IsTrue new.is_open
  pub schema : new.now.schema ≡ old.now.schema
  pub sound : IsDatabase new.now
  pub rows : (t : Table) → Has register_schema.tables t → IsTrue (are_keyed t (rows_of t old.now.trees)) → IsPermutation (after_writes t writes (rows_of t old.now.trees)) (rows_of t new.now.trees)
  pub keyed : (t : Table) → Has register_schema.tables t → IsTrue (are_keyed t (rows_of t old.now.trees)) → IsTrue (are_keyed t (rows_of t new.now.trees))

-- on a clean disk, where the transaction saw the register's tables: it is open if it was or if a row is written, and where it is open it leaves just these writes
abbrev pub Writes : List Write → State → State → Type 0
Writes writes old new = HasCleanDisk new → Sees register_schema old → SeesDatabase old → StaysOpen (count_of writes) old new × (IsTrue new.is_open → Leaves writes old new)

-- what the statements of one kind write for these items
abbrev pub write_of : {X : Type 0} → Kind → Table → (X → Row) → List X → Write
write_of kind table row_of items = record { kind = kind; table = table; rows = map row_of items }

-- the writes of a commit, in their order: of schools, children and applications
abbrev pub base_writes : Changes → List Write
base_writes c =
    write_of Drops school code_row c.replaced
    ∷ write_of Adds school written_school c.schools
    ∷ write_of Puts child written_child c.children
    ∷ write_of Cuts application key_row c.ended
    ∷ write_of Puts application written_application c.applications
    ∷ []

-- of places, and of the schools that children left
abbrev pub place_writes : Changes → List Write
place_writes c =
    write_of Cuts place key_row c.vacated
    ∷ write_of Puts place place_row c.places
    ∷ write_of Adds left_list left_row c.left
    ∷ []

-- of draws, with their count
abbrev pub draw_writes : Changes → List Write
draw_writes c =
    write_of Adds draw draw_row c.draws
    ∷ write_of Adds offer offer_row c.offers
    ∷ write_of Adds lot lot_row c.lots
    ∷ write_of Sets meta written_count (last_draw c.draws)
    ∷ []

-- of imported rows and of present schools
abbrev pub import_writes : Changes → List Write
import_writes c =
    write_of Adds imported written_imported c.imported
    ∷ write_of Drops present moved_key c.moved
    ∷ write_of Adds present present_columns c.present
    ∷ []

-- and all of them
abbrev pub writes_of : Changes → List Write
writes_of c = base_writes c ++ (place_writes c ++ (draw_writes c ++ import_writes c))
