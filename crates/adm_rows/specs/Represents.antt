-- When the trees of a file represent a register, and what a crash may leave.
use Rattle.std.specs.Prelude.{◌≡◌, ◌==◌, ◌⊎◌, List, [], ◌∷◌, length, map, not, Bool, true, if◌then◌else◌, IsPermutation, IsTrue}
use Rattle.std.specs.List.{list_all}
use Rattle.adm_types.specs.Children.{presents_of}
use Rattle.adm_types.specs.Criteria.{came_later}
use Rattle.adm_types.specs.declared.rows.School.{School}
use Rattle.adm_types.specs.Seasons.{SeasonFacts}
use Rattle.adm_types.specs.declared.seasons.Size.{Size}
use Rattle.adm_types.specs.declared.seasons.Size.TheVariants.{Standard}
use Rattle.adm_register.specs.State.{only_season, State as Register}
use Rattle.adm_register.specs.Rows.{rows_in_order}
use Rattle.adm_register.specs.WellFormed.{WellFormed}
use Rattle.adm_register.specs.declared.register_rows.Rows.{Rows}
use Rattle.adm_schema.specs.declared.version.Version.{Version}
use Rattle.adm_schema.specs.declared.version.Version.TheVariants.{First, Second}
use Rattle.sqlite.specs.Table.{Table}
use Rattle.sqlite.specs.Order.{Row}
use Rattle.sqlite.specs.Tree.{Trees}
use Rattle.sqlite.specs.State.{State, HasCleanDisk}
use Rattle.sqlite_catalog.specs.Listing.{IsSound}
use Rattle.sqlite_rules.specs.Lists.{Has}
use Rattle.adm_schema.specs.Rows.{rows_of}
use Rattle.adm_schema.specs.Schema.{meta, school, child, application, place, left_list, draw, offer, lot, imported, present, no_schema, schema_of}
use Rattle.adm_rows.specs.Forms.{season_row, school_row, child_row, application_row, place_row, left_row, imported_row}
use Rattle.adm_rows.specs.DrawForms.{draw_row, offer_row, lot_row}
use Rattle.adm_rows.specs.Present.{present_columns}

-- as after a start: on a clean disk the connection is open
abbrev pub IsStarted : State → Type 0
IsStarted s = HasCleanDisk s → IsTrue s.is_open

-- the table has these rows, in some order, and no other row
abbrev pub HasRows : Table → List Row → Trees → Type 0
HasRows table rows db = IsPermutation rows (rows_of table db)

-- the tables, and what is written in each; the row of `meta` counts the draws, and so has the number of the last one, as they are numbered from 1
abbrev pub written_tables : Version → Rows → List (Table × List Row)
written_tables v rows =
    (meta, season_row v rows.season (length rows.draws) ∷ [])
    ∷ (school, map school_row rows.schools)
    ∷ (child, map child_row rows.children)
    ∷ (application, map application_row rows.applications)
    ∷ (place, map place_row rows.places)
    ∷ (left_list, map left_row rows.left)
    ∷ (draw, map draw_row rows.draws)
    ∷ (offer, map offer_row rows.offers)
    ∷ (lot, map lot_row rows.lots)
    ∷ (imported, map imported_row rows.imported)
    ∷ (present, map present_columns (presents_of rows.children rows.imported))
    ∷ []

-- what is written in a table, which is nothing where it is none of these
abbrev pub written_in : List (Table × List Row) → Table → List Row
written_in [] t = []
written_in (it ∷ more) t = if t.tree == it.0.tree then it.1 else written_in more t

-- whether no criterion of the school came with the second version
abbrev pub fits_first_version : School → Bool
fits_first_version school = list_all (λ criterion. not (came_later criterion)) school.criteria

-- what a file of this version can hold: one of the first has neither the criteria of the second nor present schools
abbrev pub IsSaidIn : Version → Rows → Type 0
IsSaidIn First rows = (list_all fits_first_version rows.schools ≡ true) × (presents_of rows.children rows.imported ≡ [])
IsSaidIn Second rows = Unit {0}

-- the sizes that a file of this version can name: one of the first the standard size alone
abbrev pub IsSizedIn : Version → Size → Type 0
IsSizedIn First size = size ≡ Standard
IsSizedIn Second size = Unit {0}

-- each table of this version has the rows that are written in it, and no other row
pub record HoldsRows (v : Version) (db : Trees) (rows : Rows) : Type 0 where
  pub each : (t : Table) → Has (schema_of v).tables t → HasRows t (written_in (written_tables v rows) t) db
  pub said : IsSaidIn v rows
  pub sized : IsSizedIn v rows.season.size

-- the tables hold the rows of the register, and no other row
pub record HoldsRegister (v : Version) (db : Trees) (r : Register) : Type 0 where
  pub rows : HoldsRows v db (rows_in_order r)
  pub formed : WellFormed r

-- the trees are a database of the tables of this version, which hold the register's rows
pub record RepresentsIn (v : Version) (db : Trees) (r : Register) : Type 0 where
  pub sound : IsSound (schema_of v) db
  pub holds : HoldsRegister v db r

-- so they are in the version that is written
abbrev pub RepresentsNow : Trees → Register → Type 0
RepresentsNow = RepresentsIn Second

-- so they are in some version
pub record Represents (db : Trees) (r : Register) : Type 0 where
  pub version : Version
  pub stands : RepresentsIn version db r

-- a file represents at most one register
abbrev pub OneRegister : Type 0
OneRegister = (db : Trees) → (r s : Register) → Represents db r → Represents db s → r ≡ s

-- all that a crash may leave represents the register, in this version
abbrev pub LeavesAll : Version → Register → State → Type 0
LeavesAll v r s = HasCleanDisk s → (db : Trees) → s.may_leave db → RepresentsIn v db r

-- the same in the version that is written
abbrev pub LeavesOnly : Register → State → Type 0
LeavesOnly r s = HasCleanDisk s → (db : Trees) → s.may_leave db → RepresentsIn Second db r

-- each thing that a crash may leave represents one of the two
abbrev pub LeavesEither : Register → Register → State → Type 0
LeavesEither old new s = HasCleanDisk s → (db : Trees) → s.may_leave db → RepresentsIn Second db old ⊎ RepresentsIn Second db new

-- a crash leaves what it could leave before, or, where there was no table, index or view, the new register of the season
abbrev pub LeavesOldOrNew : SeasonFacts → State → State → Type 0
LeavesOldOrNew season old new = HasCleanDisk new → (db : Trees) → new.may_leave db → old.may_leave db ⊎ ((old.now.schema ≡ no_schema) × RepresentsIn Second db (only_season season))

-- the trees represent no register
abbrev pub RepresentsNone : Trees → Type 0
RepresentsNone db = (r : Register) → Represents db r → ⊥

-- nothing that a crash may leave represents a register
abbrev pub LeavesNone : State → Type 0
LeavesNone s = HasCleanDisk s → (db : Trees) → s.may_leave db → RepresentsNone db
