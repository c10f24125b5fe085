-- The rows by which one register differs from another, as they are written.
use Rattle.std.specs.Prelude.{◌≡◌, ℕ, ◌+◌, ◌-◌, pos, Bool, not, List, [], ◌∷◌, length, drop, map}
use Rattle.std.specs.List.{flat_map, list_all}
use Rattle.std.specs.FinMap.{contains_key}
use Rattle.adm_types.specs.Seasons.{SeasonFacts, IsSeason}
use Rattle.adm_types.specs.declared.rows.Child.{Child}
use Rattle.adm_types.specs.declared.rows.Application.{Application}
use Rattle.adm_types.specs.declared.rows.PlaceRow.{PlaceRow}
use Rattle.adm_types.specs.declared.draws.DrawRow.{DrawRow}
use Rattle.adm_draws.specs.Draws.{row_of, offer_rows_of, lot_rows_of}
use Rattle.adm_register.specs.State.{only_season, State as Register}
use Rattle.adm_register.specs.WellFormed.{WellFormed}
use Rattle.adm_register.specs.Extends.{Extends}
use Rattle.adm_register.specs.Difference.{IsDifference}
use Rattle.adm_register.specs.declared.difference.Difference.{Difference}
use Rattle.sqlite.specs.declared.types.Value.TheVariants.{Int, Text}
use Rattle.sqlite.specs.Order.{Row}
use Rattle.sqlite.specs.State.{State}
use Rattle.adm_store.specs.declared.rows.SeasonRow.{SeasonRow}
use Rattle.adm_store.specs.declared.rows.SchoolRow.{SchoolRow}
use Rattle.adm_store.specs.declared.rows.ChildRow.{ChildRow}
use Rattle.adm_store.specs.declared.rows.ApplicationRow.{ApplicationRow}
use Rattle.adm_store.specs.declared.rows.ImportedRow.{ImportedRow}
use Rattle.adm_store.specs.declared.rows.Changes.{Changes}
use Rattle.adm_rows.specs.Forms.{phase_code, version_code, season_row, school_row, child_row, application_row, imported_row, truth_code}
use Rattle.adm_schema.specs.declared.version.Version.TheVariants.{Second}
use Rattle.sqlite.specs.Tree.{Trees}
use Rattle.adm_rows.specs.Present.{present_removed_of, present_added_of}
use Rattle.adm_store.specs.Schools.{replaced_of}
use Rattle.adm_rows.specs.Represents.{RepresentsIn, LeavesOnly, LeavesEither}

-- the rows as they are written
abbrev pub written_season : SeasonRow → Row
written_season r = Int (pos 1) ∷ Int (pos (version_code Second r.size)) ∷ Int (pos (phase_code r.phase)) ∷ Int (pos r.year) ∷ Text r.holidays ∷ Int (pos 0) ∷ []

-- a row of `school`, as its values are written
abbrev pub written_school : SchoolRow → Row
written_school r = Text r.code ∷ Text r.name ∷ Int (pos r.pan) ∷ Int (pos r.east) ∷ Int (pos r.north) ∷ Text r.criteria ∷ []

-- the columns of a child, and then others
abbrev pub HomeRow : Type 0 → Type 0
HomeRow Others = ℕ × (List ℕ × (ℕ × (ℕ × (Bool × (ℕ × (List ℕ × Others))))))

-- the columns of a child as a row, and then others
abbrev pub home_row : {Others : Type 0} → (Others → Row) → HomeRow Others → Row
home_row others r =
    Int (pos r.0) ∷ Text r.1.0 ∷ Int (pos r.1.1.0) ∷ Int (pos r.1.1.1.0) ∷ Int (pos (truth_code r.1.1.1.1.0)) ∷ Int (pos r.1.1.1.1.1.0) ∷ Text r.1.1.1.1.1.1.0 ∷ others r.1.1.1.1.1.1.1

-- the day and the preferences of an application
abbrev pub WishRow : Type 0
WishRow = ℕ × (List ℕ × Unit {0})

-- the day and the preferences of an application as a row
abbrev pub wish_row : WishRow → Row
wish_row r = Int (pos r.0) ∷ Text r.1.0 ∷ []

-- a row of `child`, as its values are written
abbrev pub written_child : ChildRow → Row
written_child r = home_row (λ _. []) r.columns

-- a row of `application`, as its values are written
abbrev pub written_application : ApplicationRow → Row
written_application r = Int (pos r.columns.0) ∷ wish_row r.columns.1

-- a row of `imported`, as its values are written
abbrev pub written_imported : ImportedRow → Row
written_imported r = home_row wish_row r.columns

-- the number of a draw, as the row of `meta` has it
abbrev pub written_count : DrawRow → Row
written_count r = Int (pos r.draw) ∷ []

-- the last of them alone, or none
abbrev pub last_draw : List DrawRow → List DrawRow
last_draw draws = drop (length draws - 1) draws

-- how many rows draws write: theirs, and the row of `meta` where there are any
abbrev pub draw_count : Changes → ℕ
draw_count c = length c.draws + length c.offers + length c.lots + length (last_draw c.draws)

-- the row is that of this season, without a draw
pub record IsRowOf (season : SeasonFacts) (row : SeasonRow) : Type 0 where
  pub season_is : IsSeason season
  pub written : written_season row ≡ season_row Second season 0

-- the trees represent the season of this row, and no other row
abbrev pub RepresentsNew : SeasonRow → Trees → Type 0
RepresentsNew row db = (season : SeasonFacts) → IsRowOf season row → RepresentsIn Second db (only_season season)

-- the child was not there
abbrev pub is_new_child : Register → Child → Bool
is_new_child old child = not (contains_key old.children child.no)

-- the child had no application
abbrev pub is_new_application : Register → Application → Bool
is_new_application old application = not (contains_key old.applications application.child)

-- the child had no place
abbrev pub is_new_place : Register → PlaceRow → Bool
is_new_place old place = not (contains_key old.places place.child)

-- the changes are just the rows of the new register that the old one has not, and the keys of the old one that the new one has not
pub record IsChanges (old new : Register) (changes : Changes) : Type 0 where
  pub difference : Difference
  pub differs : IsDifference old new difference
  pub schools : map written_school changes.schools ≡ map school_row difference.schools
  pub replaced : changes.replaced ≡ replaced_of old.schools difference.schools
  pub children : map written_child changes.children ≡ map child_row difference.children
  pub only_new_children : changes.only_new_children ≡ list_all (is_new_child old) difference.children
  pub applications : map written_application changes.applications ≡ map application_row difference.applications
  pub only_new_applications : changes.only_new_applications ≡ list_all (is_new_application old) difference.applications
  pub places : changes.places ≡ difference.places
  pub only_new_places : changes.only_new_places ≡ list_all (is_new_place old) difference.places
  pub left : changes.left ≡ difference.left
  pub draws : changes.draws ≡ map row_of difference.draws
  pub offers : changes.offers ≡ flat_map offer_rows_of difference.draws
  pub lots : changes.lots ≡ flat_map lot_rows_of difference.draws
  pub imported : map written_imported changes.imported ≡ map imported_row difference.imported
  pub moved : changes.moved ≡ present_removed_of old.children difference.children
  pub present : changes.present ≡ present_added_of old.children difference.children difference.imported
  pub ended : changes.ended ≡ difference.ended
  pub vacated : changes.vacated ≡ difference.vacated

-- the step from the old register to the new one is the change, and the new one is a register
pub record IsStep (old new : Register) (changes : Changes) : Type 0 where
  pub changes_are : IsChanges old new changes
  pub extends : Extends old new
  pub formed : WellFormed new

-- where all that a crash could leave represented the old register, all that it may leave now represents the new one
abbrev pub Commits : Changes → State → State → Type 0
Commits changes before after = (old new : Register) → IsStep old new changes → LeavesOnly old before → LeavesOnly new after

-- where all that a crash could leave represented the old register, each thing that it may leave now represents the old or the new one
abbrev pub CommitsOrNot : Changes → State → State → Type 0
CommitsOrNot changes before after = (old new : Register) → IsStep old new changes → LeavesOnly old before → LeavesEither old new after

-- ---- for a private clause

-- where all that a crash could leave represented a register, this holds of each one to which these changes are the step
abbrev pub AtNext : Changes → State → (Register → Type 0) → Type 0
AtNext changes before P = (old new : Register) → IsStep old new changes → LeavesOnly old before → P new
