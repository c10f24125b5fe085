-- The register as lists of rows, and the numbers that are read off them.
use Rattle.std.specs.Prelude.{◌≡◌, ℕ, ◌-◌, List, map, find, Option, None, Some, Bool, count_by, nat_eq, if◌then◌else◌, bytes_eq}
use Rattle.std.specs.List.{flat_map}
use Rattle.std.specs.Option.{option_map}
use Rattle.std.specs.List.Sorted.{IsPermutation}
use Rattle.std.specs.FinMap.{get, values}
use Rattle.adm_types.specs.declared.rows.Place.{Place}
use Rattle.adm_types.specs.declared.draws.Draw.{Draw}
use Rattle.adm_register.specs.declared.register_rows.Rows.{Rows}
use Rattle.adm_draws.specs.Draws.{row_of, offer_rows_of, lot_rows_of}
use Rattle.adm_draws.specs.Draws as draw_rows
use Rattle.adm_types.specs.declared.rows.PlaceRow.{PlaceRow}
use Rattle.adm_register.specs.State.{State}
use Rattle.adm_register.specs.WellFormed.{is_unplanned_at}

-- the rows of a state, each table's in the order of its key
abbrev pub rows_in_order : State → Rows
rows_in_order s = record {
  season = s.season;
  schools = values s.schools;
  children = values s.children;
  applications = values s.applications;
  places = values s.places;
  left = values s.left;
  draws = map row_of (values s.draws);
  offers = flat_map offer_rows_of (values s.draws);
  lots = flat_map lot_rows_of (values s.draws);
  imported = values s.imported;
}

-- these are the rows of the state, in any order
pub record AreRowsOf (rows : Rows) (s : State) : Type 0 where
  pub season : rows.season ≡ s.season
  pub schools : IsPermutation rows.schools (values s.schools)
  pub children : IsPermutation rows.children (values s.children)
  pub applications : IsPermutation rows.applications (values s.applications)
  pub places : IsPermutation rows.places (values s.places)
  pub left : IsPermutation rows.left (values s.left)
  pub draws : draw_rows.AreDrawRowsOf rows.draws rows.offers rows.lots (values s.draws)
  pub imported : IsPermutation rows.imported (values s.imported)

-- the child's place
abbrev pub place_of : State → ℕ → Option Place
place_of s child = option_map (λ row. row.place) (get s.places child)

-- how many places there are at the school
abbrev pub places_at : State → List ℕ → ℕ
places_at s code = count_by (λ row. bytes_eq row.place.school code) (values s.places)

-- the school's admission number less all places there, not below 0
abbrev pub vacancies : State → List ℕ → Option ℕ
vacancies s code = option_map (λ school. school.pan - places_at s code) (get s.schools code)

-- the draw of the round of a number, from 1: none where there was no such round
abbrev pub round_of : State → ℕ → Option Draw
round_of s number = if nat_eq number 0 then None else find (λ draw. nat_eq draw.round number) (values s.draws)

-- ---- for a private clause

-- whether this is a place at the school, which may also be that of a plan or not
abbrev pub is_counted : Bool → List ℕ → PlaceRow → Bool
is_counted with_plans code row = if with_plans then bytes_eq row.place.school code else is_unplanned_at (Some row) code
