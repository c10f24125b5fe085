-- The rows by which one register differs from another.
use Rattle.std.specs.Prelude.{◌≡◌, ◌↔◌, Bool, true, not, List, Some, map, filter}
use Rattle.std.specs.declared.cmp.Ordering.{Ordering}
use Rattle.std.specs.FinMap.{FinMap, get, values, contains_key}
use Rattle.adm_types.specs.declared.rows.School.{School}
use Rattle.adm_types.specs.declared.rows.Child.{Child}
use Rattle.adm_types.specs.declared.rows.Application.{Application}
use Rattle.adm_types.specs.declared.rows.Row.{Row as ImportRow}
use Rattle.adm_types.specs.declared.rows.PlaceRow.{PlaceRow}
use Rattle.adm_types.specs.declared.rows.LeftPair.{LeftPair}
use Rattle.adm_types.specs.declared.draws.Draw.{Draw}
use Rattle.adm_register.specs.State.{State}
use Rattle.adm_register.specs.declared.difference.Difference.{Difference}
use Rattle.adm_table.specs.Same.{is_other, is_same_school, is_same_child, is_same_application, is_same_place, is_same_left, is_same_draw, is_same_import}

-- the list is just the rows of the new map that the old one has not, in the order of their keys
pub record AreNew {K V : Type 0} {R : K → K → Ordering} (key : V → K) (old new : FinMap R V) (rows : List V) : Type 0 where
  pub is_new : V → Bool
  pub decides : (row : V) → get new (key row) ≡ Some row → (is_new row ≡ true) ↔ (get old (key row) ≡ Some row → ⊥)
  pub rows_are : rows ≡ filter is_new (values new)

-- the applications of the old register whose children have none in the new one
abbrev pub applications_ended : State → State → List Application
applications_ended old new = filter (λ (a : Application). not (contains_key new.applications a.child)) (values old.applications)

-- the places of the old register whose children have none in the new one
abbrev pub vacated_places : State → State → List PlaceRow
vacated_places old new = filter (λ (p : PlaceRow). not (contains_key new.places p.child)) (values old.places)

-- the difference is just the rows of the new register that the old one has not, and the applications and the places that ended
pub record IsDifference (old new : State) (difference : Difference) : Type 0 where
  pub schools : AreNew (λ (s : School). s.code) old.schools new.schools difference.schools
  pub children : AreNew (λ (c : Child). c.no) old.children new.children difference.children
  pub applications : AreNew (λ (a : Application). a.child) old.applications new.applications difference.applications
  pub places : AreNew (λ (p : PlaceRow). p.child) old.places new.places difference.places
  pub left : AreNew (λ (p : LeftPair). p) old.left new.left difference.left
  pub draws : AreNew (λ (d : Draw). d.number) old.draws new.draws difference.draws
  pub imported : AreNew (λ (r : ImportRow). r.child.no) old.imported new.imported difference.imported
  pub ended : difference.ended ≡ map (λ (a : Application). a.child) (applications_ended old new)
  pub vacated : difference.vacated ≡ map (λ (p : PlaceRow). p.child) (vacated_places old new)

-- what of a change differs from what the old register has
abbrev pub differing : State → Difference → Difference
differing old change = record {
  schools = filter (λ (s : School). is_other is_same_school (get old.schools s.code) s) change.schools;
  children = filter (λ (c : Child). is_other is_same_child (get old.children c.no) c) change.children;
  applications = filter (λ (a : Application). is_other is_same_application (get old.applications a.child) a) change.applications;
  places = filter (λ (p : PlaceRow). is_other is_same_place (get old.places p.child) p) change.places;
  left = filter (λ (p : LeftPair). is_other is_same_left (get old.left p) p) change.left;
  draws = filter (λ (d : Draw). is_other is_same_draw (get old.draws d.number) d) change.draws;
  imported = filter (λ (r : ImportRow). is_other is_same_import (get old.imported r.child.no) r) change.imported;
  ended = filter (contains_key old.applications) change.ended;
  vacated = filter (contains_key old.places) change.vacated;
}
