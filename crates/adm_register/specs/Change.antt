-- A change of the rows, as data: what is written to each table, and what is deleted.
use Rattle.std.specs.Prelude.{List, [], ◌∷◌}
use Rattle.std.specs.declared.cmp.Ordering.{Ordering}
use Rattle.std.specs.FinMap.{FinMap, insert, remove}
use Rattle.adm_types.specs.declared.rows.School.{School}
use Rattle.adm_types.specs.declared.rows.Child.{Child}
use Rattle.adm_types.specs.declared.rows.Application.{Application}
use Rattle.adm_types.specs.declared.rows.Row.{Row as ImportRow}
use Rattle.adm_types.specs.declared.rows.PlaceRow.{PlaceRow}
use Rattle.adm_types.specs.declared.rows.LeftPair.{LeftPair}
use Rattle.adm_types.specs.declared.draws.Draw.{Draw}
use Rattle.adm_register.specs.declared.difference.Difference.{Difference}
use Rattle.adm_register.specs.State.{State}

-- with these rows put, each at its own key
abbrev pub put_all : {K V : Type 0} {R : K → K → Ordering} → (V → K) → FinMap R V → List V → FinMap R V
put_all key rows [] = rows
put_all key rows (row ∷ more) = put_all key (insert rows (key row) row) more

-- without the rows of these keys
abbrev pub cut_all : {K V : Type 0} {R : K → K → Ordering} → FinMap R V → List K → FinMap R V
cut_all rows [] = rows
cut_all rows (key ∷ more) = cut_all (remove rows key) more

-- nothing is written and nothing is deleted
abbrev pub no_change : Difference
no_change = record { schools = []; children = []; applications = []; places = []; left = []; draws = []; imported = []; ended = []; vacated = [] }

-- a child's data are written, in place of those that were there
abbrev pub change_of_child : Child → Difference
change_of_child child = record no_change { children = child ∷ [] }

-- the state after the change: in each table rows are deleted before rows are written
abbrev pub after : State → Difference → State
after old change = record {
  season = old.season;
  schools = put_all (λ (s : School). s.code) old.schools change.schools;
  children = put_all (λ (c : Child). c.no) old.children change.children;
  applications = put_all (λ (a : Application). a.child) (cut_all old.applications change.ended) change.applications;
  places = put_all (λ (p : PlaceRow). p.child) (cut_all old.places change.vacated) change.places;
  left = put_all (λ (p : LeftPair). p) old.left change.left;
  draws = put_all (λ (d : Draw). d.number) old.draws change.draws;
  imported = put_all (λ (r : ImportRow). r.child.no) old.imported change.imported;
}
