-- Which changes of a register make a register.
use Rattle.std.specs.Prelude.{◌≡◌, ⊤, ℕ, ◌≤◌, true, false, ◌||◌, not, List, [], ◌∷◌, map, Some}
use Rattle.std.specs.declared.cmp.Ordering.{Ordering}
use Rattle.std.specs.Ordering.{eq_by_cmp, nat_cmp}
use Rattle.std.specs.List.{AllByRecursion, list_any}
use Rattle.std.specs.List.Sorted.{IsStrictlySortedBy}
use Rattle.std.specs.FinMap.{FinMap, get, len, values, contains_key}
use Rattle.adm_types.specs.Limits.{most_schools, most_children}
use Rattle.adm_types.specs.Seasons.{lists_end}
use Rattle.adm_types.specs.declared.rows.School.{School}
use Rattle.adm_types.specs.declared.rows.Child.{Child}
use Rattle.adm_types.specs.declared.rows.Application.{Application}
use Rattle.adm_types.specs.declared.rows.Row.{Row as ImportRow}
use Rattle.adm_types.specs.declared.rows.PlaceRow.{PlaceRow}
use Rattle.adm_types.specs.declared.rows.LeftPair.{LeftPair}
use Rattle.adm_types.specs.declared.draws.Draw.{Draw}
use Rattle.adm_register.specs.declared.difference.Difference.{Difference}
use Rattle.adm_types.specs.Limits.{code_cmp}
use Rattle.adm_register.specs.State.{State, left_cmp, is_plan}
use Rattle.adm_register.specs.Change.{after}
use Rattle.adm_register.specs.Extends.{IsRaised}
use Rattle.adm_register.specs.Draws.{DrawFits, are_in_order, no_draws, count_draws}
use Rattle.adm_register.specs.WellFormed.{AllRows, has_first_round, places_outside_plans, SchoolFits, ChildFits, ApplicationFits, PlaceFits, LeftPairFits, ImportFits}

-- there are at most so many rows where one was put
abbrev pub FewAfter : {K V : Type 0} {R : K → K → Ordering} → ℕ → FinMap R V → List V → Type 0
FewAfter limit rows [] = ⊤
FewAfter limit rows (row ∷ put) = len rows ≤ limit

-- what is written to the schools, the children and the applications fits the rows after the change; the schools are new, or what they were but for a number that is not smaller
pub record BasePut (old : State) (change : Difference) : Type 0 where
  pub schools : AllByRecursion (λ (s : School). SchoolFits old.season.size s.code s) change.schools
  pub kept_schools : AllByRecursion (λ (s : School). (was : School) → get old.schools s.code ≡ Some was → IsRaised was s) change.schools
  pub few_schools : FewAfter (most_schools old.season.size) (after old change).schools change.schools
  pub children : AllByRecursion (λ (c : Child). ChildFits old.season.size (after old change).schools c.no c) change.children
  pub few_children : FewAfter (most_children old.season.size) (after old change).children change.children
  pub applications : AllByRecursion (λ (a : Application). ApplicationFits (lists_end old.season) (after old change).schools (after old change).children a.child a) change.applications

-- What is written to the places fits the rows after the change. A child that keeps its place keeps its application, if it has one. There is room at each school.
pub record PlacesPut (old : State) (change : Difference) : Type 0 where
  pub places : AllByRecursion (λ (p : PlaceRow). PlaceFits (after old change).schools (after old change).children (after old change).applications (has_first_round (after old change).draws) p.child p) change.places
  pub kept : (number : ℕ) (row : PlaceRow) → get old.places number ≡ Some row → get (after old change).places number ≡ Some row → get (after old change).applications number ≡ get old.applications number
  pub room : AllRows (λ code (school : School). places_outside_plans (after old change).places code ≤ school.pan) (after old change).schools

-- what is written to the left pairs fits the rows after the change, and each place that is written is that of a plan, or at a school that its child has not left
pub record LeftPut (old : State) (change : Difference) : Type 0 where
  pub left : AllByRecursion (λ (p : LeftPair). LeftPairFits (after old change).schools (after old change).children (after old change).places p p) change.left
  pub places : AllByRecursion (λ (p : PlaceRow). (is_plan p.place.state || not (contains_key old.left (record { child = p.child; school = p.place.school }))) ≡ true) change.places

-- the draws that are written fit the rows after the change, and each is the next after those before it
pub record DrawsPut (old : State) (change : Difference) : Type 0 where
  pub each : AllByRecursion (λ (d : Draw). DrawFits (after old change).schools (after old change).children d.number d) change.draws
  pub in_order : are_in_order old.season (count_draws no_draws (values old.draws)) change.draws ≡ true

-- the imported rows that are written fit the rows after the change, and are new
pub record ImportedPut (old : State) (change : Difference) : Type 0 where
  pub each : AllByRecursion (λ (r : ImportRow). ImportFits old.season.size (lists_end old.season) (after old change).schools (after old change).children r.child.no r) change.imported
  pub new_rows : AllByRecursion (λ (r : ImportRow). not (contains_key old.imported r.child.no) ≡ true) change.imported

-- what is written is in the order of its keys, and so is what is deleted; nothing is both written and deleted
pub record IsTidyIn {K V : Type 0} (R : K → K → Ordering) (key : V → K) (cut : List K) (put : List V) : Type 0 where
  pub put_sorted : IsStrictlySortedBy R (map key put)
  pub cut_sorted : IsStrictlySortedBy R cut
  pub apart : AllByRecursion (λ k. list_any (eq_by_cmp R k) (map key put) ≡ false) cut

-- in each table, inserted rows and deleted keys are in the order of the keys, and no key is both inserted and deleted
pub record IsTidy (change : Difference) : Type 0 where
  pub schools : IsTidyIn code_cmp (λ (s : School). s.code) [] change.schools
  pub children : IsTidyIn nat_cmp (λ (c : Child). c.no) [] change.children
  pub applications : IsTidyIn nat_cmp (λ (a : Application). a.child) change.ended change.applications
  pub places : IsTidyIn nat_cmp (λ (p : PlaceRow). p.child) change.vacated change.places
  pub left : IsTidyIn left_cmp (λ (p : LeftPair). p) [] change.left
  pub draws : IsTidyIn nat_cmp (λ (d : Draw). d.number) [] change.draws
  pub imported : IsTidyIn nat_cmp (λ (r : ImportRow). r.child.no) [] change.imported

-- a change whose rows fit
pub record Fit (old : State) (change : Difference) : Type 0 where
  pub base : BasePut old change
  pub places : PlacesPut old change
  pub left : LeftPut old change
  pub draws : DrawsPut old change
  pub imported : ImportedPut old change
  pub tidy : IsTidy change
