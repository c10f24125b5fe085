-- The register that the next row of an import sees is that with the rows that were new so far.
use Rattle.std.proofs.Common.{◌≡◌, ◌∙◌, ap, sym, refl, cond, Bool, true, false, ℕ, ◌+◌, ◌-◌, List, [], ◌∷◌, length, Some, None, arith}
use Rattle.std.specs.Prelude.{◌||◌, is_some, not, nat_lt, nat_le, ◌&&◌, ◌++◌, if◌then◌else◌}
use Rattle.std.specs.Option.{option_or}
use Rattle.std.specs.Ordering.{nat_cmp, eq_by_cmp}
use Rattle.std.specs.BTreeMap.{is_at}
use Rattle.std.specs.Cmp.{nat_cmp_total, eq_by_cmp_equiv}
use Rattle.std.specs.FinMap.{get, len, len-insert, get-insert, contains_key}
use Rattle.std.proofs.lemmas.Bool.{ltb-true, ltb-false, lt-ltb, le-ltb}
use Rattle.adm_types.specs.Limits.{is_from, is_without_repeat, is_name, is_child_of_size, most_children, most_preferences}
use Rattle.adm_types.specs.Seasons.{lists_end}
use Rattle.adm_types.specs.declared.rows.Row.{Row as ImportRow}
use Rattle.adm_types.specs.declared.commands.Refusal.TheVariants as refusal
use Rattle.adm_table.specs.TableRows.{row_at}
use Rattle.adm_register.specs.State.{State, application_of}
use Rattle.adm_register.specs.Plans.{has_plan}
use Rattle.adm_register.specs.WellFormed.{are_schools, has_schools_of}
use Rattle.adm_commands.specs.Tests.{first_failing}
use Rattle.adm_commands.specs.Commands.AddChild as add_child
use Rattle.adm_commands.specs.Commands.Apply as apply
use Rattle.adm_commands.specs.Commands.Import.{change_of, is_same_as, is_known, row_tests, refusal_of_row, with_row}
use Rattle.adm_register.specs.Change.{after, change_of_child}
use Rattle.adm_commands.proofs.RowTests.{or_next, refusal_of_new}
use Rattle.adm_commands.specs.Beside.{IsBeside}

-- before the first row it is the old register
pub beside_none : (old : State) → IsBeside old [] old
beside_none old = record { season = refl; schools = refl; places = refl; count = omega arith; children = λ number. refl; applications = λ number. refl; imported = λ number. refl }

-- what is at the keys of a map after a new one has a row
abbrev pub IsAtKeys : List (ℕ × ImportRow) → ImportRow → List (ℕ × ImportRow) → Type 0
IsAtKeys added row more = (number : ℕ) → row_at nat_cmp more number ≡ cond (is_at (nat_cmp row.child.no) number) (Some row) (row_at nat_cmp added number)

-- a new row joins those that were new
module _ (old : State) (added : List (ℕ × ImportRow)) (seen : State) (beside : IsBeside old added seen) (row : ImportRow) (more : List (ℕ × ImportRow)) (at : IsAtKeys added row more) where
  flipped : (number : ℕ) → eq_by_cmp nat_cmp number row.child.no ≡ eq_by_cmp nat_cmp row.child.no number
  flipped number = (eq_by_cmp_equiv nat_cmp_total).symm number row.child.no

  -- a table with a row of the new number has it beside what it had
  there : (b : Bool) (number : ℕ) (was here : Bool) → was ≡ (is_some (row_at nat_cmp added number) || here)
      → cond b true was ≡ (is_some (cond b (Some row) (row_at nat_cmp added number)) || here)
  there true number was here same = refl
  there false number was here same = same

  pub one_beside : contains_key seen.children row.child.no ≡ false → length more ≡ length added + 1 → IsBeside old more (with_row seen row)
  unfolding with_row change_of
  one_beside new longer = record {
    season = beside.season;
    schools = beside.schools;
    places = beside.places;
    count =
        let one : len (with_row seen row).children ≡ len seen.children + 1 =
        len-insert nat_cmp_total seen.children row.child.no row.child ∙ ap (λ b. cond b (len seen.children) (len seen.children + 1)) new in
        let count = beside.count in
        omega (arith, one, count, longer);
    children = λ number.
        ap is_some (get-insert nat_cmp_total seen.children row.child.no row.child number)
        ∙ some_if (eq_by_cmp nat_cmp number row.child.no) row.child (get seen.children number)
        ∙ ap (λ b. cond b true (contains_key seen.children number)) (flipped number)
        ∙ there (eq_by_cmp nat_cmp row.child.no number) number (contains_key seen.children number) (contains_key old.children number) (beside.children number)
        ∙ ap (λ o. is_some o || contains_key old.children number) (sym (at number));
    applications = λ number.
        ap is_some (get-insert nat_cmp_total seen.applications row.child.no (application_of row) number)
        ∙ some_if (eq_by_cmp nat_cmp number row.child.no) (application_of row) (get seen.applications number)
        ∙ ap (λ b. cond b true (contains_key seen.applications number)) (flipped number)
        ∙ there (eq_by_cmp nat_cmp row.child.no number) number (contains_key seen.applications number) (contains_key old.applications number) (beside.applications number)
        ∙ ap (λ o. is_some o || contains_key old.applications number) (sym (at number));
    imported = λ number.
        get-insert nat_cmp_total seen.imported row.child.no row number
        ∙ ap (λ b. cond b (Some row) (get seen.imported number)) (flipped number)
        ∙ first (eq_by_cmp nat_cmp row.child.no number) number (beside.imported number)
        ∙ ap (λ o. option_or o (get old.imported number)) (sym (at number));
  }
    where
      some_if : {V : Type 0} (b : Bool) (v : V) (o : _) → is_some (cond b (Some v) o) ≡ cond b true (is_some o)
      some_if true v o = refl
      some_if false v o = refl

      first : (b : Bool) (number : ℕ) → get seen.imported number ≡ option_or (row_at nat_cmp added number) (get old.imported number)
          → cond b (Some row) (get seen.imported number) ≡ option_or (cond b (Some row) (row_at nat_cmp added number)) (get old.imported number)
      first true number same = refl
      first false number same = same

-- a number is below what is left where the sum is below all
pub room_left : (count more most : ℕ) → nat_lt count (most - more) ≡ nat_lt (count + more) most
room_left count more most =
    elim (nat_lt (count + more) most) as (λ b. nat_lt (count + more) most ≡ b → nat_lt count (most - more) ≡ b) [
      | true ↦ λ is. let below = ltb-true (count + more) most is in lt-ltb count (most - more) (omega (arith, below))
      | false ↦ λ is. let above = ltb-false (count + more) most is in le-ltb count (most - more) (omega (arith, above))
    ] refl

-- the first of two is false where neither holds
pub first_false : (a b : Bool) → (a || b) ≡ false → a ≡ false
first_false false b e = refl
first_false true b e = cc

module _ (old : State) (added : List (ℕ × ImportRow)) (seen : State) (beside : IsBeside old added seen) (row : ImportRow) where
  -- the row that is kept for its child
  pub known_beside : is_known seen row ≡ is_same_as (option_or (row_at nat_cmp added row.child.no) (get old.imported row.child.no)) row
  unfolding is_known
  known_beside = ap (λ o. is_same_as o row) (beside.imported row.child.no)

  module _ (new : is_some (row_at nat_cmp added row.child.no) ≡ false) where
    -- the tests of a child that is not among the new rows
    pub add_beside : add_child.tests seen row.child ≡ add_child.tests_with_room (most_children old.season.size - length added) old row.child
    unfolding add_child.tests
    add_beside =
        let child = beside.children row.child.no ∙ ap (λ b. b || contains_key old.children row.child.no) new in
        let few = (λ i. nat_lt (beside.count i) (most_children (beside.season i).size)) ∙ sym (room_left (len old.children) (length added) (most_children old.season.size)) in
        λ i. (not (child i), refusal.ChildKnown) ∷ (is_name row.child.name, refusal.BadText)
        ∷ (is_child_of_size (beside.season i).size row.child, refusal.OutOfRange) ∷ (has_schools_of (beside.schools i) row.child, refusal.UnknownSchool) ∷ (few i, refusal.RegisterFull) ∷ []

    pub apply_beside : apply.further_tests seen (application_of row) ≡ apply.further_tests old (application_of row)
    apply_beside =
        let applied = beside.applications row.child.no ∙ ap (λ b. b || contains_key old.applications row.child.no) new in
        λ i. (not (has_plan (beside.places i) row.child.no), refusal.HasPlan) ∷ (not (applied i), refusal.AlreadyApplied)
        ∷ (nat_le row.day (lists_end (beside.season i)), refusal.ListClosed)
        ∷ (is_from 1 most_preferences (length row.preferences) && is_without_repeat row.preferences, refusal.BadPreferences)
        ∷ (are_schools (beside.schools i) row.preferences, refusal.UnknownSchool) ∷ []

  -- a known row is not refused
  pub known_refusal : is_known seen row ≡ true → refusal_of_row seen row ≡ None
  unfolding refusal_of_row
  known_refusal known = ap (λ b. if b then None else first_failing (row_tests seen row)) known

  -- any other of a child that is there differs
  pub there_refusal : is_known seen row ≡ false → (is_some (row_at nat_cmp added row.child.no) || contains_key old.children row.child.no) ≡ true
      → refusal_of_row seen row ≡ Some refusal.RowDiffers
  unfolding refusal_of_row row_tests
  there_refusal unknown there =
      ap (λ b. if b then None else first_failing (row_tests seen row)) unknown
      ∙ ap (λ b. if not b then first_failing (add_child.tests seen row.child ++ apply.tests (after seen (change_of_child row.child)) (application_of row)) else Some refusal.RowDiffers)
      (beside.children row.child.no ∙ there)

  -- what refuses a child that is not there, or else its application
  pub new_refusal : is_known seen row ≡ false → (is_some (row_at nat_cmp added row.child.no) || contains_key old.children row.child.no) ≡ false
      → refusal_of_row seen row ≡ or_next (first_failing (add_child.tests_with_room (most_children old.season.size - length added) old row.child)) (first_failing (apply.further_tests old (application_of row)))
  new_refusal unknown new =
      let apart = first_false _ _ new in
      refusal_of_new seen row unknown (beside.children row.child.no ∙ new)
      ∙ (λ i. or_next (first_failing (add_beside apart i)) (first_failing (apply_beside apart i)))
