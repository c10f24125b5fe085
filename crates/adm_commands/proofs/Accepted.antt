-- What the commands of schools, children, plans and applications put fits the register.
use Rattle.std.proofs.Common.{◌≡◌, ◌∙◌, ◌+◌, ◌≤◌, ap, sym, subst, refl, cond, true, false, arith, ℕ, List, [], ◌∷◌, Some, None}
use Rattle.std.specs.Prelude.{IsTrue, nat_le, nat_eq, is_some, not, ◌&&◌, if◌then◌else◌}
use Rattle.std.specs.Cmp.{nat_cmp_total}
use Rattle.std.specs.Cmp.Lexicographic.{nat_list_cmp_total, pointwise, bytes_decides}
use Rattle.std.specs.List.{AllByRecursion}
use Rattle.std.specs.Ordering.{nat_cmp, eq_by_cmp}
use Rattle.std.specs.FinMap.{get, insert, remove, values, len, len-insert, get-insert, get-remove, contains_key, nat_cmp-IsAntisymmetric}
use borrow.Author.Tests.{ltb-true}
use Rattle.std.proofs.lemmas.Bool.{and_parts, not-true}
use Rattle.std.proofs.lemmas.Option.{none-some}
use Rattle.std.proofs.Math.Bool.{and-false}
use Rattle.adm_lists.proofs.Options.{none_of}
use Rattle.adm_lists.proofs.Orders.{same_key}
use Rattle.adm_lists.proofs.Maps.{not_contains_key-removed}
use Rattle.adm_types.specs.Limits.{first_day, most_schools, most_children}
use Rattle.adm_types.specs.declared.rows.School.{School}
use Rattle.adm_types.specs.declared.rows.Child.{Child}
use Rattle.adm_types.specs.declared.rows.Application.{Application}
use Rattle.adm_types.specs.declared.rows.PlaceRow.{PlaceRow}
use Rattle.adm_types.specs.declared.draws.Draw.{Draw}
use Rattle.adm_types.specs.declared.rows.PlaceState.TheVariants.{Plan}
use Rattle.adm_register.specs.State.{State, is_plan}
use Rattle.adm_register.specs.declared.difference.Difference.{Difference}
use Rattle.adm_register.specs.Change.{no_change, change_of_child, after}
use Rattle.adm_register.specs.Plans.{has_plan, is_plan_row}
use Rattle.adm_commands.specs.KeptByTypes.{KeptBySchool, KeptByChild}
use Rattle.adm_types.specs.declared.commands.Refusal.TheVariants as refusal
use Rattle.adm_commands.proofs.Passed.{passed}
use Rattle.adm_register.specs.WellFormed.{AllRows, WellFormed, ChildFits, has_first_round, places_outside_plans, is_unplanned_at, lists_school}
use Rattle.adm_register.specs.Draws.{DrawFits, are_in_order, no_draws, count_draws}
use Rattle.adm_commands.specs.Tests.{first_failing}
use Rattle.adm_commands.specs.Commands.AddSchool as add_school
use Rattle.adm_commands.specs.Commands.AddChild as add_child
use Rattle.adm_commands.specs.Commands.Amend as amend
use Rattle.adm_commands.specs.Commands.NamePlan as name_plan
use Rattle.adm_commands.specs.Commands.Apply as apply
use Rattle.adm_commands.proofs.Keeps.{len-insert_room}
use Rattle.adm_register.proofs.Maps.{code_cmp-IsAntisymmetric}
use Rattle.adm_commands.proofs.HeldLemmas.{held_le, none_held}
use Rattle.adm_register.proofs.Puts.{AllRows-put_all}
use Rattle.adm_register.proofs.Tidy.{tidy_none, tidy_put, tidy_cut}
use Rattle.adm_register.specs.Fits.{BasePut, PlacesPut, DrawsPut, Fit}

-- a change of places and of what ends affects neither the schools, the children nor the applications
pub base_stays : (old : State) (places : List PlaceRow) (ended : List ℕ) → BasePut old (record no_change { places = places; ended = ended })
base_stays old places ended = record { schools = tt; kept_schools = tt; few_schools = tt; children = tt; few_children = tt; applications = tt }

-- nor one of children of the places
pub places_stay : (old : State) (children : List Child) → WellFormed old → PlacesPut old (record no_change { children = children })
places_stay old children well = record { places = tt; kept = λ number row there still. refl; room = well.places.room }

-- a change without draws does not affect them
abbrev pub draws_stay : (old : State) (change : Difference) → change.draws ≡ [] → DrawsPut old change
draws_stay old change none = record {
  each = subst (AllByRecursion (λ (d : Draw). DrawFits (after old change).schools (after old change).children d.number d)) (sym none) tt;
  in_order = ap (are_in_order old.season (count_draws no_draws (values old.draws))) none;
}

-- no place is held at a school that is not there
pub none_there : (old : State) (code : List ℕ) → WellFormed old → not (contains_key old.schools code) ≡ true → AllRows (λ number row. is_unplanned_at (Some row) code ≡ false) old.places
none_there old code well gone number row there =
    elim (pointwise nat_eq row.place.school code) as (λ b. pointwise nat_eq row.place.school code ≡ b → (b && not (is_plan row.place.state)) ≡ false) [
      | true ↦ λ is. let here = subst (λ c. contains_key old.schools c ≡ true) ((bytes_decides row.place.school code).0 is) (well.places.each number row there).school in
          let none = not-true _ gone in cc (here, none)
      | false ↦ λ is. refl
    ] refl

-- there is room at the schools where one more is written that was not there
pub room_with : (old : State) (school : School) → WellFormed old → not (contains_key old.schools school.code) ≡ true
    → AllRows (λ code (s : School). places_outside_plans old.places code ≤ s.pan) (insert old.schools school.code school)
room_with old school well new =
    let none = none_held school.code old.places (none_there old school.code well new) in
    AllRows-put_all nat_list_cmp_total code_cmp-IsAntisymmetric (λ (s : School). s.code) (λ code (s : School). places_outside_plans old.places code ≤ s.pan) old.schools (school ∷ [])
    (λ code s there still. well.places.room code s there) (omega (arith, none), tt)

pub add_school-fit : (old : State) (school : School) → KeptBySchool school → WellFormed old → first_failing (add_school.tests old school) ≡ None → Fit old (add_school.change_of school)
unfolding add_school.tests add_school.change_of
add_school-fit old school kept well passes =
    let pass = passed (add_school.tests old school) passes in
    record {
      base = record {
        schools = (record { own_code = refl; code_form = kept.code_form; text = kept.text; name = (pass refusal.BadText); in_range = (and_parts _ _ (pass refusal.OutOfRange)).0; of_size = (and_parts _ _ (pass refusal.OutOfRange)).1 }, tt);
        kept_schools = (λ was there. absurd (none-some was (sym (none_of _ (pass refusal.SchoolKnown)) ∙ there)), tt);
        few_schools = len-insert_room nat_list_cmp_total old.schools school.code school (most_schools old.season.size) (ltb-true _ _ (pass refusal.RegisterFull));
        children = tt;
        few_children = tt;
        applications = tt;
      };
      places = record { places = tt; kept = λ number row there still. refl; room = room_with old school well (pass refusal.SchoolKnown) };
      left = record { left = tt; places = tt };
      draws = draws_stay old (add_school.change_of school) refl;
      imported = record { each = tt; new_rows = tt };
      tidy = record {
        schools = tidy_put _ _ school;
        children = tidy_none _ _;
        applications = tidy_none _ _;
        places = tidy_none _ _;
        left = tidy_none _ _;
        draws = tidy_none _ _;
        imported = tidy_none _ _;
      };
    }

-- a child that fits is written
pub put_child-fit : (old : State) (child : Child) → WellFormed old → ChildFits old.season.size old.schools child.no child → len (insert old.children child.no child) ≤ most_children old.season.size → Fit old (change_of_child child)
put_child-fit old child well fits few = record {
  base = record { schools = tt; kept_schools = tt; few_schools = tt; children = (fits, tt); few_children = few; applications = tt };
  places = places_stay old (child ∷ []) well;
  left = record { left = tt; places = tt };
  draws = draws_stay old (change_of_child child) refl;
  imported = record { each = tt; new_rows = tt };
  tidy = record { schools = tidy_none _ _; children = tidy_put _ _ child; applications = tidy_none _ _; places = tidy_none _ _; left = tidy_none _ _; draws = tidy_none _ _; imported = tidy_none _ _ };
}

pub add_child-fit : (old : State) (child : Child) → KeptByChild child → WellFormed old → first_failing (add_child.tests old child) ≡ None → Fit old (change_of_child child)
unfolding add_child.tests
add_child-fit old child kept well passes =
    let pass = passed (add_child.tests old child) passes in
    put_child-fit old child well (record {
      own_number = refl;
      number_form = kept.number_form;
      text = kept.text;
      name = (pass refusal.BadText);
      in_range = (and_parts _ _ (pass refusal.OutOfRange)).0;
      of_size = (and_parts _ _ (pass refusal.OutOfRange)).1;
      flags = kept.flags;
      known = (pass refusal.UnknownSchool);
    })
    (len-insert_room nat_cmp_total old.children child.no child (most_children old.season.size) (ltb-true _ _ (pass refusal.RegisterFull)))

pub amend-fit : (old : State) (child : Child) → KeptByChild child → WellFormed old → first_failing (amend.tests old child) ≡ None → Fit old (change_of_child child)
unfolding amend.tests
amend-fit old child kept well passes =
    let pass = passed (amend.tests old child) passes in
    let same_len = len-insert nat_cmp_total old.children child.no child ∙ ap (λ b. cond b (len old.children) (len old.children + 1)) (pass refusal.UnknownChild) in
    put_child-fit old child well (record {
      own_number = refl;
      number_form = kept.number_form;
      text = kept.text;
      name = (pass refusal.BadText);
      in_range = (and_parts _ _ (pass refusal.OutOfRange)).0;
      of_size = (and_parts _ _ (pass refusal.OutOfRange)).1;
      flags = kept.flags;
      known = (pass refusal.UnknownSchool);
    }) (rw same_len well.base.few_children)

pub name_plan-fit : (old : State) (child : ℕ) (school : List ℕ) → WellFormed old → first_failing (name_plan.tests old child school) ≡ None → Fit old (name_plan.change_of child school)
unfolding name_plan.tests name_plan.change_of
name_plan-fit old child school well passes =
    let pass = passed (name_plan.tests old child school) passes in
    let row : PlaceRow = record { child = child; place = record { school = school; state = Plan } } in
    record {
      base = base_stays old (row ∷ []) (child ∷ []);
      places = record {
        places = (
          record {
            own_number = refl;
            child = (pass refusal.UnknownChild);
            school = (pass refusal.UnknownSchool);
            state = refl;
            entitled = not_contains_key-removed nat_cmp_total old.applications child;
          },
          tt,
        );
        kept = λ number other there still.
            elim (eq_by_cmp nat_cmp number child) as (λ b. eq_by_cmp nat_cmp number child ≡ b → get (remove old.applications child) number ≡ get old.applications number) [
              | true ↦ λ tie.
                  let planned : is_plan_row (Some other) ≡ true = ap is_plan_row (sym still ∙ get-insert nat_cmp_total old.places child row number
                  ∙ ap (λ b. cond b (Some row) (get old.places number)) tie) in
                  let was : is_plan_row (Some other) ≡ false = ap is_plan_row (sym there) ∙ ap (has_plan old.places) (same_key nat_cmp-IsAntisymmetric number child tie)
                  ∙ not-true _ (pass refusal.HasPlan) in
                  cc (planned, was)
              | false ↦ λ tie. get-remove nat_cmp_total old.applications child number ∙ ap (λ b. cond b None (get old.applications number)) tie
            ] refl;
        room = λ code s there.
            let less = held_le code old.places (insert old.places child row) (λ number other now held.
            elim (eq_by_cmp nat_cmp number child) as (λ b. eq_by_cmp nat_cmp number child ≡ b → is_unplanned_at (get old.places number) code ≡ true) [
              | true ↦ λ tie.
                  let it : Some row ≡ Some other = sym (get-insert nat_cmp_total old.places child row number ∙ ap (λ b. cond b (Some row) (get old.places number)) tie) ∙ now in
                  let free : is_unplanned_at (Some other) code ≡ false = ap (λ o. is_unplanned_at o code) (sym it) ∙ and-false (pointwise nat_eq school code) in
                  cc (held, free)
              | false ↦ λ tie.
                  let it : get old.places number ≡ Some other = sym (get-insert nat_cmp_total old.places child row number ∙ ap (λ b. cond b (Some row) (get old.places number)) tie) ∙ now in
                  ap (λ o. is_unplanned_at o code) it ∙ held
            ] refl) in
            let room = well.places.room code s there in
            omega (arith, less, room);
      };
      left = record { left = tt; places = (refl, tt) };
      draws = draws_stay old (name_plan.change_of child school) refl;
      imported = record { each = tt; new_rows = tt };
      tidy = record {
        schools = tidy_none _ _;
        children = tidy_none _ _;
        applications = tidy_cut _ _ child;
        places = tidy_put _ _ row;
        left = tidy_none _ _;
        draws = tidy_none _ _;
        imported = tidy_none _ _;
      };
    }

-- a child without a plan and without an application has no place
pub no_place : (old : State) (child : ℕ) → WellFormed old → has_plan old.places child ≡ false → contains_key old.applications child ≡ false → contains_key old.places child ≡ false
no_place old child well unplanned unlisted =
    elim (get old.places child) as (λ o. get old.places child ≡ o → is_some o ≡ false) [
      | Some row ↦ λ there.
          let fits = well.places.each child row there in
          let other : is_plan row.place.state ≡ false = sym (ap is_plan_row there) ∙ unplanned in
          let none : get old.applications row.child ≡ None = none_of _ (ap not (ap (contains_key old.applications) fits.own_number ∙ unlisted)) in
          let wrong : (has_first_round old.draws && false) ≡ true = sym
          (λ i. if other i then not (is_some (none i)) else has_first_round old.draws && lists_school (none i) row.place.school) ∙ fits.entitled in
          let no = and-false (has_first_round old.draws) in
          cc (wrong, no)
      | None ↦ λ there. refl
    ] refl

pub apply-fit : (old : State) (application : Application) → IsTrue (nat_le first_day application.day) → WellFormed old
    → first_failing (apply.tests old application) ≡ None → Fit old (apply.change_of application)
unfolding apply.tests apply.change_of
apply-fit old application since well passes =
    let pass = passed (apply.tests old application) passes in
    let by = (pass refusal.ListClosed) in
    let preferences = and_parts _ _ (pass refusal.BadPreferences) in
    record {
      base = record {
        schools = tt;
        kept_schools = tt;
        few_schools = tt;
        children = tt;
        few_children = tt;
        applications = (
          record {
            own_number = refl;
            child = (pass refusal.UnknownChild);
            day = λ i. since i && by i;
            list_length = preferences.0;
            without_repeat = preferences.1;
            known = (pass refusal.UnknownSchool);
          },
          tt,
        );
      };
      places = record {
        places = tt;
        kept = λ number row there still.
            elim (eq_by_cmp nat_cmp number application.child) as (λ b. eq_by_cmp nat_cmp number application.child ≡ b
            → get (insert old.applications application.child application) number ≡ get old.applications number) [
              | true ↦ λ tie.
                  let none = ap (contains_key old.places) (same_key nat_cmp-IsAntisymmetric number application.child tie)
                  ∙ no_place old application.child well (not-true _ (pass refusal.HasPlan)) (not-true _ (pass refusal.AlreadyApplied)) in
                  let here = ap is_some there in
                  cc (none, here)
              | false ↦ λ tie. get-insert nat_cmp_total old.applications application.child application number ∙ ap (λ b. cond b (Some application) (get old.applications number)) tie
            ] refl;
        room = well.places.room;
      };
      left = record { left = tt; places = tt };
      draws = draws_stay old (apply.change_of application) refl;
      imported = record { each = tt; new_rows = tt };
      tidy = record {
        schools = tidy_none _ _;
        children = tidy_none _ _;
        applications = tidy_put _ _ application;
        places = tidy_none _ _;
        left = tidy_none _ _;
        draws = tidy_none _ _;
        imported = tidy_none _ _;
      };
    }
