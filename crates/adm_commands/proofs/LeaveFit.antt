-- What a child that leaves a list changes fits, and is not repeated.
use Rattle.std.proofs.Common.{◌≡◌, ◌∙◌, ap, sym, subst, refl, cond, true, false, ℕ, List, Some, None}
use Rattle.std.specs.Prelude.{is_some, not}
use Rattle.std.specs.FinMap.{get, get-insert}
use Rattle.std.proofs.lemmas.Bool.{false≢true}
use Rattle.adm_lists.proofs.Orders.{tied}
use Rattle.adm_types.specs.declared.rows.Application.{Application}
use Rattle.adm_types.specs.declared.rows.LeftPair.{LeftPair}
use Rattle.adm_register.specs.State.{State}
use Rattle.adm_register.specs.Change.{after}
use Rattle.adm_register.specs.WellFormed.{WellFormed, is_unplanned_at}
use Rattle.adm_register.specs.Wanted.{has_left}
use Rattle.adm_commands.specs.Tests.{first_failing}
use Rattle.adm_types.specs.declared.commands.Refusal.TheVariants as refusal
use Rattle.adm_commands.proofs.Passed.{passed}
use Rattle.adm_register.specs.Waits.{waits, is_waiting}
use Rattle.adm_commands.specs.Commands.LeaveList as leave_list
use Rattle.adm_register.proofs.Maps.{left_cmp-total}
use Rattle.adm_register.proofs.Tidy.{tidy_none, tidy_put}
use Rattle.adm_register.specs.Fits.{Fit}
use Rattle.adm_register.proofs.Fits.{after-keeps}
use Rattle.adm_commands.proofs.Accepted.{draws_stay}
use Rattle.adm_register.proofs.WaitLemmas.{waits_is}

-- who waits has an application that waits
waiting_application : (s : State) (child : ℕ) (school : List ℕ) → is_waiting s child school ≡ true
    → (application : Application) × (get s.applications child ≡ Some application) × (waits s application school ≡ true)
waiting_application s child school waiting =
    elim (get s.applications child) as (λ o. get s.applications child ≡ o → (application : Application) × (get s.applications child ≡ Some application) × (waits s application school ≡ true)) [
      | None ↦ λ there. absurd (false≢true (sym (no_application there) ∙ waiting))
      | Some application ↦ λ there. (application, there, sym (its there) ∙ waiting)
    ] refl
  where
    no_application : get s.applications child ≡ None → is_waiting s child school ≡ false
    no_application there = rw there refl

    its : {application : Application} → get s.applications child ≡ Some application → is_waiting s child school ≡ waits s application school
    its there = rw there refl

pub leave_list-fit : (old : State) (child : ℕ) (school : List ℕ) → WellFormed old → first_failing (leave_list.tests old child school) ≡ None → Fit old (leave_list.change_of child school)
unfolding leave_list.tests leave_list.change_of
leave_list-fit old child school well passes =
    let pass = passed (leave_list.tests old child school) passes in
    let pair : LeftPair = record { child = child; school = school } in
    let found = waiting_application old child school (pass refusal.NotWaiting) in
    let facts = waits_is old well found.0 school found.2 in
    let number = (well.base.applications_fit child found.0 found.1).own_number in
    let free : is_unplanned_at (get old.places child) school ≡ false = ap (λ n. is_unplanned_at (get old.places n) school) (sym number) ∙ facts.no_place in
    record {
      base = record { schools = tt; kept_schools = tt; few_schools = tt; children = tt; few_children = tt; applications = tt };
      places = record { places = tt; kept = λ other row there still. refl; room = well.places.room };
      left = record { left = (record { own_key = refl; child = (pass refusal.UnknownChild); school = (pass refusal.UnknownSchool); no_place = ap not free }, tt); places = tt };
      draws = draws_stay old (leave_list.change_of child school) refl;
      imported = record { each = tt; new_rows = tt };
      tidy = record {
        schools = tidy_none _ _;
        children = tidy_none _ _;
        applications = tidy_none _ _;
        places = tidy_none _ _;
        left = tidy_put _ _ pair;
        draws = tidy_none _ _;
        imported = tidy_none _ _;
      };
    }

-- who left a school does not wait there
pub leave_again : (old new : State) (child : ℕ) (school : List ℕ) → WellFormed old → first_failing (leave_list.tests old child school) ≡ None → new ≡ after old (leave_list.change_of child school)
    → first_failing (leave_list.tests new child school) ≡ None → ⊥
unfolding leave_list.tests leave_list.change_of
leave_again old new child school well first is passes =
    let next = after old (leave_list.change_of child school) in
    let pair : LeftPair = record { child = child; school = school } in
    let tests = subst (λ s. first_failing (leave_list.tests s child school) ≡ None) is passes in
    let found = waiting_application next child school (passed (leave_list.tests next child school) tests refusal.NotWaiting) in
    let well_next : WellFormed next = after-keeps old (leave_list.change_of child school) well (leave_list-fit old child school well first) in
    let number = (well.base.applications_fit child found.0 found.1).own_number in
    let stays : has_left next.left child school ≡ false = ap (λ n. has_left next.left n school) (sym number) ∙ (waits_is next well_next found.0 school found.2).not_left in
    let gone : has_left next.left child school ≡ true = ap is_some (get-insert left_cmp-total old.left pair pair pair ∙ ap (λ b. cond b (Some pair) (get old.left pair)) (tied left_cmp-total pair)) in
    false≢true (sym stays ∙ gone)
