-- What the commands of places show of what they change: plans, answers to offers, reminders, left lists.
use Rattle.std.proofs.Common.{◌≡◌, ◌∙◌, ap, subst, refl, Bool, true, false, ℕ, List, [], Some, None}
use Rattle.std.specs.Prelude.{is_some, nat_eq, Option, if◌then◌else◌}
use Rattle.std.specs.Cmp.{nat_cmp_total}
use Rattle.std.specs.Cmp.Lexicographic.{pointwise, bytes_decides}
use Rattle.std.specs.FinMap.{get, insert}
use Rattle.adm_types.specs.declared.commands.Command.TheVariants.{NamePlan, Accept, Decline, Remind, Lapse, LeaveList}
use Rattle.adm_types.specs.declared.rows.Place.{Place}
use Rattle.adm_types.specs.declared.rows.PlaceState.TheVariants.{Offered, Accepted, Plan}
use Rattle.adm_register.specs.State.{State}
use Rattle.adm_register.specs.Change.{after}
use Rattle.adm_register.specs.Plans.{is_plan_row}
use Rattle.adm_register.specs.WellFormed.{is_unplanned_at}
use Rattle.adm_commands.specs.Tests.{first_failing}
use Rattle.adm_types.specs.declared.commands.Refusal.TheVariants as refusal
use Rattle.adm_commands.proofs.Passed.{passed}
use Rattle.adm_commands.specs.Commands.NamePlan as name_plan
use Rattle.adm_commands.specs.Commands.Accept as accept
use Rattle.adm_commands.specs.Commands.Decline as decline
use Rattle.adm_commands.specs.Commands.Remind as remind
use Rattle.adm_commands.specs.Commands.Lapse as lapse
use Rattle.adm_commands.specs.Commands.LeaveList as leave_list
use Rattle.adm_commands.specs.Offered.{offer_at, offer_days, is_reminded}
use Rattle.adm_commands.proofs.Accepted.{name_plan-fit}
use Rattle.adm_commands.proofs.LeaveFit.{leave_list-fit, leave_again}
use Rattle.adm_commands.proofs.OffersFit.{accept-fit, decline-fit, remind-fit, lapse-fit}
use Rattle.adm_commands.proofs.PutAgain.{get-insert_same, gone, both, both_false}
use Rattle.adm_commands.proofs.Shows.{Shows, shows_only, no_row}

-- a place that is put at a child is what the child has
has_put : (old : State) (child : ℕ) (place : Place) → get (insert old.places child (record { child = child; place = place })) child ≡ Some (record { child = child; place = place })
has_put old child place = get-insert_same nat_cmp_total old.places child (record { child = child; place = place })

pub name_plan_shows : (child : ℕ) (school : List ℕ) → Shows (NamePlan child school)
unfolding name_plan.tests name_plan.change_of
name_plan_shows child school = shows_only (NamePlan child school) (λ old. name_plan.change_of child school) (record {
  done = λ old. (refl, refl);
  is = λ old change reply done. done;
  fits = λ old kept well accepted. name_plan-fit old child school well (no_row _ accepted);
  again = λ old well first passes.
      let unplanned = (passed (name_plan.tests (after old (name_plan.change_of child school)) child school) (no_row _ passes) refusal.HasPlan) in
      absurd (both (ap is_plan_row (has_put old child (record { school = school; state = Plan }))) unplanned);
  no_draw = λ old. refl;
  no_import = λ old. refl;
})

pub accept_shows : (child : ℕ) (school : List ℕ) → Shows (Accept child school)
unfolding accept.tests accept.change_of
accept_shows child school = shows_only (Accept child school) (λ old. accept.change_of child school) (record {
  done = λ old. (refl, refl);
  is = λ old change reply done. done;
  fits = λ old kept well accepted. accept-fit old child school well (no_row _ accepted);
  again = λ old well first passes.
      let offered = (passed (accept.tests (after old (accept.change_of child school)) child school) (no_row _ passes) refusal.NotOffered) in
      let accepted = ap (λ o. is_some (offer_at o school)) (has_put old child (record { school = school; state = Accepted })) in
      absurd (both_false offered (accepted ∙ none_accepted (pointwise nat_eq school school)));
  no_draw = λ old. refl;
  no_import = λ old. refl;
})
  where
    none_accepted : (b : Bool) → is_some (if b then offer_days Accepted else None) ≡ false
    none_accepted true = refl
    none_accepted false = refl

pub decline_shows : (child : ℕ) (school : List ℕ) → Shows (Decline child school)
unfolding decline.tests decline.change_of
decline_shows child school = shows_only (Decline child school) (λ old. decline.change_of child school) (record {
  done = λ old. (refl, refl);
  is = λ old change reply done. done;
  fits = λ old kept well accepted. decline-fit old child school well (no_row _ accepted);
  again = λ old well first passes.
      let held = (passed (decline.tests (after old (decline.change_of child school)) child school) (no_row _ passes) refusal.NotOffered) in
      absurd (both_false held (ap (λ o. is_unplanned_at o school) (gone nat_cmp_total old.places child)));
  no_draw = λ old. refl;
  no_import = λ old. refl;
})

pub lapse_shows : (child : ℕ) (school : List ℕ) (day : ℕ) → Shows (Lapse child school day)
unfolding lapse.tests decline.change_of
lapse_shows child school day = shows_only (Lapse child school day) (λ old. decline.change_of child school) (record {
  done = λ old. (refl, refl);
  is = λ old change reply done. done;
  fits = λ old kept well accepted. lapse-fit old child school day well (no_row _ accepted);
  again = λ old well first passes.
      let offered = (passed (lapse.tests (after old (decline.change_of child school)) child school day) (no_row _ passes) refusal.NotOffered) in
      absurd (both_false offered (ap (λ o. is_some (offer_at o school)) (gone nat_cmp_total old.places child)));
  no_draw = λ old. refl;
  no_import = λ old. refl;
})

pub leave_list_shows : (child : ℕ) (school : List ℕ) → Shows (LeaveList child school)
unfolding leave_list.change_of
leave_list_shows child school = shows_only (LeaveList child school) (λ old. leave_list.change_of child school) (record {
  done = λ old. (refl, refl);
  is = λ old change reply done. done;
  fits = λ old kept well accepted. leave_list-fit old child school well (no_row _ accepted);
  again = λ old well first passes. absurd (leave_again old (after old (leave_list.change_of child school)) child school well (no_row _ first) refl (no_row _ passes));
  no_draw = λ old. refl;
  no_import = λ old. refl;
})

-- a reminded offer is not reminded again
remind_again : (old new : State) (child : ℕ) (school : List ℕ) (day : ℕ) → first_failing (remind.tests old child school day) ≡ None → new ≡ after old (remind.change_of old child school day)
    → first_failing (remind.tests new child school day) ≡ None → ⊥
unfolding remind.tests remind.change_of
remind_again old new child school day first is passes =
    by (offer_at (get old.places child) school) refl (passed (remind.tests old child school day) first refusal.NotOffered)
  where
    by : (offer : Option (ℕ × Option ℕ)) → offer_at (get old.places child) school ≡ offer → is_some offer ≡ true → ⊥
    by None at some = absurd (both_false some refl)
    by (Some (offered, r)) at some =
        let change : new ≡ after old (remind.reminded_on child school day (Some (offered, r))) = is ∙ ap (λ o. after old (remind.reminded_on child school day o)) at in
        let tests = subst (λ s. first_failing (remind.tests s child school day) ≡ None) change passes in
        let unreminded = (passed (remind.tests (after old (remind.reminded_on child school day (Some (offered, r)))) child school day) tests refusal.AlreadyReminded) in
        let there = ap (λ o. is_reminded (offer_at o school)) (has_put old child (record { school = school; state = Offered offered (Some day) })) in
        both (there ∙ ap (λ b. is_reminded (if b then Some (offered, Some day) else None)) ((bytes_decides school school).1 refl)) unreminded

no_draw : (child : ℕ) (school : List ℕ) (day : ℕ) (offer : Option (ℕ × Option ℕ)) → (remind.reminded_on child school day offer).draws ≡ []
no_draw child school day None = refl
no_draw child school day (Some (offered, before)) = refl

no_import : (child : ℕ) (school : List ℕ) (day : ℕ) (offer : Option (ℕ × Option ℕ)) → (remind.reminded_on child school day offer).imported ≡ []
no_import child school day None = refl
no_import child school day (Some (offered, before)) = refl

pub remind_shows : (child : ℕ) (school : List ℕ) (day : ℕ) → Shows (Remind child school day)
unfolding remind.change_of
remind_shows child school day = shows_only (Remind child school day) (λ old. remind.change_of old child school day) (record {
  done = λ old. (refl, refl);
  is = λ old change reply done. done;
  fits = λ old kept well accepted. remind-fit old child school day kept well (no_row _ accepted);
  again = λ old well first passes. absurd (remind_again old (after old (remind.change_of old child school day)) child school day (no_row _ first) refl (no_row _ passes));
  no_draw = λ old. no_draw child school day (offer_at (get old.places child) school);
  no_import = λ old. no_import child school day (offer_at (get old.places child) school);
})
