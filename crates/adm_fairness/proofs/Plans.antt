-- The place of a plan is kept.
use Rattle.std.proofs.Common.{◌≡◌, ◌∙◌, ap, sym, refl, cond, true, false, not, ◌&&◌, ℕ, List, [], ◌∷◌, Option, Some, None, inl, inr}
use Rattle.std.specs.Prelude.{is_some}
use Rattle.std.specs.List.{AllByRecursion}
use Rattle.std.specs.Cmp.{nat_cmp_total}
use Rattle.std.specs.FinMap.{get, insert, remove, contains_key, nat_cmp-IsAntisymmetric}
use Rattle.std.proofs.lemmas.Bool.{false≢true, not-true}
use Rattle.std.proofs.lemmas.Option.{same_Some}
use Rattle.adm_types.specs.declared.rows.Application.{Application}
use Rattle.adm_types.specs.declared.rows.PlaceRow.{PlaceRow}
use Rattle.adm_types.specs.declared.commands.Command.{Command}
use Rattle.adm_types.specs.declared.commands.Command.TheVariants as command
use Rattle.adm_types.specs.declared.commands.Refusal.TheVariants as refusal
use Rattle.adm_match.specs.Market.{Code}
use Rattle.adm_round.specs.Outcomes.{AllotmentFits}
use Rattle.adm_register.specs.State.{State, is_plan}
use Rattle.adm_register.specs.Change.{after}
use Rattle.adm_register.specs.Plans.{is_plan_row, has_plan}
use Rattle.adm_register.specs.WellFormed.{WellFormed, has_first_round, lists_school, is_unplanned_at}
use Rattle.adm_register.proofs.WaitLemmas.{waiter_is}
use Rattle.adm_commands.specs.Commands.{KeptByTypes, refused}
use Rattle.adm_commands.specs.Commands.NamePlan as name_plan
use Rattle.adm_commands.specs.Commands.Accept as accept
use Rattle.adm_commands.specs.Commands.Decline as decline
use Rattle.adm_commands.specs.Commands.Lapse as lapse
use Rattle.adm_commands.specs.Commands.Remind as remind
use Rattle.adm_commands.specs.Commands.AddSchool as add_school
use Rattle.adm_commands.specs.Commands.RaisePan as raise_pan
use Rattle.adm_commands.specs.Commands.Apply as apply
use Rattle.adm_commands.specs.Commands.LeaveList as leave_list
use Rattle.adm_commands.specs.Commands.Import as import
use Rattle.adm_commands.specs.Commands.Round as round
use Rattle.adm_commands.specs.Commands.Round.{round_applicants, offer_of}
use Rattle.adm_commands.specs.Imports.{Reaches}
use Rattle.adm_commands.specs.Offered.{offer_at}
use Rattle.adm_commands.specs.Steps.{Accepts}
use Rattle.adm_commands.specs.Tests.{first_failing}
use Rattle.adm_commands.proofs.Passed.{passed}
use Rattle.adm_commands.proofs.PutAgain.{get-insert_same}
use Rattle.adm_commands.proofs.Shows.{no_row}
use Rattle.adm_fairness.specs.Season.{plan_at, PlanIsKept}
use Rattle.adm_fairness.proofs.FairRound.{round_facts}
use Rattle.adm_fairness.proofs.RoundPlaces.{plan_stays}
use Rattle.adm_fairness.proofs.Fills.{same_or_other, other_stays, is_fill, filled_other}
use Rattle.adm_fairness.proofs.Waits.{other_kept, holds_at, offered_at}
use Rattle.adm_fairness.proofs.Envy.{kept_well}

-- a place outside plans is none of a plan
not_both : (place : Option PlaceRow) (code : Code) (row : PlaceRow) → is_unplanned_at place code ≡ true → place ≡ Some row → is_plan row.place.state ≡ true → ⊥
not_both place code row held is plan =
    let it = holds_at place code held in
    let same : it.row ≡ row = same_Some it.row row (sym it.is ∙ is) in
    false≢true (sym it.unplanned ∙ (ap (λ (r : PlaceRow). is_plan r.place.state) same ∙ plan))

module _ (old : State) (well : WellFormed old) (child : ℕ) where
  -- a child with a plan has no application
  no_application : (row : PlaceRow) → get old.places child ≡ Some row → is_plan row.place.state ≡ true → (application : Application) → get old.applications child ≡ Some application → ⊥
  no_application row there plan application applied =
      let fits = well.places.each child row there in
      let none : not (is_some (get old.applications row.child)) ≡ true =
      sym (ap (λ b. cond b (not (is_some (get old.applications row.child))) (has_first_round old.draws && lists_school (get old.applications row.child) row.place.school)) plan) ∙ fits.entitled in
      false≢true (sym (not-true _ none) ∙ (ap (λ n. is_some (get old.applications n)) fits.own_number ∙ ap is_some applied))

  module _ (row : PlaceRow) (there : get old.places child ≡ Some row) (plan : is_plan row.place.state ≡ true) where
    -- a place that is written is another child's where that child has a place outside plans
    written : (number : ℕ) (school : Code) (now : PlaceRow) → is_unplanned_at (get old.places number) school ≡ true → get (insert old.places number now) child ≡ Some row
    written number school now held = elim (same_or_other child number) [
      | inr apart ↦ other_stays nat_cmp_total nat_cmp-IsAntisymmetric old.places number now child apart ∙ there
      | inl same ↦ absurd (not_both (get old.places child) school row (ap (λ n. is_unplanned_at (get old.places n) school) same ∙ held) there plan)
    ]

    removed : (number : ℕ) (school : Code) → is_unplanned_at (get old.places number) school ≡ true → get (remove old.places number) child ≡ Some row
    removed number school held = elim (same_or_other child number) [
      | inr apart ↦ other_kept nat_cmp_total nat_cmp-IsAntisymmetric old.places number child apart ∙ there
      | inl same ↦ absurd (not_both (get old.places child) school row (ap (λ n. is_unplanned_at (get old.places n) school) same ∙ held) there plan)
    ]

    kept_plan : (number : ℕ) (school : Code) → first_failing (name_plan.tests old number school) ≡ None → get (after old (name_plan.change_of number school)).places child ≡ Some row
    unfolding name_plan.tests name_plan.change_of
    kept_plan number school passes = elim (same_or_other child number) [
      | inr apart ↦ other_stays nat_cmp_total nat_cmp-IsAntisymmetric old.places number (plan_at number school) child apart ∙ there
      | inl same ↦ absurd (false≢true (sym (not-true _ (passed (name_plan.tests old number school) passes refusal.HasPlan)) ∙ (ap (has_plan old.places) (sym same) ∙ (ap is_plan_row there ∙ plan))))
    ]

    kept_accept : (number : ℕ) (school : Code) → first_failing (accept.tests old number school) ≡ None → get (after old (accept.change_of number school)).places child ≡ Some row
    unfolding accept.tests accept.change_of
    kept_accept number school passes = written number school _ (offered_at (get old.places number) school (passed (accept.tests old number school) passes refusal.NotOffered))

    kept_decline : (number : ℕ) (school : Code) → first_failing (decline.tests old number school) ≡ None → get (after old (decline.change_of number school)).places child ≡ Some row
    unfolding decline.tests decline.change_of
    kept_decline number school passes = removed number school (passed (decline.tests old number school) passes refusal.NotOffered)

    kept_lapse : (number : ℕ) (school : Code) (day : ℕ) → first_failing (lapse.tests old number school day) ≡ None → get (after old (decline.change_of number school)).places child ≡ Some row
    unfolding lapse.tests decline.change_of
    kept_lapse number school day passes = removed number school (offered_at (get old.places number) school (passed (lapse.tests old number school day) passes refusal.NotOffered))

    kept_remind : (number : ℕ) (school : Code) (day : ℕ) → first_failing (remind.tests old number school day) ≡ None → get (after old (remind.change_of old number school day)).places child ≡ Some row
    unfolding remind.tests remind.change_of
    kept_remind number school day passes = by (offer_at (get old.places number) school)
      where
        by : (offer : Option (ℕ × Option ℕ)) → get (after old (remind.reminded_on number school day offer)).places child ≡ Some row
        by None = there
        by (Some offer) = written number school _ (offered_at (get old.places number) school (passed (remind.tests old number school day) passes refusal.NotOffered))

    kept_fill : (new : State) (draw : ℕ) (school : Code) (day : ℕ) (numbers : List ℕ) → Accepts old (command.Fill draw school day numbers) new → get new.places child ≡ Some row
    kept_fill new draw school day numbers accepts =
        let it = is_fill old new draw school day numbers accepts in
        elim (same_or_other child it.child) [
          | inr apart ↦ filled_other old new draw school day numbers it child apart ∙ there
          | inl same ↦
              let waiter = waiter_is old well school it.first.first it.first.among in
              absurd (no_application row there plan waiter.application (ap (get old.applications) (same ∙ sym it.first.numbered) ∙ waiter.applied))
        ]

    kept_round : AllotmentFits → (new : State) (draw day : ℕ) (numbers : List ℕ) → Accepts old (command.Round draw day numbers) new → get new.places child ≡ Some row
    unfolding round.change_of
    kept_round law new draw day numbers accepts =
        let it = round_facts law old new draw day numbers well accepts in
        ap (λ (s : State). get s.places child) it.now ∙ plan_stays it.facts day child row there plan

-- ---- each command

module _ (law : AllotmentFits) (old new : State) (child : ℕ) (well : WellFormed old) where
  plan_stays_at : (asked : Command) (row : PlaceRow) → Accepts old asked new → get old.places child ≡ Some row → is_plan row.place.state ≡ true → get new.places child ≡ Some row
  unfolding add_school.change_of raise_pan.change_of apply.change_of leave_list.change_of import.change_of
  plan_stays_at (command.AddSchool school) row accepts there plan = ap (λ (s : State). get s.places child) (accepts.1.1.2 ∙ ap (after old) accepts.1.1.1.0) ∙ there
  plan_stays_at (command.RaisePan school pan) row accepts there plan = ap (λ (s : State). get s.places child) (accepts.1.1.2 ∙ ap (after old) accepts.1.1.1.0) ∙ there
  plan_stays_at (command.AddChild added) row accepts there plan = ap (λ (s : State). get s.places child) (accepts.1.1.2 ∙ ap (after old) accepts.1.1.1.0) ∙ there
  plan_stays_at (command.Amend amended) row accepts there plan = ap (λ (s : State). get s.places child) (accepts.1.1.2 ∙ ap (after old) accepts.1.1.1.0) ∙ there
  plan_stays_at (command.NamePlan number school) row accepts there plan =
      ap (λ (s : State). get s.places child) (accepts.1.1.2 ∙ ap (after old) accepts.1.1.1.0) ∙ kept_plan old well child row there plan number school (no_row _ accepts.1.0)
  plan_stays_at (command.Apply application) row accepts there plan = ap (λ (s : State). get s.places child) (accepts.1.1.2 ∙ ap (after old) accepts.1.1.1.0) ∙ there
  plan_stays_at (command.Round draw day lots) row accepts there plan = kept_round old well child row there plan law new draw day lots accepts
  plan_stays_at (command.Accept number school) row accepts there plan =
      ap (λ (s : State). get s.places child) (accepts.1.1.2 ∙ ap (after old) accepts.1.1.1.0) ∙ kept_accept old well child row there plan number school (no_row _ accepts.1.0)
  plan_stays_at (command.Decline number school) row accepts there plan =
      ap (λ (s : State). get s.places child) (accepts.1.1.2 ∙ ap (after old) accepts.1.1.1.0) ∙ kept_decline old well child row there plan number school (no_row _ accepts.1.0)
  plan_stays_at (command.Remind number school day) row accepts there plan =
      ap (λ (s : State). get s.places child) (accepts.1.1.2 ∙ ap (after old) accepts.1.1.1.0) ∙ kept_remind old well child row there plan number school day (no_row _ accepts.1.0)
  plan_stays_at (command.Lapse number school day) row accepts there plan =
      ap (λ (s : State). get s.places child) (accepts.1.1.2 ∙ ap (after old) accepts.1.1.1.0) ∙ kept_lapse old well child row there plan number school day (no_row _ accepts.1.0)
  plan_stays_at (command.LeaveList number school) row accepts there plan = ap (λ (s : State). get s.places child) (accepts.1.1.2 ∙ ap (after old) accepts.1.1.1.0) ∙ there
  plan_stays_at (command.Fill draw school day lots) row accepts there plan = kept_fill old well child row there plan new draw school day lots accepts
  plan_stays_at (command.Import rows) row accepts there plan = ap (λ (s : State). get s.places child) (accepts.1.1.2 ∙ ap (after old) accepts.1.1.1.3) ∙ there

-- over several commands
stays_over : AllotmentFits → (old new : State) (commands : List Command) (child : ℕ) (row : PlaceRow) → WellFormed old → AllByRecursion KeptByTypes commands → Reaches old commands new
    → get old.places child ≡ Some row → is_plan row.place.state ≡ true → get new.places child ≡ Some row
stays_over law old new [] child row well kept reaches there plan = ap (λ (s : State). get s.places child) reaches ∙ there
stays_over law old new (asked ∷ commands) child row well kept reaches there plan =
    stays_over law reaches.0 new commands child row (kept_well law old reaches.0 asked kept.0 well reaches.1) kept.1 reaches.2 (plan_stays_at law old reaches.0 child well asked row reaches.1 there plan) plan

admits_case : (s : State) (child : ℕ) (code : Code) → contains_key s.children child ≡ true → contains_key s.schools code ≡ true → has_plan s.places child ≡ false → refused s (command.NamePlan child code) ≡ None
unfolding name_plan.tests
admits_case s child code known there none = rw (known, there, none) refl

admitted_case : (old new : State) (child : ℕ) (code : Code) → Accepts old (command.NamePlan child code) new → get new.places child ≡ Some (plan_at child code)
unfolding name_plan.change_of
admitted_case old new child code accepts =
    ap (λ (s : State). get s.places child) (accepts.1.1.2 ∙ ap (after old) accepts.1.1.1.0) ∙ get-insert_same nat_cmp_total old.places child (plan_at child code)

pub plan_is_kept_law : AllotmentFits → PlanIsKept
plan_is_kept_law law = record { admits = admits_case; admitted = admitted_case; stays = stays_over law }
