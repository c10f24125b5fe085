-- What ends a place.
use Rattle.std.proofs.Common.{◌≡◌, ◌∙◌, ap, sym, subst, refl, true, false, not, ◌&&◌, ℕ, List, Option, Some, None, inl, inr}
use Rattle.std.specs.Prelude.{is_some, IfSome}
use Rattle.std.specs.Option.{option_or}
use Rattle.std.specs.Cmp.{nat_cmp_total}
use Rattle.std.specs.FinMap.{get, insert, remove, nat_cmp-IsAntisymmetric}
use Rattle.std.proofs.lemmas.Bool.{false≢true, and_parts, not-true}
use Rattle.std.proofs.lemmas.Option.{same_Some}
use Rattle.std.proofs.lemmas.Slice.Eq.{bytes_eq-Decides}
use Rattle.adm_lists.proofs.Keys.{at_key, put_over}
use Rattle.adm_types.specs.Limits.{is_listed}
use Rattle.adm_types.specs.Code.{has}
use Rattle.adm_types.specs.declared.rows.PlaceRow.{PlaceRow}
use Rattle.adm_types.specs.declared.rows.PlaceState.TheVariants.{Offered, Accepted}
use Rattle.adm_types.specs.declared.draws.Outcome.{Outcome}
use Rattle.adm_types.specs.declared.commands.Command.{Command}
use Rattle.adm_types.specs.declared.commands.Command.TheVariants as command
use Rattle.adm_types.specs.declared.commands.Refusal.TheVariants as refusal
use Rattle.adm_match.specs.Market.{Code}
use Rattle.adm_round.specs.Round.{number_of, listed}
use Rattle.adm_round.specs.Outcomes.{is_fresh, HasListedSchool, AllotmentFits}
use Rattle.adm_register.specs.State.{State, is_plan}
use Rattle.adm_register.specs.Change.{after}
use Rattle.adm_register.specs.Wanted.{wanted_of}
use Rattle.adm_register.specs.WellFormed.{WellFormed, has_first_round, is_unplanned_at}
use Rattle.adm_register.proofs.WaitLemmas.{waiter_is}
use Rattle.adm_commands.specs.Commands.NamePlan as name_plan
use Rattle.adm_commands.specs.Commands.Accept as accept
use Rattle.adm_commands.specs.Commands.Decline as decline
use Rattle.adm_commands.specs.Commands.Lapse as lapse
use Rattle.adm_commands.specs.Commands.Remind as remind
use Rattle.adm_commands.specs.Commands.AddSchool as add_school
use Rattle.adm_commands.specs.Commands.RaisePan as raise_pan
use Rattle.adm_commands.specs.Commands.Apply as apply
use Rattle.adm_commands.specs.Commands.LeaveList as leave_list
use Rattle.adm_commands.specs.Commands.Import as import
use Rattle.adm_commands.specs.Commands.Round as round
use Rattle.adm_commands.specs.Commands.Round.{round_applicants, offer_of}
use Rattle.adm_commands.specs.Offered.{offer_at, is_after_reminder}
use Rattle.adm_commands.specs.Steps.{Accepts}
use Rattle.adm_commands.specs.Tests.{first_failing}
use Rattle.adm_commands.proofs.Passed.{passed}
use Rattle.adm_commands.proofs.RoundOffers.{offer_made, is_given, lists_given}
use Rattle.adm_commands.proofs.Shows.{no_row}
use Rattle.adm_fairness.specs.Rounds.{has_place_at}
use Rattle.adm_fairness.specs.Season.{plan_at, MovesUp, MayEndPlace, PlaceEndsFairly}
use Rattle.adm_fairness.proofs.FairRound.{RoundFacts, round_facts}
use Rattle.adm_fairness.proofs.RoundPlaces.{wanted_here, child_of, at_child, is_of}
use Rattle.adm_fairness.proofs.Fills.{same_or_other, other_stays, is_fill, filled_there, filled_other}
use Rattle.adm_fairness.proofs.Waits.{other_kept, holds_at, offered_at}
use Rattle.adm_fairness.proofs.EnvyRows.{still_held}

module _ (old : State) (well : WellFormed old) (child : ℕ) where
  -- ---- places that end

  module _ (code : Code) (held : has_place_at old code child ≡ true) where
    -- a place that is as it was has not ended
    as_before : {P : Type 0} (place : Option PlaceRow) → place ≡ get old.places child → is_unplanned_at place code ≡ false → P
    as_before place same ended = absurd (false≢true (sym ended ∙ (ap (λ p. is_unplanned_at p code) same ∙ held)))

    at_code : (school : Code) → is_unplanned_at (get old.places child) school ≡ true → school ≡ code
    at_code school there =
        let one = holds_at (get old.places child) school there in
        let two = holds_at (get old.places child) code held in
        sym one.at_code ∙ (ap (λ (r : PlaceRow). r.place.school) (same_Some one.row two.row (sym one.is ∙ two.is)) ∙ two.at_code)

    end_decline : (number : ℕ) (school : Code) → first_failing (decline.tests old number school) ≡ None → has_place_at (after old (decline.change_of number school)) code child ≡ false
        → (number ≡ child) × (school ≡ code)
    unfolding decline.tests decline.change_of
    end_decline number school passes ended = elim (same_or_other child number) [
      | inr apart ↦ as_before (get (remove old.places number) child) (other_kept nat_cmp_total nat_cmp-IsAntisymmetric old.places number child apart) ended
      | inl same ↦ (sym same, at_code school (ap (λ n. is_unplanned_at (get old.places n) school) same ∙ passed (decline.tests old number school) passes refusal.NotOffered))
    ]

    end_lapse : (number : ℕ) (school : Code) (day : ℕ) → first_failing (lapse.tests old number school day) ≡ None → has_place_at (after old (decline.change_of number school)) code child ≡ false
        → (number ≡ child) × (school ≡ code) × (is_after_reminder (offer_at (get old.places child) code) day ≡ true)
    unfolding lapse.tests decline.change_of
    end_lapse number school day passes ended = elim (same_or_other child number) [
      | inr apart ↦ as_before (get (remove old.places number) child) (other_kept nat_cmp_total nat_cmp-IsAntisymmetric old.places number child apart) ended
      | inl same ↦
          let offered : is_some (offer_at (get old.places child) school) ≡ true = ap (λ n. is_some (offer_at (get old.places n) school)) same ∙ passed (lapse.tests old number school day) passes refusal.NotOffered in
          let here : school ≡ code = at_code school (offered_at (get old.places child) school offered) in
          let late : is_after_reminder (offer_at (get old.places child) school) day ≡ true = ap (λ n. is_after_reminder (offer_at (get old.places n) school) day) same ∙ passed (lapse.tests old number school day) passes refusal.TooSoon in
          (sym same, here, ap (λ s. is_after_reminder (offer_at (get old.places child) s) day) (sym here) ∙ late)
    ]

    end_plan : (number : ℕ) (school : Code) → has_place_at (after old (name_plan.change_of number school)) code child ≡ false → number ≡ child
    unfolding name_plan.change_of
    end_plan number school ended = elim (same_or_other child number) [
      | inl same ↦ sym same
      | inr apart ↦ as_before (get (insert old.places number (plan_at number school)) child) (other_stays nat_cmp_total nat_cmp-IsAntisymmetric old.places number (plan_at number school) child apart) ended
    ]

    end_accept : (number : ℕ) (school : Code) → first_failing (accept.tests old number school) ≡ None → has_place_at (after old (accept.change_of number school)) code child ≡ false → ⊥
    unfolding accept.tests accept.change_of
    end_accept number school passes ended =
        let there = offered_at (get old.places number) school (passed (accept.tests old number school) passes refusal.NotOffered) in
        let now : PlaceRow = record { child = number; place = record { school = school; state = Accepted } } in
        false≢true (sym ended ∙ (still_held old well child child code number school there now refl refl ∙ held))

    end_remind : (number : ℕ) (school : Code) (day : ℕ) → first_failing (remind.tests old number school day) ≡ None → has_place_at (after old (remind.change_of old number school day)) code child ≡ false → ⊥
    unfolding remind.tests remind.change_of
    end_remind number school day passes = by (offer_at (get old.places number) school)
      where
        there : is_unplanned_at (get old.places number) school ≡ true
        there = offered_at (get old.places number) school (passed (remind.tests old number school day) passes refusal.NotOffered)

        by : (offer : Option (ℕ × Option ℕ)) → has_place_at (after old (remind.reminded_on number school day offer)) code child ≡ false → ⊥
        by None ended = false≢true (sym ended ∙ held)
        by (Some offer) ended =
            let now : PlaceRow = record { child = number; place = record { school = school; state = Offered offer.0 (Some day) } } in
            false≢true (sym ended ∙ (still_held old well child child code number school there now refl refl ∙ held))

    end_fill : (new : State) (draw : ℕ) (school : Code) (day : ℕ) (numbers : List ℕ) → Accepts old (command.Fill draw school day numbers) new → has_place_at new code child ≡ false → MovesUp old new child
    end_fill new draw school day numbers accepts ended =
        let it = is_fill old new draw school day numbers accepts in
        elim (same_or_other child it.child) [
          | inr apart ↦ as_before (get new.places child) (filled_other old new draw school day numbers it child apart) ended
          | inl same ↦
              let row = waiter_is old well school it.first.first it.first.among in
              let applied : get old.applications child ≡ Some row.application = ap (get old.applications) (same ∙ sym it.first.numbered) ∙ row.applied in
              let both = and_parts (has_first_round old.draws) (is_listed (wanted_of old row.application) school) row.waiting in (
                school,
                ap (λ n. is_unplanned_at (get new.places n) school) same
                    ∙ (ap (λ p. is_unplanned_at p school) (filled_there old new draw school day numbers it) ∙ ap (λ b. b && true) ((bytes_eq-Decides school school).1 refl)),
                rw applied both.1,
              )
        ]

    end_round : AllotmentFits → (new : State) (draw day : ℕ) (numbers : List ℕ) → Accepts old (command.Round draw day numbers) new → has_place_at new code child ≡ false → MovesUp old new child
    unfolding round.change_of
    end_round law new draw day numbers accepts ended =
        let it = round_facts law old new draw day numbers well accepts in
        let placed : get new.places child ≡ _ = ap (λ (s : State). get s.places child) it.now ∙ at_child it.facts day child in
        by it placed (at_key child_of it.outcomes child) refl
      where
        by : (it : RoundFacts old new draw day numbers) → get new.places child ≡ put_over (offer_of day) (at_key child_of it.outcomes child) (get old.places child)
            → (found : Option Outcome) → at_key child_of it.outcomes child ≡ found → MovesUp old new child
        by it placed None at = as_before (get new.places child) (placed ∙ ap (λ o. put_over (offer_of day) o (get old.places child)) at) ended
        by it placed (Some o) at = offered (offer_of day o) refl
          where
            now : get new.places child ≡ option_or (offer_of day o) (get old.places child)
            now = placed ∙ ap (λ x. put_over (offer_of day) x (get old.places child)) at

            offered : (made : Option PlaceRow) → offer_of day o ≡ made → MovesUp old new child
            offered None is = as_before (get new.places child) (now ∙ ap (λ x. option_or x (get old.places child)) is) ended
            offered (Some row) is =
                let whose = is_of it.facts day child o at in
                let d = whose.applicant in
                let parts = offer_made day o row is in
                let school : Code = row.place.school in
                let given : it.facts.best.allocation (number_of d) ≡ Some school = ap (λ (x : Outcome). x.school) whose.outcome_is ∙ parts.1 in
                let fresh : is_fresh d.own (Some school) ≡ true = ap (is_fresh d.own) (sym given) ∙ (ap (λ (x : Outcome). x.fresh) whose.outcome_is ∙ parts.0) in
                let lists : is_listed (listed d) school ≡ true = subst (λ p. IfSome p (λ s. is_listed (listed d) s ≡ true)) given (is_given it.facts HasListedSchool (lists_given it.facts) d whose.taking.among) in
                let wants = wanted_here d.wanted d.own school lists (not-true (has d.own school) fresh) in
                let applied : get old.applications child ≡ Some whose.application = ap (get old.applications) (sym whose.number_is) ∙ whose.taking.applied in (
                  school,
                  ap (λ p. is_unplanned_at p school) (now ∙ ap (λ x. option_or x (get old.places child)) is)
                      ∙ (λ i. (bytes_eq-Decides school school).1 refl i && not (is_plan (parts.3 i))),
                  rw applied (ap (λ cs. is_listed cs school) (sym whose.taking.wanted) ∙ wants),
                )

-- ---- each command

module _ (law : AllotmentFits) (old new : State) (child : ℕ) (well : WellFormed old) where
  place_ends_at : (asked : Command) (code : Code) → Accepts old asked new → has_place_at old code child ≡ true → has_place_at new code child ≡ false → MayEndPlace old new child code asked
  unfolding add_school.change_of raise_pan.change_of apply.change_of leave_list.change_of import.change_of
  place_ends_at (command.AddSchool school) code accepts held ended = false≢true (sym ended ∙ (ap (λ s. has_place_at s code child) (accepts.1.1.2 ∙ ap (after old) accepts.1.1.1.0) ∙ held))
  place_ends_at (command.RaisePan school pan) code accepts held ended = false≢true (sym ended ∙ (ap (λ s. has_place_at s code child) (accepts.1.1.2 ∙ ap (after old) accepts.1.1.1.0) ∙ held))
  place_ends_at (command.AddChild row) code accepts held ended = false≢true (sym ended ∙ (ap (λ s. has_place_at s code child) (accepts.1.1.2 ∙ ap (after old) accepts.1.1.1.0) ∙ held))
  place_ends_at (command.Amend row) code accepts held ended = false≢true (sym ended ∙ (ap (λ s. has_place_at s code child) (accepts.1.1.2 ∙ ap (after old) accepts.1.1.1.0) ∙ held))
  place_ends_at (command.NamePlan number school) code accepts held ended =
      end_plan old well child code held number school (ap (λ s. has_place_at s code child) (sym (accepts.1.1.2 ∙ ap (after old) accepts.1.1.1.0)) ∙ ended)
  place_ends_at (command.Apply application) code accepts held ended = false≢true (sym ended ∙ (ap (λ s. has_place_at s code child) (accepts.1.1.2 ∙ ap (after old) accepts.1.1.1.0) ∙ held))
  place_ends_at (command.Round draw day lots) code accepts held ended = end_round old well child code held law new draw day lots accepts ended
  place_ends_at (command.Accept number school) code accepts held ended =
      end_accept old well child code held number school (no_row _ accepts.1.0) (ap (λ s. has_place_at s code child) (sym (accepts.1.1.2 ∙ ap (after old) accepts.1.1.1.0)) ∙ ended)
  place_ends_at (command.Decline number school) code accepts held ended =
      end_decline old well child code held number school (no_row _ accepts.1.0) (ap (λ s. has_place_at s code child) (sym (accepts.1.1.2 ∙ ap (after old) accepts.1.1.1.0)) ∙ ended)
  place_ends_at (command.Remind number school day) code accepts held ended =
      end_remind old well child code held number school day (no_row _ accepts.1.0) (ap (λ s. has_place_at s code child) (sym (accepts.1.1.2 ∙ ap (after old) accepts.1.1.1.0)) ∙ ended)
  place_ends_at (command.Lapse number school day) code accepts held ended =
      end_lapse old well child code held number school day (no_row _ accepts.1.0) (ap (λ s. has_place_at s code child) (sym (accepts.1.1.2 ∙ ap (after old) accepts.1.1.1.0)) ∙ ended)
  place_ends_at (command.LeaveList number school) code accepts held ended = false≢true (sym ended ∙ (ap (λ s. has_place_at s code child) (accepts.1.1.2 ∙ ap (after old) accepts.1.1.1.0) ∙ held))
  place_ends_at (command.Fill draw school day lots) code accepts held ended = end_fill old well child code held new draw school day lots accepts ended
  place_ends_at (command.Import rows) code accepts held ended = false≢true (sym ended ∙ (ap (λ s. has_place_at s code child) (accepts.1.1.2 ∙ ap (after old) accepts.1.1.1.3) ∙ held))

pub place_ends_fairly_law : AllotmentFits → PlaceEndsFairly
place_ends_fairly_law law old new asked child code well accepts held ended = place_ends_at law old new child well asked code accepts held ended
