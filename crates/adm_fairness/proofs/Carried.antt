-- What the commands that may come between two rounds leave as it was.
use Rattle.std.proofs.Common.{◌≡◌, ◌∙◌, ap, sym, subst, refl, cond, Bool, true, false, ℕ, ◌≤◌, List, [], ◌∷◌, Option, Some, None, inl, inr, arith}
use Rattle.std.specs.Prelude.{bytes_eq, is_some, nat_le}
use Rattle.std.specs.List.{AllByRecursion}
use Rattle.std.specs.Cmp.{nat_cmp_total}
use Rattle.std.specs.Cmp.Lexicographic.{nat_list_cmp_total}
use Rattle.std.specs.FinMap.{get, insert, remove, nat_cmp-IsAntisymmetric}
use Rattle.std.proofs.lemmas.Bool.{cases_Bool, false≢true, and_parts, leb-true}
use Rattle.std.proofs.lemmas.Option.{same_Some, none-some}
use Rattle.std.proofs.lemmas.Slice.Eq.{bytes_eq-Decides}
use Rattle.adm_types.specs.declared.rows.School.{School}
use Rattle.adm_types.specs.declared.rows.PlaceRow.{PlaceRow}
use Rattle.adm_types.specs.declared.rows.PlaceState.TheVariants.{Offered, Accepted}
use Rattle.adm_types.specs.declared.rows.LeftPair.{LeftPair}
use Rattle.adm_types.specs.declared.commands.Command.{Command}
use Rattle.adm_types.specs.declared.commands.Command.TheVariants as command
use Rattle.adm_types.specs.declared.commands.Refusal.TheVariants as refusal
use Rattle.adm_match.specs.Market.{Code}
use Rattle.adm_round.specs.Outcomes.{AllotmentFits}
use Rattle.adm_register.specs.State.{State, is_plan}
use Rattle.adm_register.specs.Change.{after, no_change}
use Rattle.adm_register.specs.Wanted.{above, has_left, own_school}
use Rattle.adm_register.specs.WellFormed.{WellFormed, is_unplanned_at}
use Rattle.adm_register.proofs.Maps.{code_cmp-IsAntisymmetric, left_cmp-total, left_cmp-IsAntisymmetric}
use Rattle.adm_commands.specs.Commands.{KeptByTypes}
use Rattle.adm_commands.specs.Commands.Accept as accept
use Rattle.adm_commands.specs.Commands.Decline as decline
use Rattle.adm_commands.specs.Commands.Lapse as lapse
use Rattle.adm_commands.specs.Commands.LeaveList as leave_list
use Rattle.adm_commands.specs.Commands.RaisePan as raise_pan
use Rattle.adm_commands.specs.Commands.Remind as remind
use Rattle.adm_commands.specs.Imports.{Reaches}
use Rattle.adm_commands.specs.Offered.{offer_at}
use Rattle.adm_commands.specs.Steps.{Accepts}
use Rattle.adm_commands.specs.Tests.{first_failing}
use Rattle.adm_commands.proofs.Passed.{passed}
use Rattle.adm_commands.proofs.PutAgain.{get-insert_same, gone}
use Rattle.adm_commands.proofs.Shows.{no_row}
use Rattle.adm_fairness.specs.LaterRounds.{MayComeBetween}
use Rattle.adm_fairness.proofs.Envy.{kept_well}
use Rattle.adm_fairness.proofs.Fills.{same_or_other, other_stays}
use Rattle.adm_fairness.proofs.RoundPlaces.{plans_same}
use Rattle.adm_fairness.proofs.Waits.{other_kept, HoldsAt, holds_at, offered_at, same_above}
use Rattle.adm_fairness.proofs.Built.{IsBuilt, same_school, built_itself, built_on}

-- a later register with the same draws, in which each child that stays has its place, and has left what it had left.
pub record IsCarried (stays : ℕ → Bool) (s t : State) : Type 0 where
  pub built : IsBuilt s t
  pub draws : t.draws ≡ s.draws
  pub own : (number : ℕ) → stays number ≡ true → own_school (get t.places number) ≡ own_school (get s.places number)
  pub above : (number : ℕ) (list : List Code) → stays number ≡ true → above (get t.places number) list ≡ above (get s.places number) list
  pub left : (number : ℕ) (code : Code) → stays number ≡ true → has_left t.left number code ≡ has_left s.left number code

carried_itself : (stays : ℕ → Bool) (s : State) → IsCarried stays s s
carried_itself stays s = record { built = built_itself s; draws = refl; own = λ n here. refl; above = λ n list here. refl; left = λ n code here. refl }

carried_on : (stays : ℕ → Bool) (r s t : State) → IsCarried stays r s → IsCarried stays s t → IsCarried stays r t
carried_on stays r s t first second = record {
  built = built_on r s t first.built second.built;
  draws = second.draws ∙ first.draws;
  own = λ n here. second.own n here ∙ first.own n here;
  above = λ n list here. second.above n list here ∙ first.above n list here;
  left = λ n code here. second.left n code here ∙ first.left n code here;
}

-- ---- each command

module _ (stays : ℕ → Bool) (old : State) (well : WellFormed old) where
  -- who stays is not the child that does not
  apart_from : (number child : ℕ) → stays number ≡ false → stays child ≡ true → child ≡ number → ⊥
  apart_from number child goes here same = false≢true (sym goes ∙ (ap stays (sym same) ∙ here))

  -- a school is left by a child that does not stay
  left_apart : (number : ℕ) (school : Code) → stays number ≡ false → (child : ℕ) (code : Code) → stays child ≡ true
      → has_left (insert old.left (record { child = number; school = school }) (record { child = number; school = school })) child code ≡ has_left old.left child code
  left_apart number school goes child code here =
      ap is_some (other_stays left_cmp-total left_cmp-IsAntisymmetric old.left (record { child = number; school = school }) (record { child = number; school = school }) (record { child = child; school = code })
      (λ same. apart_from number child goes here (ap (λ (p : LeftPair). p.child) same)))

  -- a place is written at a school at which the child has one outside plans
  module _ (number : ℕ) (school : Code) (held : is_unplanned_at (get old.places number) school ≡ true) (now : PlaceRow) (at_school : now.place.school ≡ school) (unplanned : is_plan now.place.state ≡ false) where
    it : HoldsAt (get old.places number) school
    it = holds_at (get old.places number) school held

    is_now : get (insert old.places number now) number ≡ Some now
    is_now = get-insert_same nat_cmp_total old.places number now

    -- what is said of a place by its school, and by whether it is that of a plan
    as_held : {X : Type 0} (said : Option PlaceRow → X) → said (Some now) ≡ said (Some it.row) → (child : ℕ) → said (get (insert old.places number now) child) ≡ said (get old.places child)
    as_held said same child = elim (same_or_other child number) [
      | inr apart ↦ ap said (other_stays nat_cmp_total nat_cmp-IsAntisymmetric old.places number now child apart)
      | inl here ↦
          ap (λ n. said (get (insert old.places number now) n)) here
          ∙ (ap said is_now ∙ (same ∙ (ap said (sym it.is) ∙ ap (λ n. said (get old.places n)) (sym here))))
    ]

    same_own : own_school (Some now) ≡ own_school (Some it.row)
    same_own =
        (λ i. cond (unplanned i) None (Some (at_school i)))
        ∙ sym (λ i. cond (it.unplanned i) None (Some (it.at_code i)))

    rewritten : IsCarried stays old (record old { places = insert old.places number now })
    rewritten = record {
      built = record {
        children = refl;
        applications = refl;
        plans = plans_same old.places (insert old.places number now) was stays_plan;
        schools = (built_itself old).schools;
      };
      draws = refl;
      own = λ child here. as_held own_school same_own child;
      above = λ child list here. as_held (λ p. above p list) (same_above it.row now list (it.at_code ∙ sym at_school)) child;
      left = λ child code here. refl;
    }
      where
        was : (q : ℕ) (row : PlaceRow) → get (insert old.places number now) q ≡ Some row → is_plan row.place.state ≡ true → get old.places q ≡ Some row
        was q row there plan = elim (same_or_other q number) [
          | inr apart ↦ sym (other_stays nat_cmp_total nat_cmp-IsAntisymmetric old.places number now q apart) ∙ there
          | inl same ↦ absurd (
              let one : now ≡ row = same_Some now row (sym is_now ∙ (ap (get (insert old.places number now)) (sym same) ∙ there)) in
              false≢true (sym unplanned ∙ (ap (λ (r : PlaceRow). is_plan r.place.state) one ∙ plan)))
        ]

        stays_plan : (q : ℕ) (row : PlaceRow) → get old.places q ≡ Some row → is_plan row.place.state ≡ true → get (insert old.places number now) q ≡ Some row
        stays_plan q row there plan = elim (same_or_other q number) [
          | inr apart ↦ other_stays nat_cmp_total nat_cmp-IsAntisymmetric old.places number now q apart ∙ there
          | inl same ↦ absurd (
              let one : it.row ≡ row = same_Some it.row row (sym it.is ∙ (ap (get old.places) (sym same) ∙ there)) in
              false≢true (sym it.unplanned ∙ (ap (λ (r : PlaceRow). is_plan r.place.state) one ∙ plan)))
        ]

  accept_case : (number : ℕ) (school : Code) → first_failing (accept.tests old number school) ≡ None → IsCarried stays old (after old (accept.change_of number school))
  unfolding accept.tests accept.change_of
  accept_case number school passes =
      rewritten number school (offered_at (get old.places number) school (passed (accept.tests old number school) passes refusal.NotOffered))
      (record { child = number; place = record { school = school; state = Accepted } }) refl refl

  remind_case : (number : ℕ) (school : Code) (day : ℕ) → first_failing (remind.tests old number school day) ≡ None → IsCarried stays old (after old (remind.change_of old number school day))
  unfolding remind.tests remind.change_of
  remind_case number school day passes = by (offer_at (get old.places number) school)
    where
      by : (offer : Option (ℕ × Option ℕ)) → IsCarried stays old (after old (remind.reminded_on number school day offer))
      by None = carried_itself stays old
      by (Some offer) =
          rewritten number school (offered_at (get old.places number) school (passed (remind.tests old number school day) passes refusal.NotOffered))
          (record { child = number; place = record { school = school; state = Offered offer.0 (Some day) } }) refl refl

  -- a place outside plans ends, and its school is left
  end_case : (number : ℕ) (school : Code) → stays number ≡ false → is_unplanned_at (get old.places number) school ≡ true → IsCarried stays old (after old (decline.change_of number school))
  unfolding decline.change_of
  end_case number school goes held = record {
    built = record { children = refl; applications = refl; plans = plans_same old.places (remove old.places number) was stays_plan; schools = (built_itself old).schools };
    draws = refl;
    own = λ child here. ap own_school (kept child here);
    above = λ child list here. ap (λ p. above p list) (kept child here);
    left = left_apart number school goes;
  }
    where
      it : HoldsAt (get old.places number) school
      it = holds_at (get old.places number) school held

      kept : (child : ℕ) → stays child ≡ true → get (remove old.places number) child ≡ get old.places child
      kept child here = other_kept nat_cmp_total nat_cmp-IsAntisymmetric old.places number child (apart_from number child goes here)

      was : (q : ℕ) (row : PlaceRow) → get (remove old.places number) q ≡ Some row → is_plan row.place.state ≡ true → get old.places q ≡ Some row
      was q row there plan = elim (same_or_other q number) [
        | inr apart ↦ sym (other_kept nat_cmp_total nat_cmp-IsAntisymmetric old.places number q apart) ∙ there
        | inl same ↦ absurd (none-some row (sym (ap (get (remove old.places number)) same ∙ gone nat_cmp_total old.places number) ∙ there))
      ]

      stays_plan : (q : ℕ) (row : PlaceRow) → get old.places q ≡ Some row → is_plan row.place.state ≡ true → get (remove old.places number) q ≡ Some row
      stays_plan q row there plan = elim (same_or_other q number) [
        | inr apart ↦ other_kept nat_cmp_total nat_cmp-IsAntisymmetric old.places number q apart ∙ there
        | inl same ↦ absurd (
            let one : it.row ≡ row = same_Some it.row row (sym it.is ∙ (ap (get old.places) (sym same) ∙ there)) in
            false≢true (sym it.unplanned ∙ (ap (λ (r : PlaceRow). is_plan r.place.state) one ∙ plan)))
      ]

  decline_held : (number : ℕ) (school : Code) → first_failing (decline.tests old number school) ≡ None → is_unplanned_at (get old.places number) school ≡ true
  unfolding decline.tests
  decline_held number school passes = passed (decline.tests old number school) passes refusal.NotOffered

  lapse_held : (number : ℕ) (school : Code) (day : ℕ) → first_failing (lapse.tests old number school day) ≡ None → is_unplanned_at (get old.places number) school ≡ true
  unfolding lapse.tests
  lapse_held number school day passes = offered_at (get old.places number) school (passed (lapse.tests old number school day) passes refusal.NotOffered)

  leave_case : (number : ℕ) (school : Code) → stays number ≡ false → IsCarried stays old (after old (leave_list.change_of number school))
  unfolding leave_list.change_of
  leave_case number school goes = record {
    built = record { children = refl; applications = refl; plans = λ code. refl; schools = (built_itself old).schools };
    draws = refl;
    own = λ child here. refl;
    above = λ child list here. refl;
    left = left_apart number school goes;
  }

  raise_case : (school : Code) (pan : ℕ) → first_failing (raise_pan.tests old school pan) ≡ None → IsCarried stays old (after old (raise_pan.change_of old school pan))
  unfolding raise_pan.tests raise_pan.change_of
  raise_case school pan passes = by (get old.schools school) refl
    where
      larger : (found : Option School) (row : School) → found ≡ Some row → raise_pan.may_have found pan ≡ true → row.pan ≤ pan
      larger None row is may = absurd (none-some row is)
      larger (Some other) row is may =
          let most : other.pan ≤ pan = leb-true _ _ (and_parts _ (nat_le other.pan pan) may).1 in
          omega (arith, most, ap (λ (x : School). x.pan) (same_Some other row is))

      by : (found : Option School) → get old.schools school ≡ found → IsCarried stays old (after old (record no_change { schools = raise_pan.with_pan found pan }))
      by None at = carried_itself stays old
      by (Some row) at =
          let own : row.code ≡ school = (well.base.schools_fit school row at).own_code in
          let now : School = record row { pan = pan } in
          record {
            built = record {
              children = refl;
              applications = refl;
              plans = λ code. refl;
              schools = λ code was there. elim (cases_Bool (bytes_eq code row.code)) [
                | inr apart ↦
                    same_school was (get (insert old.schools row.code now) code)
                    (other_stays nat_list_cmp_total code_cmp-IsAntisymmetric old.schools row.code now code (λ same. false≢true (sym apart ∙ (bytes_eq-Decides code row.code).1 same)) ∙ there)
                | inl hit ↦
                    let same : code ≡ row.code = (bytes_eq-Decides code row.code).0 hit in
                    let one : row ≡ was = same_Some row was (sym at ∙ (ap (get old.schools) (sym own ∙ sym same) ∙ there)) in
                    record {
                      pan = pan;
                      most = omega (arith, larger (get old.schools school) row at (passed (raise_pan.tests old school pan) passes refusal.OutOfRange), ap (λ (x : School). x.pan) one);
                      is = ap (get (insert old.schools row.code now)) same ∙ (get-insert_same nat_list_cmp_total old.schools row.code now ∙ ap (λ (x : School). Some (record x { pan = pan })) one);
                    }
              ];
            };
            draws = refl;
            own = λ child here. refl;
            above = λ child list here. refl;
            left = λ child code here. refl;
          }

carried_by : (stays : ℕ → Bool) (old new : State) (asked : Command) → WellFormed old → MayComeBetween stays asked → Accepts old asked new → IsCarried stays old new
carried_by stays old new (command.RaisePan school pan) well may accepts =
    subst (IsCarried stays old) (sym (accepts.1.1.2 ∙ ap (after old) accepts.1.1.1.0)) (raise_case stays old well school pan (no_row _ accepts.1.0))
carried_by stays old new (command.Accept number school) well may accepts =
    subst (IsCarried stays old) (sym (accepts.1.1.2 ∙ ap (after old) accepts.1.1.1.0)) (accept_case stays old well number school (no_row _ accepts.1.0))
carried_by stays old new (command.Decline number school) well may accepts =
    subst (IsCarried stays old) (sym (accepts.1.1.2 ∙ ap (after old) accepts.1.1.1.0)) (end_case stays old well number school may (decline_held stays old well number school (no_row _ accepts.1.0)))
carried_by stays old new (command.Remind number school day) well may accepts =
    subst (IsCarried stays old) (sym (accepts.1.1.2 ∙ ap (after old) accepts.1.1.1.0)) (remind_case stays old well number school day (no_row _ accepts.1.0))
carried_by stays old new (command.Lapse number school day) well may accepts =
    subst (IsCarried stays old) (sym (accepts.1.1.2 ∙ ap (after old) accepts.1.1.1.0)) (end_case stays old well number school may (lapse_held stays old well number school day (no_row _ accepts.1.0)))
carried_by stays old new (command.LeaveList number school) well may accepts =
    subst (IsCarried stays old) (sym (accepts.1.1.2 ∙ ap (after old) accepts.1.1.1.0)) (leave_case stays old well number school may)
carried_by stays old new other well may accepts = absurd may

-- ---- several commands

pub carried : AllotmentFits → (stays : ℕ → Bool) (commands : List Command) (old new : State) → WellFormed old → AllByRecursion KeptByTypes commands → AllByRecursion (MayComeBetween stays) commands
    → Reaches old commands new → IsCarried stays old new × WellFormed new
carried law stays [] old new well kept may reaches = (subst (IsCarried stays old) (sym reaches) (carried_itself stays old), subst WellFormed (sym reaches) well)
carried law stays (asked ∷ commands) old new well kept may reaches =
    let mid = reaches.0 in
    let well' = kept_well law old mid asked kept.0 well reaches.1 in
    let rest = carried law stays commands mid new well' kept.1 may.1 reaches.2 in
    (carried_on stays old mid new (carried_by stays old mid asked well may.0 reaches.1) rest.0, rest.1)
