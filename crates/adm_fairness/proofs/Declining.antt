-- A child gains nothing in the next round by declining its place.
use Rattle.std.proofs.Common.{◌≡◌, ◌∙◌, ap, sym, subst, refl, cond, Bool, true, false, not, ◌&&◌, ℕ, ◌-◌, map, Option, Some, None, inl, inr, arith}
use Rattle.std.specs.Prelude.{bytes_eq, filter, option_map, is_some}
use Rattle.std.specs.List.{AllZip}
use Rattle.std.specs.Cmp.{nat_cmp_total}
use Rattle.std.specs.FinMap.{get, insert, remove, entries, values, nat_cmp-IsAntisymmetric}
use Rattle.std.proofs.lemmas.Bool.{false≢true, and_parts, eq-eqb}
use Rattle.std.proofs.lemmas.Option.{same_Some, none-some}
use Rattle.adm_lists.proofs.Counts.{count_le}
use Rattle.adm_lists.proofs.Maps.{entries_in_order}
use Rattle.adm_lists.proofs.Members.{In}
use Rattle.adm_types.specs.declared.rows.School.{School}
use Rattle.adm_types.specs.declared.rows.Child.{Child}
use Rattle.adm_types.specs.declared.rows.Application.{Application}
use Rattle.adm_types.specs.declared.rows.PlaceRow.{PlaceRow}
use Rattle.adm_types.specs.declared.rows.LeftPair.{LeftPair}
use Rattle.adm_types.specs.declared.commands.Command.TheVariants.{Decline}
use Rattle.adm_types.specs.declared.commands.Refusal.TheVariants as refusal
use Rattle.adm_match.specs.Market.{Code}
use Rattle.adm_match.specs.Stability.{IsStable}
use Rattle.adm_match_laws.specs.Groups.{NoGroupGains}
use Rattle.adm_round.specs.declared.applicants.Applicant.{Applicant}
use Rattle.adm_round.specs.Outcomes.{AllotmentFits}
use Rattle.adm_register.specs.State.{State, is_plan}
use Rattle.adm_register.specs.Change.{after}
use Rattle.adm_register.specs.Wanted.{above, has_left, wanted_of, own_school}
use Rattle.adm_register.specs.WellFormed.{WellFormed, is_unplanned_at}
use Rattle.adm_register.proofs.Maps.{left_cmp-total, left_cmp-IsAntisymmetric}
use Rattle.adm_commands.specs.Commands.Decline as decline
use Rattle.adm_commands.specs.Commands.Round.{takes_part, applicant_of, round_applicants, round_lots, round_market, plans_at, sites}
use Rattle.adm_commands.specs.Problem.{lots_fault}
use Rattle.adm_commands.specs.Tests.{first_failing}
use Rattle.adm_commands.proofs.Passed.{passed}
use Rattle.adm_commands.proofs.PutAgain.{gone}
use Rattle.adm_commands.proofs.Shows.{no_row}
use Rattle.adm_fairness.specs.Honesty.{KeepsCommonLots, NoGainByDeclining}
use Rattle.adm_fairness.proofs.Beside.{BothGive, zip_given}
use Rattle.adm_fairness.proofs.Envy.{kept_well}
use Rattle.adm_fairness.proofs.Fills.{same_or_other, other_stays}
use Rattle.adm_fairness.proofs.Group.{IsSameOr, just, gains_nothing}
use Rattle.adm_fairness.proofs.RoundPlaces.{at_entries}
use Rattle.adm_fairness.proofs.Waits.{other_kept, HoldsAt, holds_at}

module _ (old : State) (well : WellFormed old) (child : ℕ) (code : Code) (held : is_unplanned_at (get old.places child) code ≡ true) where
  abbrev next : State
  next = record old { places = remove old.places child; left = insert old.left (record { child = child; school = code }) (record { child = child; school = code }) }

  it : HoldsAt (get old.places child) code
  it = holds_at (get old.places child) code held

  -- the places of plans are the same
  same_plans : (school : Code) → plans_at next.places school ≡ plans_at old.places school
  same_plans school =
      let test : PlaceRow → Bool = λ row. bytes_eq row.place.school school && is_plan row.place.state in
      let fewer = count_le test test (entries next.places) (entries old.places) (entries_in_order next.places) (λ q row there passes. (row, sym (at_entries old.places q) ∙ was q row (at_entries next.places q ∙ there), passes)) in
      let more = count_le test test (entries old.places) (entries next.places) (entries_in_order old.places) (λ q row there passes.
      (row, sym (at_entries next.places q) ∙ stays q row (at_entries old.places q ∙ there) (and_parts (bytes_eq row.place.school school) (is_plan row.place.state) passes).1, passes)) in
      omega (arith, fewer, more)
    where
      was : (q : ℕ) (row : PlaceRow) → get next.places q ≡ Some row → get old.places q ≡ Some row
      was q row there = elim (same_or_other q child) [
        | inr apart ↦ sym (other_kept nat_cmp_total nat_cmp-IsAntisymmetric old.places child q apart) ∙ there
        | inl same ↦ absurd (none-some row (sym (ap (get next.places) same ∙ gone nat_cmp_total old.places child) ∙ there))
      ]

      stays : (q : ℕ) (row : PlaceRow) → get old.places q ≡ Some row → is_plan row.place.state ≡ true → get next.places q ≡ Some row
      stays q row there plan = elim (same_or_other q child) [
        | inr apart ↦ other_kept nat_cmp_total nat_cmp-IsAntisymmetric old.places child q apart ∙ there
        | inl same ↦ absurd (
            let one : it.row ≡ row = same_Some it.row row (sym it.is ∙ (ap (get old.places) (sym same) ∙ there)) in
            false≢true (sym it.unplanned ∙ (ap (λ (r : PlaceRow). is_plan r.place.state) one ∙ plan)))
      ]

  same_sites : sites next ≡ sites old
  same_sites = λ i. map (λ (school : School). record { school = school; quota = school.pan - same_plans school.code i }) (values old.schools)

  -- another child has left what it had left
  same_left : (number : ℕ) → (number ≡ child → ⊥) → (school : Code) → has_left next.left number school ≡ has_left old.left number school
  same_left number apart school =
      ap is_some (other_stays left_cmp-total left_cmp-IsAntisymmetric old.left (record { child = child; school = code }) (record { child = child; school = code }) (record { child = number; school = school })
      (λ same. apart (ap (λ (p : LeftPair). p.child) same)))

  -- who takes part is the same, but for the child
  each_beside : (a : Application) → In a (values old.applications) → BothGive (IsSameOr (just child)) (applicant_of old a) (applicant_of next a)
  each_beside a at = elim (same_or_other a.child child) [
    | inr apart ↦
        let place : get next.places a.child ≡ get old.places a.child = other_kept nat_cmp_total nat_cmp-IsAntisymmetric old.places child a.child apart in
        let wanted : wanted_of next a ≡ wanted_of old a = λ i. filter (λ other. not (same_left a.child apart other i)) (above (place i) a.list) in
        subst (λ o. BothGive (IsSameOr (just child)) (applicant_of old a) o)
        (sym (λ i. cond (takes_part old a) (option_map (λ (c : Child). record { child = c; wanted = wanted i; own = own_school (place i) }) (get old.children a.child)) None))
        (itself (applicant_of old a))
    | inl mine ↦ by (takes_part old a) (get old.children a.child) (λ row there. (well.base.children_fit a.child row there).own_number ∙ mine) mine
  ]
    where
      itself : (o : Option Applicant) → BothGive (IsSameOr (just child)) o o
      itself None = tt
      itself (Some x) = inl refl

      by : (b : Bool) (o : Option Child) → ((row : Child) → o ≡ Some row → row.no ≡ child) → a.child ≡ child
          → BothGive (IsSameOr (just child)) (cond b (option_map (λ (c : Child). record { child = c; wanted = wanted_of old a; own = own_school (get old.places a.child) }) o) None)
          (cond b (option_map (λ (c : Child). record { child = c; wanted = wanted_of next a; own = own_school (get next.places a.child) }) o) None)
      by false o number mine = tt
      by true None number mine = tt
      by true (Some row) number mine =
          inr (eq-eqb row.no child (number row refl), refl, ap (λ n. own_school (get next.places n)) mine ∙ ap own_school (gone nat_cmp_total old.places child))

  applicants_beside : AllZip (IsSameOr (just child)) (round_applicants old) (round_applicants next)
  applicants_beside = zip_given (IsSameOr (just child)) (applicant_of old) (applicant_of next) (values old.applications) each_beside

held_before : (old : State) (child : ℕ) (code : Code) → first_failing (decline.tests old child code) ≡ None → is_unplanned_at (get old.places child) code ≡ true
unfolding decline.tests
held_before old child code passes = passed (decline.tests old child code) passes refusal.NotOffered

pub no_gain_by_declining_law : AllotmentFits → NoGroupGains → NoGainByDeclining
unfolding decline.change_of
no_gain_by_declining_law law groups old new child code numbers drawn before after' first second well accepts none none' lots =
    let now : new ≡ after old (decline.change_of child code) = accepts.1.1.2 ∙ ap (after old) accepts.1.1.1.0 in
    let held = held_before old child code (no_row _ accepts.1.0) in
    let well' : WellFormed (after old (decline.change_of child code)) = subst WellFormed now (kept_well law old new (Decline child code) tt well accepts) in
    gains_nothing child old (after old (decline.change_of child code)) numbers drawn well well' none (subst (λ s. lots_fault s drawn ≡ None) now none')
    (same_sites old well child code held) refl refl (applicants_beside old well child code held)
    (subst (λ t. KeepsCommonLots old t (round_lots old numbers) (round_lots t drawn)) now lots) groups first.allocation second.allocation first.best
    (subst (λ s. IsStable (round_market s drawn) second.allocation) now second.best.stable)
