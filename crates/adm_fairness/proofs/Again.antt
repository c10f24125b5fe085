-- Who takes part in a round after another one, and what it lists then.
use Rattle.std.proofs.Common.{◌≡◌, ◌∙◌, ap, sym, subst, refl, cond, Bool, true, false, not, ◌||◌, ℕ, ◌-◌, List, ◌++◌, [], ◌∷◌, map, Option, Some, None}
use Rattle.std.specs.Prelude.{is_some, nat_le, filter, option_map}
use Rattle.std.specs.List.{AllZip}
use Rattle.std.specs.Cmp.{nat_cmp_total, unsigned_Decides}
use Rattle.std.specs.FinMap.{get, insert, values, nat_cmp-IsAntisymmetric}
use Rattle.std.specs.Option.{option_or, option_to_list}
use Rattle.std.proofs.lemmas.Bool.{false≢true, and_parts, not-true}
use Rattle.std.proofs.lemmas.Option.{same_Some}
use Rattle.adm_lists.proofs.Keys.{at_key, put_over}
use Rattle.adm_lists.proofs.Members.{In}
use Rattle.adm_types.specs.Code.{has}
use Rattle.adm_types.specs.Limits.{is_listed}
use Rattle.adm_types.specs.Seasons.{closing}
use Rattle.adm_types.specs.declared.rows.School.{School}
use Rattle.adm_types.specs.declared.rows.Child.{Child}
use Rattle.adm_types.specs.declared.rows.Application.{Application}
use Rattle.adm_types.specs.declared.rows.PlaceRow.{PlaceRow}
use Rattle.adm_types.specs.declared.rows.PlaceState.{PlaceState}
use Rattle.adm_types.specs.declared.draws.Lot.{Lot}
use Rattle.adm_types.specs.declared.draws.Outcome.{Outcome}
use Rattle.adm_types.specs.declared.commands.Refusal.TheVariants as refusal
use Rattle.adm_match.specs.Market.{Code}
use Rattle.adm_match.specs.Stability.{Allocation}
use Rattle.adm_round.specs.declared.applicants.Applicant.{Applicant}
use Rattle.adm_round.specs.Round.{number_of, listed}
use Rattle.adm_round.specs.Outcomes.{is_fresh, outcome_of, KeepsTenant}
use Rattle.adm_register.specs.State.{State, is_plan}
use Rattle.adm_register.specs.Wanted.{above, has_left, wanted_of, own_school}
use Rattle.adm_register.specs.WellFormed.{WellFormed, has_first_round}
use Rattle.adm_register.proofs.RoundKeys.{from_values}
use Rattle.adm_register.proofs.WaitLemmas.{wanted_parts}
use Rattle.adm_commands.specs.Commands.Round as round
use Rattle.adm_commands.specs.Commands.Round.{takes_part, applicant_of, round_applicants, round_lots, round_market, sites, plans_at, offer_of, AreOutcomes}
use Rattle.adm_commands.specs.Tests.{first_failing}
use Rattle.adm_commands.proofs.Passed.{passed}
use Rattle.adm_commands.proofs.RoundDraw.{round_draw, round_after}
use Rattle.adm_commands.proofs.RoundOffers.{IsRound, offer_made, outcome, is_given, tenants_given}
use Rattle.adm_commands.proofs.RoundRoom.{places_after}
use Rattle.adm_fairness.proofs.Beside.{BothGive, zip_given}
use Rattle.adm_fairness.proofs.Codes.{until}
use Rattle.adm_fairness.proofs.FairRound.{given_listed, until_wanted}
use Rattle.adm_fairness.proofs.Front.{IsFront, front_itself, front_until, until_filter}
use Rattle.adm_fairness.proofs.RoundPlaces.{wanted_here, fresh_none, child_of, plans_same, at_child, now_at, plan_stays}
use Rattle.adm_fairness.proofs.Taking.{IsTaking, taking}

-- an applicant, and the same one after a round
pub record IsAgain (a : Allocation) (x y : Applicant) : Type 0 where
  pub child : y.child ≡ x.child
  pub own : y.own ≡ a (number_of x)
  pub front : IsFront (listed y) (listed x) (a (number_of x))

module _ {old : State} {numbers : List ℕ} {outcomes : List Outcome} (facts : IsRound old numbers outcomes) (draw day : ℕ) where
  abbrev a : Allocation
  a = facts.best.allocation

  abbrev first_lots : List Lot
  first_lots = round_lots old numbers

  -- the register after the round
  abbrev pub next : State
  next = record old { places = places_after old day outcomes; draws = insert old.draws draw (round_draw old draw day numbers outcomes) }

  -- ---- the same places of plans

  pub same_plans : (school : Code) → plans_at next.places school ≡ plans_at old.places school
  same_plans = plans_same old.places next.places was (plan_stays facts day)
    where
      was : (q : ℕ) (row : PlaceRow) → get next.places q ≡ Some row → is_plan row.place.state ≡ true → get old.places q ≡ Some row
      was q row there plan = by (at_key child_of outcomes q) (sym (at_child facts day q) ∙ there)
        where
          offered : (o : Outcome) (made : Option PlaceRow) → offer_of day o ≡ made → option_or made (get old.places q) ≡ Some row → get old.places q ≡ Some row
          offered o None is at = at
          offered o (Some made) is at =
              let state : is_plan row.place.state ≡ false = ap (λ (r : PlaceRow). is_plan r.place.state) (sym (same_Some made row at)) ∙ ap is_plan (offer_made day o made is).3 in
              absurd (false≢true (sym state ∙ plan))

          by : (found : Option Outcome) → put_over (offer_of day) found (get old.places q) ≡ Some row → get old.places q ≡ Some row
          by None at = at
          by (Some o) at = offered o (offer_of day o) refl at

  pub same_sites : sites next ≡ sites old
  same_sites = λ i. map (λ (school : School). record { school = school; quota = school.pan - same_plans school.code i }) (values old.schools)

  -- ---- who takes part again

  module _ (application : Application) (c : Applicant) (taking : IsTaking old application c) where
    abbrev then : Applicant
    then = record { child = c.child; wanted = wanted_of next application; own = own_school (get next.places application.child) }

    abbrev place : Option PlaceRow
    place = get old.places application.child

    abbrev stays : Code → Bool
    stays other = not (has_left old.left application.child other)

    its_place : (made : Option PlaceRow) → offer_of day (outcome facts c) ≡ made → get next.places application.child ≡ option_or made place
    its_place made is = now_at facts day application c taking ∙ ap (λ o. option_or o place) is

    -- where nothing is offered, it is the same
    unchanged : offer_of day (outcome facts c) ≡ None → IsAgain a c then
    unchanged none =
        let same = its_place None none in
        let wanted : wanted_of next application ≡ c.wanted = ap (λ o. filter stays (above o application.list)) same ∙ sym taking.wanted in
        let own : own_school (get next.places application.child) ≡ c.own = ap own_school same ∙ sym taking.own in
        let lists : listed then ≡ listed c = λ i. wanted i ++ option_to_list (own i) in
        record {
          child = refl;
          own = own ∙ its_own (a (number_of c)) refl;
          front = subst (λ u. IsFront u (listed c) (a (number_of c))) (sym lists) (front_itself (listed c) (a (number_of c)) (λ s is. given_listed facts day application c taking s is));
        }
      where
        tenant : is_some c.own ≡ true → is_some (a (number_of c)) ≡ true
        tenant = is_given facts KeepsTenant (tenants_given facts) c taking.among

        no_own : (own : Option Code) → c.own ≡ own → a (number_of c) ≡ None → own ≡ None
        no_own None is given = refl
        no_own (Some s) is given = absurd (false≢true (sym (ap is_some given) ∙ tenant (ap is_some is)))

        its_own : (given : Option Code) → a (number_of c) ≡ given → c.own ≡ a (number_of c)
        its_own None is = no_own c.own refl is ∙ sym is
        its_own (Some s) is = fresh_none day (number_of c) s c.own (ap (λ o. offer_of day (outcome_of c o)) (sym is) ∙ none) ∙ sym is

    -- where a school is offered, its list ends there
    moved : (row : PlaceRow) → offer_of day (outcome facts c) ≡ Some row → IsAgain a c then
    moved row is =
        let school : Code = row.place.school in
        let parts = offer_made day (outcome facts c) row is in
        let now = its_place (Some row) is in
        let fresh : is_fresh c.own (Some school) ≡ true = ap (is_fresh c.own) (sym parts.1) ∙ parts.0 in
        let here : is_listed c.wanted school ≡ true = wanted_here c.wanted c.own school (given_listed facts day application c taking school parts.1) (not-true (has c.own school) fresh) in
        let both = and_parts (is_listed (above place application.list) school) (stays school) (wanted_parts old application school ∙ (ap (λ cs. is_listed cs school) (sym taking.wanted) ∙ here)) in
        let wanted : wanted_of next application ≡ until school c.wanted =
        ap (λ o. filter stays (above o application.list)) now
        ∙ (ap (filter stays) (sym (until_wanted facts day application c taking school both.0))
        ∙ (sym (until_filter stays school (above place application.list) both.1) ∙ ap (until school) (sym taking.wanted))) in
        let own : own_school (get next.places application.child) ≡ Some school =
        ap own_school now ∙ ap (λ (state : PlaceState). cond (is_plan state) None (Some school)) parts.3 in
        let lists : listed then ≡ until school c.wanted ++ school ∷ [] = λ i. wanted i ++ option_to_list (own i) in
        record {
          child = refl;
          own = own ∙ sym parts.1;
          front = subst (λ u. IsFront u (listed c) (a (number_of c))) (sym lists)
              (subst (IsFront (until school c.wanted ++ school ∷ []) (listed c)) (sym parts.1) (front_until school c.wanted (option_to_list c.own) here));
        }

    is_again : IsAgain a c then
    is_again = by (offer_of day (outcome facts c)) refl
      where
        by : (made : Option PlaceRow) → offer_of day (outcome facts c) ≡ made → IsAgain a c then
        by None is = unchanged is
        by (Some row) is = moved row is

  module _ (all : (application : Application) → get old.applications application.child ≡ Some application → takes_part old application ≡ true) (held : has_first_round next.draws ≡ true) where
    each_again : (application : Application) → In application (values old.applications) → BothGive (IsAgain a) (applicant_of old application) (applicant_of next application)
    each_again application at =
        let there = from_values nat_cmp_total nat_cmp-IsAntisymmetric old.applications (λ (x : Application). x.child)
        (λ number row here. (facts.well.base.applications_fit number row here).own_number) application at in
        let c = taking old facts.well application there (all application there) in
        let first : applicant_of old application ≡ Some c.0 =
        (λ i. cond (all application there i) (option_map (λ (child : Child). record { child = child; wanted = wanted_of old application; own = own_school (get old.places application.child) }) (c.1.there i)) None)
        ∙ (λ i. Some (record { child = c.0.child; wanted = sym c.1.wanted i; own = sym c.1.own i })) in
        let second : applicant_of next application ≡ Some (then application c.0 c.1) =
        (λ i. cond (held i || nat_le application.day (closing old.season))
        (option_map (λ (child : Child). record { child = child; wanted = wanted_of next application; own = own_school (get next.places application.child) }) (c.1.there i)) None) in
        subst (λ o. BothGive (IsAgain a) o (applicant_of next application)) (sym first)
        (subst (BothGive (IsAgain a) (Some c.0)) (sym second) (is_again application c.0 c.1))

    pub applicants_again : AllZip (IsAgain a) (round_applicants old) (round_applicants next)
    applicants_again = zip_given (IsAgain a) (applicant_of old) (applicant_of next) (values old.applications) each_again

-- a round was held after one
pub held_after : (old : State) (draw day : ℕ) (numbers : List ℕ) (outcomes : List Outcome) → WellFormed old → first_failing (round.tests old draw day numbers) ≡ None
    → has_first_round (insert old.draws draw (round_draw old draw day numbers outcomes)) ≡ true
unfolding round.tests
held_after old draw day numbers outcomes well passes =
    round_after old (round_draw old draw day numbers outcomes) well ((unsigned_Decides draw _).0 (passed (round.tests old draw day numbers) passes refusal.WrongDraw))
