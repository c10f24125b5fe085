-- The places that a round leaves: what each child has, and how many are at a school.
use Rattle.std.proofs.Common.{◌≡◌, ◌∙◌, ap, sym, subst, refl, cond, Bool, true, false, not, ◌&&◌, ℕ, ◌+◌, ◌≤◌, List, [], ◌∷◌, Option, Some, None, map, inl, inr, arith, ◌++◌, ◌||◌, length}
use Rattle.std.specs.Prelude.{bytes_eq, is_some, count_by}
use Rattle.std.specs.Ordering.{nat_cmp}
use Rattle.std.specs.Cmp.{nat_cmp_total}
use Rattle.std.specs.BTreeMap.{is_at}
use Rattle.std.specs.Map.{lookup}
use Rattle.std.specs.List.Sorted.{IsStrictlySortedBy}
use Rattle.std.specs.FinMap.{FinMap, get, entries, values, nat_cmp-IsAntisymmetric}
use Rattle.std.specs.Option.{option_or, option_to_list}
use Rattle.std.proofs.lemmas.Bool.{cases_Bool, false≢true, and_parts, not-true, or_cases}
use Rattle.std.proofs.lemmas.Option.{same_Some, none-some}
use Rattle.std.proofs.lemmas.Slice.Eq.{bytes_eq-Decides}
use Rattle.std.proofs.lemmas.List.Sums.{sum_by-cons}
use Rattle.adm_lists.proofs.Maps.{entries_in_order, map_of_entries, get_rows}
use Rattle.adm_lists.proofs.Keys.{by_key, at_key, put_over, in_key, from_key, values_by, keys_by}
use Rattle.adm_lists.proofs.Counts.{count_le}
use Rattle.adm_types.specs.Code.{has}
use Rattle.adm_types.specs.declared.rows.Application.{Application}
use Rattle.adm_types.specs.declared.rows.PlaceRow.{PlaceRow}
use Rattle.adm_types.specs.declared.rows.PlaceState.TheVariants.{Offered}
use Rattle.adm_types.specs.declared.draws.Outcome.{Outcome}
use Rattle.adm_match.specs.Market.{Code, Candidate}
use Rattle.adm_match.specs.Stability.{Allocation}
use Rattle.adm_match.proofs.RanksAndBlocks.{has_tells}
use Rattle.adm_round.specs.declared.applicants.Applicant.{Applicant}
use Rattle.adm_round.specs.Round.{number_of}
use Rattle.adm_round.specs.Outcomes.{is_fresh, outcome_of, outcomes_of, outcomes_at}
use Rattle.adm_register.specs.State.{State, is_plan}
use Rattle.adm_register.specs.Wanted.{own_school}
use Rattle.adm_register.specs.WellFormed.{is_unplanned_at, places_outside_plans, has_first_round, lists_school}
use Rattle.adm_register.proofs.Puts.{get-put_all}
use Rattle.adm_register.proofs.RoundKeys.{put_given}
use Rattle.adm_commands.specs.Commands.Round.{plans_at, offer_of, offers_on}
use Rattle.adm_commands.proofs.RoundOffers.{IsRound, offer_made, outcome, its_outcome, of_outcome, children_rise}
use Rattle.adm_commands.proofs.RoundRoom.{places_after}
use Rattle.adm_fairness.proofs.Codes.{split_count, rank_in}
use Rattle.adm_fairness.proofs.Taking.{IsTaking, taking_of}
use Rattle.std.proofs.lemmas.List.Folds.{list_any-append}
use Rattle.adm_types.specs.Limits.{is_listed}

abbrev pub child_of : Outcome → ℕ
child_of o = o.child

-- a place that makes a tenant is one outside plans
pub own_is : (place : Option PlaceRow) (code : Code) → own_school place ≡ Some code → is_unplanned_at place code ≡ true
own_is None code is = absurd (none-some code is)
own_is (Some row) code is = by (is_plan row.place.state) is
  where
    by : (plan : Bool) → cond plan None (Some row.place.school) ≡ Some code → (bytes_eq row.place.school code && not plan) ≡ true
    by true is = absurd (none-some code is)
    by false is = ap (λ b. b && true) ((bytes_eq-Decides row.place.school code).1 (same_Some row.place.school code is))

pub at_entries : (places : FinMap nat_cmp PlaceRow) (q : ℕ) → get places q ≡ lookup (is_at (nat_cmp q)) (entries places)
at_entries places q = sym (ap (λ m. get m q) (map_of_entries nat_cmp_total nat_cmp-IsAntisymmetric places)) ∙ get_rows nat_cmp_total (entries places) q

-- the places of plans are as many, where they are the same ones
pub plans_same : (was now : FinMap nat_cmp PlaceRow) → ((q : ℕ) (row : PlaceRow) → get now q ≡ Some row → is_plan row.place.state ≡ true → get was q ≡ Some row)
    → ((q : ℕ) (row : PlaceRow) → get was q ≡ Some row → is_plan row.place.state ≡ true → get now q ≡ Some row) → (school : Code) → plans_at now school ≡ plans_at was school
plans_same was now back forth school =
    let test : PlaceRow → Bool = λ row. bytes_eq row.place.school school && is_plan row.place.state in
    let plan : (row : PlaceRow) → test row ≡ true → is_plan row.place.state ≡ true = λ row passes. (and_parts (bytes_eq row.place.school school) (is_plan row.place.state) passes).1 in
    let fewer = count_le test test (entries now) (entries was) (entries_in_order now) (λ q row there passes. (row, sym (at_entries was q) ∙ back q row (at_entries now q ∙ there) (plan row passes), passes)) in
    let more = count_le test test (entries was) (entries now) (entries_in_order was) (λ q row there passes. (row, sym (at_entries now q) ∙ forth q row (at_entries was q ∙ there) (plan row passes), passes)) in
    omega (arith, fewer, more)

-- how many of the applicants an allocation gives a school
pub count_given : (entrant : Applicant → Candidate) → ((x : Applicant) → (entrant x).child ≡ number_of x) → (a : Allocation) (code : Code) (xs : List Applicant)
    → outcomes_at code (outcomes_of a xs) ≡ count_by (λ (e : Candidate). has (a e.child) code) (map entrant xs)
count_given entrant same a code [] = refl
count_given entrant same a code (x ∷ xs) =
    let one = sum_by-cons (λ (o : Outcome). cond (has o.school code) 1 0) (outcome_of x (a (number_of x))) (outcomes_of a xs) in
    let other = sum_by-cons (λ (e : Candidate). cond (has (a e.child) code) 1 0) (entrant x) (map entrant xs) in
    omega (arith, one, other, count_given entrant same a code xs, ap {B = ℕ} (λ n. cond (has (a n) code) 1 0) (same x))

-- a school of a list that is not the own one is among the first of it
pub wanted_here : (wanted : List Code) (own : Option Code) (code : Code) → is_listed (wanted ++ option_to_list own) code ≡ true → has own code ≡ false → is_listed wanted code ≡ true
wanted_here wanted own code lists apart =
    elim (or_cases (is_listed wanted code) (is_listed (option_to_list own) code) (sym (list_any-append (λ other. bytes_eq other code) wanted (option_to_list own)) ∙ lists)) [
      | inl here ↦ here
      | inr there ↦ absurd (none own there apart)
    ]
  where
    none : (own : Option Code) → is_listed (option_to_list own) code ≡ true → has own code ≡ false → ⊥
    none None there apart = false≢true there
    none (Some other) there apart = false≢true (sym (ap (λ b. b || false) apart) ∙ there)

-- the index of what is given, or the end
abbrev pub rank_given : List Code → Option Code → ℕ
rank_given codes None = length codes
rank_given codes (Some code) = rank_in codes code

-- what is offered is fresh
pub fresh_none : (day child : ℕ) (school : Code) (own : Option Code) → offer_of day (record { child = child; school = Some school; fresh = not (has own school) }) ≡ None → own ≡ Some school
fresh_none day child school own none = by (has own school) refl none
  where
    by : (b : Bool) → has own school ≡ b → offer_of day (record { child = child; school = Some school; fresh = not b }) ≡ None → own ≡ Some school
    by true is none = (has_tells own school).0 is
    by false is none = absurd (none-some _ (sym none))

module _ {old : State} {numbers : List ℕ} {outcomes : List Outcome} (facts : IsRound old numbers outcomes) (day : ℕ) where
  abbrev new : FinMap nat_cmp PlaceRow
  new = places_after old day outcomes

  -- a child has what it is offered, or else what it had
  pub at_child : (number : ℕ) → get new number ≡ put_over (offer_of day) (at_key child_of outcomes number) (get old.places number)
  at_child number =
      get-put_all nat_cmp_total (λ (p : PlaceRow). p.child) old.places (offers_on day outcomes) number
      ∙ put_given child_of (λ (p : PlaceRow). p.child) (offer_of day) (λ o row made. (offer_made day o row made).2) outcomes (children_rise facts) number (get old.places number)

  -- the outcome of a child that takes part
  pub at_taking : (application : Application) (applicant : Applicant) → IsTaking old application applicant → at_key child_of outcomes application.child ≡ Some (outcome facts applicant)
  at_taking application applicant taking =
      ap (at_key child_of outcomes) (sym taking.number)
      ∙ in_key child_of outcomes (outcome facts applicant) (children_rise facts) (its_outcome facts applicant taking.among)

  -- so it has what the round gives it afresh, and else what it had
  pub now_at : (application : Application) (applicant : Applicant) → IsTaking old application applicant
      → get new application.child ≡ option_or (offer_of day (outcome facts applicant)) (get old.places application.child)
  now_at application applicant taking = at_child application.child ∙ ap (λ o. put_over (offer_of day) o (get old.places application.child)) (at_taking application applicant taking)

  -- an outcome is that of a child that takes part
  pub record IsOf (number : ℕ) (o : Outcome) : Type 0 where
    pub application : Application
    pub applicant : Applicant
    pub taking : IsTaking old application applicant
    pub number_is : application.child ≡ number
    pub outcome_is : outcome facts applicant ≡ o

  pub is_of : (number : ℕ) (o : Outcome) → at_key child_of outcomes number ≡ Some o → IsOf number o
  is_of number o at =
      let found = from_key child_of outcomes number o at in
      let who = of_outcome facts o found.0 in
      let taking = taking_of old facts.well who.0 who.1 in
      record {
        application = taking.0;
        applicant = who.0;
        taking = taking.1;
        number_is = sym taking.1.number ∙ (ap child_of who.2 ∙ found.1);
        outcome_is = who.2;
      }

  -- the place of a plan stays
  pub plan_stays : (number : ℕ) (row : PlaceRow) → get old.places number ≡ Some row → is_plan row.place.state ≡ true → get new number ≡ Some row
  plan_stays number row there plan = by (at_key child_of outcomes number) refl
    where
      by : (found : Option Outcome) → at_key child_of outcomes number ≡ found → get new number ≡ Some row
      by None at = at_child number ∙ (ap (λ o. put_over (offer_of day) o (get old.places number)) at ∙ there)
      by (Some o) at =
          let it = is_of number o at in
          let fits = facts.well.places.each number row there in
          let none : not (is_some (get old.applications row.child)) ≡ true =
          sym (ap (λ b. cond b (not (is_some (get old.applications row.child))) (has_first_round old.draws && lists_school (get old.applications row.child) row.place.school)) plan) ∙ fits.entitled in
          let some : is_some (get old.applications row.child) ≡ true =
          ap (λ n. is_some (get old.applications n)) (fits.own_number ∙ sym it.number_is) ∙ ap is_some it.taking.applied in
          absurd (false≢true (sym (not-true _ none) ∙ some))

  module _ (code : Code) where
    -- who is given the school has a place there outside plans
    given_has : (number : ℕ) (o : Outcome) → at_key child_of outcomes number ≡ Some o → has o.school code ≡ true
        → (row : PlaceRow) × (get new number ≡ Some row) × (is_unplanned_at (Some row) code ≡ true)
    given_has number o at given =
        let it = is_of number o at in
        let school : o.school ≡ Some code = (has_tells o.school code).0 given in
        let fresh : is_fresh it.applicant.own (Some code) ≡ o.fresh =
        ap (is_fresh it.applicant.own) (sym school ∙ sym (ap (λ (x : Outcome). x.school) it.outcome_is)) ∙ ap (λ (x : Outcome). x.fresh) it.outcome_is in
        let now = at_child number ∙ ap (λ x. put_over (offer_of day) x (get old.places number)) at in
        elim (cases_Bool o.fresh) [
          | inl first ↦
              let row : PlaceRow = record { child = o.child; place = record { school = code; state = Offered day None } } in
              let made : offer_of day o ≡ Some row = λ i. offer_of day (record { child = o.child; school = school i; fresh = first i }) in
              (row, now ∙ ap (λ x. option_or x (get old.places number)) made, ap (λ b. b && true) ((bytes_eq-Decides code code).1 refl))
          | inr again ↦
              let owned : it.applicant.own ≡ Some code = owns it.applicant.own (fresh ∙ again) in
              let held : is_unplanned_at (get old.places number) code ≡ true =
              own_is (get old.places number) code (ap (λ n. own_school (get old.places n)) (sym it.number_is) ∙ (sym it.taking.own ∙ owned)) in
              let none : offer_of day o ≡ None = λ i. offer_of day (record { child = o.child; school = o.school; fresh = again i }) in
              kept (get old.places number) held (now ∙ ap (λ x. option_or x (get old.places number)) none)
        ]
      where
        owns : (own : Option Code) → not (has own code) ≡ false → own ≡ Some code
        owns own none = (has_tells own code).0 (elim (cases_Bool (has own code)) [ inl hit ↦ hit | inr miss ↦ absurd (false≢true (sym none ∙ ap not miss)) ])

        kept : (place : Option PlaceRow) → is_unplanned_at place code ≡ true → get new number ≡ place → (row : PlaceRow) × (get new number ≡ Some row) × (is_unplanned_at (Some row) code ≡ true)
        kept None held is = absurd (false≢true held)
        kept (Some row) held is = (row, is, held)

    -- as many at least have a place there outside plans as are given the school
    given_at_most : outcomes_at code outcomes ≤ places_outside_plans new code
    given_at_most =
        subst (λ os. count_by (λ (o : Outcome). has o.school code) os ≤ places_outside_plans new code) (values_by child_of outcomes)
        (count_le (λ (o : Outcome). has o.school code) (λ row. is_unplanned_at (Some row) code) (by_key child_of outcomes) (entries new)
        (subst (IsStrictlySortedBy nat_cmp) (sym (keys_by child_of outcomes)) (children_rise facts))
        (λ number o there given. let it = given_has number o there given in (it.0, sym (at_entries new number) ∙ it.1, it.2)))

    plans_at_most : plans_at old.places code ≤ plans_at new code
    plans_at_most =
        let test : PlaceRow → Bool = λ row. bytes_eq row.place.school code && is_plan row.place.state in
        count_le test test (entries old.places) (entries new) (entries_in_order old.places) (λ number row there held. (
          row,
          sym (at_entries new number) ∙ plan_stays number row (at_entries old.places number ∙ there) (and_parts (bytes_eq row.place.school code) (is_plan row.place.state) held).1,
          held,
        ))

    -- the places at the school are at least those that the round gives and those of plans
    pub places_at_least : outcomes_at code outcomes + plans_at old.places code ≤ count_by (λ (row : PlaceRow). bytes_eq row.place.school code) (values new)
    places_at_least =
        let split = split_count (λ (row : PlaceRow). bytes_eq row.place.school code) (λ (row : PlaceRow). is_plan row.place.state) (values new) in
        omega (arith, split, given_at_most, plans_at_most)
