-- What the outcomes of a round offer, and to whom.
use Rattle.std.proofs.Common.{◌≡◌, ◌∙◌, ap, sym, subst, refl, cond, Bool, true, false, ℕ, List, ◌++◌, Option, Some, None, inl, inr}
use Rattle.std.specs.Prelude.{IfSome, is_some, not, ◌&&◌, ◌||◌, nat_eq, nat_le, option_map, map, All, if◌then◌else◌}
use Rattle.std.specs.Ordering.{nat_cmp}
use Rattle.std.specs.Cmp.Lexicographic.{pointwise, bytes_decides}
use Rattle.std.specs.Option.{option_to_list}
use Rattle.std.specs.List.{AllByRecursion, AllZip}
use Rattle.std.specs.List.Sorted.{IsStrictlySortedBy}
use Rattle.std.specs.FinMap.{get, contains_key}
use Rattle.std.proofs.lemmas.Bool.{false≢true, and_parts, not-true}
use Rattle.std.proofs.lemmas.Option.{same_Some, none-some}
use Rattle.adm_lists.proofs.Members.{In, in_all, in_map, from_map, from_filter_map, from_append, zip_in}
use Rattle.adm_lists.proofs.Rising.{sorted_filter_map}
use Rattle.adm_types.specs.Code.{has}
use Rattle.adm_types.specs.Limits.{is_listed, is_from, first_day, last_day}
use Rattle.adm_types.specs.Seasons.{closing}
use Rattle.adm_types.specs.declared.rows.Application.{Application}
use Rattle.adm_types.specs.declared.rows.PlaceRow.{PlaceRow}
use Rattle.adm_types.specs.declared.rows.PlaceState.TheVariants.{Offered}
use Rattle.adm_types.specs.declared.draws.Outcome.{Outcome}
use Rattle.adm_match.specs.Market.{Code}
use Rattle.adm_round.specs.declared.applicants.Applicant.{Applicant}
use Rattle.adm_round.specs.Round.{number_of, listed, IsPosed}
use Rattle.adm_round.specs.Outcomes.{is_fresh, outcome_of, HasListedSchool, KeepsTenant, HasRoom, AllotmentFits}
use Rattle.adm_register.specs.State.{State, is_plan}
use Rattle.adm_commands.specs.Commands.Round.{round_applicants, sites, round_lots, AreOutcomes, offer_of, offers_on}
use Rattle.adm_register.specs.Wanted.{has_left, own_school}
use Rattle.adm_register.specs.WellFormed.{WellFormed, PlaceFits, has_first_round, has_days_in_order, lists_school}
use Rattle.adm_register.proofs.RoundLemmas.{listed_in, in_listed}
use Rattle.adm_commands.proofs.RoundEntrants.{entrant_is, applicant_there, school_there}
use Rattle.adm_register.proofs.WaitLemmas.{wants_is}

-- what is offered is the school of a fresh outcome
pub offer_made : (day : ℕ) (outcome : Outcome) (row : PlaceRow) → offer_of day outcome ≡ Some row
    → (outcome.fresh ≡ true) × (outcome.school ≡ Some row.place.school) × (row.child ≡ outcome.child) × (row.place.state ≡ Offered day None)
offer_made day outcome row made = by outcome.fresh outcome.school made
  where
    by : (fresh : Bool) (school : Option Code) → cond fresh (option_map (λ s. record { child = outcome.child; place = record { school = s; state = Offered day None } }) school) None ≡ Some row
        → (fresh ≡ true) × (school ≡ Some row.place.school) × (row.child ≡ outcome.child) × (row.place.state ≡ Offered day None)
    by false school made = absurd (none-some row made)
    by true None made = absurd (none-some row made)
    by true (Some s) made =
        let it : PlaceRow = record { child = outcome.child; place = record { school = s; state = Offered day None } } in
        let same : it ≡ row = same_Some it row made in
        (refl, ap (λ (r : PlaceRow). Some r.place.school) same, sym (ap (λ (r : PlaceRow). r.child) same), sym (ap (λ (r : PlaceRow). r.place.state) same))

-- a school of the list that is not the own one is wanted
wanted_fresh : (wanted : List Code) (own : Option Code) (code : Code) → is_listed (wanted ++ option_to_list own) code ≡ true → is_fresh own (Some code) ≡ true → is_listed wanted code ≡ true
wanted_fresh wanted own code lists fresh = elim (from_append wanted (option_to_list own) code (listed_in (wanted ++ option_to_list own) code lists)) [
  | inl here ↦ in_listed wanted code here
  | inr there ↦ absurd (own_not own there fresh)
]
  where
    own_not : (own : Option Code) → In code (option_to_list own) → not (has own code) ≡ true → ⊥
    own_not None at fresh = at
    own_not (Some other) at fresh = elim at [
      | inl same ↦ false≢true (sym (not-true (pointwise nat_eq other code) fresh) ∙ (bytes_decides other code).1 same)
      | inr later ↦ later
    ]

-- where nothing is offered to a tenant that has a school, it is its own
pub kept_school : (day child : ℕ) (own place : Option Code) (code : Code) → own ≡ Some code → (is_some own ≡ true → is_some place ≡ true)
    → offer_of day (record { child = child; school = place; fresh = is_fresh own place }) ≡ None → place ≡ Some code
kept_school day child own None code is has none = absurd (false≢true (has (ap is_some is)))
kept_school day child own (Some other) code is has none =
    elim (pointwise nat_eq code other) as (λ b. pointwise nat_eq code other ≡ b → Some other ≡ Some code) [
      | true ↦ λ same. ap Some (sym ((bytes_decides code other).0 same))
      | false ↦ λ differs.
          let made : offer_of day (record { child = child; school = Some other; fresh = is_fresh own (Some other) }) ≡ Some
          (record { child = child; place = record { school = other; state = Offered day None } }) =
          (λ i. offer_of day (record { child = child; school = Some other; fresh = is_fresh (is i) (Some other) }))
          ∙ ap (λ b. offer_of day (record { child = child; school = Some other; fresh = not b })) differs in
          absurd (none-some _ (sym none ∙ made))
    ] refl

-- what a round offers is a school that the child wants, and that is there
pub record IsOffered (old : State) (day : ℕ) (row : PlaceRow) : Type 0 where
  pub application : Application
  pub applied : get old.applications row.child ≡ Some application
  pub child : contains_key old.children row.child ≡ true
  pub school : contains_key old.schools row.place.school ≡ true
  pub lists : is_listed application.list row.place.school ≡ true
  pub not_left : has_left old.left row.child row.place.school ≡ false
  pub state : row.place.state ≡ Offered day None

-- the outcomes of a round that a register poses, with these numbers as its lots
pub record IsRound (old : State) (numbers : List ℕ) (outcomes : List Outcome) : Type 0 where
  pub well : WellFormed old
  pub posed : IsPosed (sites old) (round_applicants old) (round_lots old numbers)
  pub best : AreOutcomes old numbers outcomes
  pub law : AllotmentFits

module _ {old : State} {numbers : List ℕ} {outcomes : List Outcome} (facts : IsRound old numbers outcomes) where
  -- what an applicant has
  abbrev pub outcome : Applicant → Outcome
  outcome applicant = outcome_of applicant (facts.best.allocation (number_of applicant))

  pub its_outcome : (applicant : Applicant) → In applicant (round_applicants old) → In (outcome applicant) outcomes
  its_outcome applicant at = subst (In (outcome applicant)) (sym facts.best.given) (in_map outcome (round_applicants old) applicant at)

  pub of_outcome : (o : Outcome) → In o outcomes → (applicant : Applicant) × In applicant (round_applicants old) × (outcome applicant ≡ o)
  of_outcome o at = from_map outcome (round_applicants old) o (subst (In o) facts.best.given at)

  pub is_given : (R : Applicant → Outcome → Type 0) → AllZip R (round_applicants old) outcomes → (applicant : Applicant) → In applicant (round_applicants old) → R applicant (outcome applicant)
  is_given R all applicant at = zip_in R outcome (round_applicants old) applicant (subst (AllZip R (round_applicants old)) facts.best.given all) at

  -- what the law says of the outcomes
  abbrev pub allotted : AllZip HasListedSchool (round_applicants old) outcomes × AllZip KeepsTenant (round_applicants old) outcomes × All (HasRoom outcomes) (sites old)
      × (map (λ (o : Outcome). o.child) outcomes ≡ map number_of (round_applicants old))
  allotted = facts.law (sites old) (round_applicants old) (round_lots old numbers) outcomes facts.posed facts.best

  pub lists_given : AllZip HasListedSchool (round_applicants old) outcomes
  lists_given = allotted.0

  pub tenants_given : AllZip KeepsTenant (round_applicants old) outcomes
  tenants_given = allotted.1

  pub children_rise : IsStrictlySortedBy nat_cmp (map (λ (o : Outcome). o.child) outcomes)
  children_rise = subst (IsStrictlySortedBy nat_cmp) (sym allotted.3) facts.posed.numbers_rise

  pub offered_is : (day : ℕ) (row : PlaceRow) → In row (offers_on day outcomes) → IsOffered old day row
  offered_is day row at =
      let found = from_filter_map (offer_of day) outcomes row at in
      let who = of_outcome found.0 found.1 in
      let applicant = who.0 in
      let code = row.place.school in
      let parts = offer_made day (outcome applicant) row (ap (offer_of day) who.2 ∙ found.2) in
      let entrant = entrant_is old facts.well applicant who.1 in
      let lists = subst (λ o. IfSome o (λ s. is_listed (listed applicant) s ≡ true)) parts.1 (is_given HasListedSchool lists_given applicant who.1) in
      let wanted = wanted_fresh applicant.wanted applicant.own code lists (subst (λ o. is_fresh applicant.own o ≡ true) parts.1 parts.0) in
      let both = wants_is old facts.well entrant.application code (ap (λ codes. is_listed codes code) (sym entrant.wanted) ∙ wanted) in
      record {
        application = entrant.application;
        applied = ap (get old.applications) parts.2 ∙ entrant.applied;
        child = ap (contains_key old.children) parts.2 ∙ entrant.child;
        school = school_there old facts.well (round_lots old numbers) facts.posed applicant code who.1 lists;
        lists = both.0;
        not_left = ap (λ n. has_left old.left n code) (parts.2 ∙ sym entrant.numbered) ∙ both.1;
        state = parts.3;
      }

  -- each place that is offered fits
  pub offers_fit : (day : ℕ) (held : Bool) → is_from first_day last_day day ≡ true → held ≡ true
      → AllByRecursion (λ (p : PlaceRow). PlaceFits old.schools old.children old.applications held p.child p) (offers_on day outcomes)
  offers_fit day held is_day was = in_all (λ (p : PlaceRow). PlaceFits old.schools old.children old.applications held p.child p) (offers_on day outcomes) (λ row at.
      let it = offered_is day row at in
      record {
        own_number = refl;
        child = it.child;
        school = it.school;
        state = ap has_days_in_order it.state ∙ is_day;
        entitled = (λ i. if is_plan (it.state i) then not (is_some (it.applied i)) else was i && lists_school (it.applied i) row.place.school) ∙ it.lists;
      })

  -- at a school that its child has not left
  pub offers_apart : (day : ℕ) → AllByRecursion (λ (p : PlaceRow). (is_plan p.place.state
      || not (contains_key old.left (record { child = p.child; school = p.place.school }))) ≡ true) (offers_on day outcomes)
  offers_apart day = in_all (λ (p : PlaceRow). (is_plan p.place.state || not (contains_key old.left (record { child = p.child; school = p.place.school }))) ≡ true) (offers_on day outcomes) (λ row at.
      let it = offered_is day row at in
      λ i. is_plan (it.state i) || not (it.not_left i))

  -- in the order of the children
  pub offers_rise : (day : ℕ) → IsStrictlySortedBy nat_cmp (map (λ (p : PlaceRow). p.child) (offers_on day outcomes))
  offers_rise day = sorted_filter_map nat_cmp (λ (o : Outcome). o.child) (λ (p : PlaceRow). p.child) (offer_of day) (λ o row made. (offer_made day o row made).2) outcomes children_rise

  -- a child with a place that is not that of a plan is a tenant in the round
  pub tenant_is : (number : ℕ) (row : PlaceRow) → get old.places number ≡ Some row → is_plan row.place.state ≡ false
      → (applicant : Applicant) × In applicant (round_applicants old) × (number_of applicant ≡ number) × (applicant.own ≡ Some row.place.school)
  tenant_is number row there other =
      let fits = facts.well.places.each number row there in
      let entitled = and_parts (has_first_round old.draws) (lists_school (get old.applications row.child) row.place.school)
      (sym (ap (λ b. if b then not (is_some (get old.applications row.child)) else has_first_round old.draws
      && lists_school (get old.applications row.child) row.place.school) other) ∙ fits.entitled) in
      elim (get old.applications row.child) as (λ o. get old.applications row.child ≡ o → lists_school o row.place.school ≡ true
      → (applicant : Applicant) × In applicant (round_applicants old) × (number_of applicant ≡ number) × (applicant.own ≡ Some row.place.school)) [
        | None ↦ λ is lists. absurd (false≢true lists)
        | Some application ↦ λ is lists.
            let found = applicant_there old facts.well number application (ap (get old.applications) (sym fits.own_number)
            ∙ is) (ap (λ b. b || nat_le application.day (closing old.season)) entitled.0) in
            let entrant = entrant_is old facts.well found.0 found.1 in
            (found.0, found.1, found.2, entrant.own ∙ ap (λ n. own_school (get old.places n)) found.2 ∙ ap own_school there ∙ ap (λ b. cond b None (Some row.place.school)) other)
      ] refl entitled.1
