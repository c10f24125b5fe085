-- There is room at each school after a round.
use Rattle.std.proofs.Common.{◌≡◌, ◌∙◌, ap, sym, subst, refl, true, false, ℕ, ◌≤◌, List, Option, Some, None, arith, inl, inr}
use Rattle.std.specs.Prelude.{not, ◌&&◌, nat_eq, count_by}
use Rattle.std.specs.Ordering.{nat_cmp}
use Rattle.std.specs.Cmp.{nat_cmp_total}
use Rattle.std.specs.Cmp.Lexicographic.{pointwise}
use Rattle.std.specs.BTreeMap.{is_at}
use Rattle.std.specs.Map.{lookup}
use Rattle.std.specs.FinMap.{FinMap, get, entries, nat_cmp-IsAntisymmetric}
use Rattle.std.specs.Option.{option_or}
use Rattle.std.proofs.lemmas.Bool.{cases_Bool, false≢true, and_parts, not-true}
use Rattle.std.proofs.lemmas.Option.{same_Some, none-some}
use Rattle.adm_lists.proofs.Members.{All_in, none_in}
use Rattle.adm_lists.proofs.Maps.{entries_in_order, map_of_entries, get_rows}
use Rattle.adm_lists.proofs.Keys.{by_key, at_key, put_over, in_key, from_key, values_by}
use Rattle.adm_lists.proofs.Counts.{count_le}
use Rattle.adm_types.specs.Code.{has}
use Rattle.adm_types.specs.declared.rows.School.{School}
use Rattle.adm_types.specs.declared.rows.PlaceRow.{PlaceRow}
use Rattle.adm_types.specs.declared.draws.Outcome.{Outcome}
use Rattle.adm_match.specs.Market.{Code}
use Rattle.adm_round.specs.declared.applicants.Site.{Site}
use Rattle.adm_round.specs.Round.{number_of}
use Rattle.adm_round.specs.Outcomes.{HasRoom, KeepsTenant, outcomes_at, has_fresh}
use Rattle.adm_register.specs.State.{State, is_plan}
use Rattle.adm_register.specs.Change.{put_all}
use Rattle.adm_commands.specs.Commands.Round.{quota, sites, offer_of, offers_on}
use Rattle.adm_register.specs.WellFormed.{AllRows, is_unplanned_at, places_outside_plans}
use Rattle.adm_commands.proofs.HeldLemmas.{held_le}
use Rattle.adm_register.proofs.Puts.{get-put_all}
use Rattle.adm_register.proofs.RoundKeys.{put_given}
use Rattle.adm_commands.proofs.RoundEntrants.{has_site}
use Rattle.adm_commands.proofs.RoundOffers.{IsRound, allotted, offer_made, kept_school, outcome, its_outcome, is_given, tenants_given, children_rise, tenant_is}

abbrev child_of : Outcome → ℕ
child_of o = o.child

-- the places with what is offered put over them
abbrev pub places_after : State → ℕ → List Outcome → FinMap nat_cmp PlaceRow
places_after old day outcomes = put_all (λ (p : PlaceRow). p.child) old.places (offers_on day outcomes)

abbrev over : ℕ → Option Outcome → Option PlaceRow → Option PlaceRow
over day o there = put_over (offer_of day) o there

module _ {old : State} {numbers : List ℕ} {outcomes : List Outcome} (facts : IsRound old numbers outcomes) (day : ℕ) where
  abbrev new : FinMap nat_cmp PlaceRow
  new = places_after old day outcomes

  -- a child has what it is offered, or else what it had
  at_child : (number : ℕ) → get new number ≡ over day (at_key child_of outcomes number) (get old.places number)
  at_child number =
      get-put_all nat_cmp_total (λ (p : PlaceRow). p.child) old.places (offers_on day outcomes) number
      ∙ put_given child_of (λ (p : PlaceRow). p.child) (offer_of day) (λ o row made. (offer_made day o row made).2) outcomes (children_rise facts) number (get old.places number)

  module _ (code : Code) where
    -- the outcome of a child that keeps a place at the school is that school
    stays : (number : ℕ) (row : PlaceRow) (found : Option Outcome) → at_key child_of outcomes number ≡ found → get old.places number ≡ Some row → is_unplanned_at (Some row) code ≡ true
        → ((o : Outcome) → found ≡ Some o → offer_of day o ≡ None) → (o : Outcome) × (found ≡ Some o) × (has o.school code ≡ true)
    stays number row found at there held none =
        let both = and_parts (pointwise nat_eq row.place.school code) (not (is_plan row.place.state)) held in
        let tenant = tenant_is facts number row there (not-true _ both.1) in
        let applicant = tenant.0 in
        let it = outcome facts applicant in
        let is : found ≡ Some it =
        sym at ∙ ap (at_key child_of outcomes) (sym tenant.2)
        ∙ in_key child_of outcomes it (children_rise facts) (its_outcome facts applicant tenant.1) in
        let keeps = is_given facts KeepsTenant (tenants_given facts) applicant tenant.1 in
        let school = kept_school day (number_of applicant) applicant.own it.school row.place.school tenant.3 keeps (none it is) in
        (it, is, ap (λ o. has o code) school ∙ both.0)

    -- each place that is held at the school afterwards is an outcome there
    has_outcome : (number : ℕ) (row : PlaceRow) → get new number ≡ Some row → is_unplanned_at (Some row) code ≡ true
        → (o : Outcome) × (at_key child_of outcomes number ≡ Some o) × (has o.school code ≡ true)
    has_outcome number row there held = by (at_key child_of outcomes number) refl (sym (at_child number) ∙ there)
      where
        offered : (o : Outcome) → at_key child_of outcomes number ≡ Some o → (made : Option PlaceRow) → offer_of day o ≡ made → option_or made (get old.places number) ≡ Some row
            → (o : Outcome) × (at_key child_of outcomes number ≡ Some o) × (has o.school code ≡ true)
        offered o at None is now = stays number row (at_key child_of outcomes number) refl now held (λ other same. ap (offer_of day) (same_Some other o (sym same ∙ at)) ∙ is)
        offered o at (Some other) is now =
            let school = (offer_made day o row (is ∙ now)).1 in
            (o, at, ap (λ s. has s code) school ∙ (and_parts (pointwise nat_eq row.place.school code) (not (is_plan row.place.state)) held).0)

        by : (found : Option Outcome) → at_key child_of outcomes number ≡ found → over day found (get old.places number) ≡ Some row
            → (o : Outcome) × (at_key child_of outcomes number ≡ Some o) × (has o.school code ≡ true)
        by None at now = stays number row (at_key child_of outcomes number) refl now held (λ o is. absurd (none-some o (sym at ∙ is)))
        by (Some o) at now = offered o at (offer_of day o) refl now

    -- where none has the school afresh, each was held there before
    was_held : has_fresh code outcomes ≡ false → (number : ℕ) (row : PlaceRow) → get new number ≡ Some row → is_unplanned_at (Some row) code ≡ true
        → is_unplanned_at (get old.places number) code ≡ true
    was_held none number row there held = by (at_key child_of outcomes number) refl (sym (at_child number) ∙ there)
      where
        offered : (o : Outcome) → at_key child_of outcomes number ≡ Some o → (made : Option PlaceRow) → offer_of day o ≡ made
            → option_or made (get old.places number) ≡ Some row → is_unplanned_at (get old.places number) code ≡ true
        offered o at None is now = ap (λ p. is_unplanned_at p code) now ∙ held
        offered o at (Some other) is now =
            let parts = offer_made day o row (is ∙ now) in
            let here = (and_parts (pointwise nat_eq row.place.school code) (not (is_plan row.place.state)) held).0 in
            let fresh = none_in (λ (x : Outcome). has x.school code && x.fresh) outcomes o none (from_key child_of outcomes number o at).0 in
            absurd (false≢true (sym fresh ∙ (λ i. has (parts.1 i) code && parts.0 i) ∙ ap (λ b. b && true) here))

        by : (found : Option Outcome) → at_key child_of outcomes number ≡ found → over day found (get old.places number) ≡ Some row → is_unplanned_at (get old.places number) code ≡ true
        by None at now = ap (λ p. is_unplanned_at p code) now ∙ held
        by (Some o) at now = offered o at (offer_of day o) refl now

    at_entries : (number : ℕ) → get new number ≡ lookup (is_at (nat_cmp number)) (entries new)
    at_entries number = sym (ap (λ m. get m number) (map_of_entries nat_cmp_total nat_cmp-IsAntisymmetric new)) ∙ get_rows nat_cmp_total (entries new) number

    held_are_outcomes : places_outside_plans new code ≤ outcomes_at code outcomes
    held_are_outcomes =
        subst (λ os. places_outside_plans new code ≤ count_by (λ (o : Outcome). has o.school code) os) (values_by child_of outcomes)
        (count_le (λ row. is_unplanned_at (Some row) code) (λ (o : Outcome). has o.school code) (entries new) (by_key child_of outcomes) (entries_in_order new)
        (λ number row there held. has_outcome number row (at_entries number ∙ there) held))

  -- at each school those that are held are at most its admission number
  pub room_after : AllRows (λ code (school : School). places_outside_plans new code ≤ school.pan) old.schools
  room_after code school there = elim (cases_Bool (has_fresh code outcomes)) [
    | inl fresh ↦
        let site : Site = record { school = school; quota = quota old school } in
        let room = All_in (HasRoom outcomes) (sites old) site (allotted facts).2 (has_site old facts.well code school there) in
        let own = (facts.well.base.schools_fit code school there).own_code in
        let few : outcomes_at code outcomes ≤ quota old school = subst (λ c. has_fresh c outcomes ≡ true → outcomes_at c outcomes ≤ quota old school) own room fresh in
        let held = held_are_outcomes code in
        omega (arith, few, held)
    | inr none ↦
        let less = held_le code old.places new (was_held code none) in
        let room = facts.well.places.room code school there in
        omega (arith, less, room)
  ]
