-- What the answers to offers put fits: accept, decline, lapse and remind.
use Rattle.std.proofs.Common.{◌≡◌, ◌∙◌, ◌+◌, ap, sym, subst, refl, cond, Bool, true, false, arith, ℕ, List, [], ◌∷◌, Some, None}
use Rattle.std.specs.Prelude.{nat_le, nat_eq, is_some, not, ◌&&◌, ◌||◌, Option, if◌then◌else◌}
use Rattle.std.specs.Cmp.{nat_cmp_total}
use Rattle.std.specs.Cmp.Lexicographic.{pointwise, bytes_decides}
use Rattle.std.specs.Ordering.{nat_cmp, eq_by_cmp}
use Rattle.std.specs.FinMap.{get, insert, remove, get-insert, contains_key, nat_cmp-IsAntisymmetric}
use Rattle.std.proofs.lemmas.Bool.{and_parts, not-true}
use Rattle.adm_lists.proofs.Options.{none_of}
use Rattle.adm_lists.proofs.Orders.{same_key}
use Rattle.adm_lists.proofs.Maps.{not_contains_key-removed}
use Rattle.adm_types.specs.Limits.{is_from, first_day, last_day}
use Rattle.adm_types.specs.declared.rows.PlaceRow.{PlaceRow}
use Rattle.adm_types.specs.declared.rows.PlaceState.{PlaceState}
use Rattle.adm_types.specs.declared.rows.PlaceState.TheVariants.{Offered, Accepted, Plan}
use Rattle.adm_types.specs.declared.rows.LeftPair.{LeftPair}
use Rattle.adm_register.specs.State.{State, is_plan}
use Rattle.adm_register.specs.Change.{no_change}
use Rattle.adm_register.specs.WellFormed.{WellFormed, has_first_round, is_unplanned_at, is_entitled, has_days_in_order, lists_school}
use Rattle.adm_commands.specs.Tests.{first_failing}
use Rattle.adm_types.specs.declared.commands.Refusal.TheVariants as refusal
use Rattle.adm_commands.proofs.Passed.{passed}
use Rattle.adm_register.specs.Wanted.{has_left}
use Rattle.adm_commands.specs.Offered.{offer_days, offer_at, is_after_offer}
use Rattle.adm_commands.specs.Commands.Accept as accept
use Rattle.adm_commands.specs.Commands.Decline as decline
use Rattle.adm_commands.specs.Commands.Remind as remind
use Rattle.adm_commands.specs.Commands.Lapse as lapse
use Rattle.adm_commands.proofs.HeldLemmas.{held_le}
use Rattle.adm_register.proofs.Puts.{there_before}
use Rattle.adm_register.proofs.Tidy.{tidy_none, tidy_put, tidy_cut}
use Rattle.adm_register.specs.Fits.{Fit}
use Rattle.adm_commands.proofs.Accepted.{base_stays, draws_stay}

-- an offer is of a place that is held at the school
offer-held : (place : Option PlaceRow) (school : List ℕ) → is_some (offer_at place school) ≡ true → is_unplanned_at place school ≡ true
offer-held None school there = there
offer-held (Some row) school there = by (pointwise nat_eq row.place.school school) row.place.state there
  where
    by : (b : Bool) (state : PlaceState) → is_some (if b then offer_days state else None) ≡ true → (b && not (is_plan state)) ≡ true
    by true (Offered day reminded) there = refl
    by true Accepted there = cc
    by true Plan there = cc
    by false state there = cc

-- who holds a place at a school has an application that lists it, and there was a round
held-entitled : (old : State) (child : ℕ) (school : List ℕ) (state : PlaceState) → WellFormed old → is_unplanned_at (get old.places child) school ≡ true → is_plan state ≡ false
    → is_entitled (has_first_round old.draws) (get old.applications child) (record { school = school; state = state }) ≡ true
held-entitled old child school state well held other =
    elim (get old.places child) as (λ o. get old.places child ≡ o → is_unplanned_at o school ≡ true
    → is_entitled (has_first_round old.draws) (get old.applications child) (record { school = school; state = state }) ≡ true) [
      | None ↦ λ there none. cc
      | Some row ↦ λ there here.
          let both = and_parts (pointwise nat_eq row.place.school school) _ here in
          let fits = well.places.each child row there in
          let was : (has_first_round old.draws && lists_school (get old.applications row.child) row.place.school) ≡ true =
          sym (ap (λ b. if b then not (is_some (get old.applications row.child)) else has_first_round old.draws
          && lists_school (get old.applications row.child) row.place.school) (not-true _ both.1)) ∙ fits.entitled in
          ap (λ b. if b then not (is_some (get old.applications child)) else has_first_round old.draws && lists_school (get old.applications child) school) other
          ∙ sym (λ i. has_first_round old.draws && lists_school (get old.applications (fits.own_number i)) ((bytes_decides row.place.school school).0 both.0 i)) ∙ was
    ] refl held

-- a school at which a place is held was not left
not_left : (old : State) (child : ℕ) (school : List ℕ) → WellFormed old → is_unplanned_at (get old.places child) school ≡ true → not (has_left old.left child school) ≡ true
not_left old child school well held =
    let pair : LeftPair = record { child = child; school = school } in
    elim (get old.left pair) as (λ o. get old.left pair ≡ o → not (is_some o) ≡ true) [
      | None ↦ λ is. refl
      | Some other ↦ λ is.
          let fits = well.left pair other is in
          let none = subst (λ (p : LeftPair). not (is_unplanned_at (get old.places p.child) p.school) ≡ true) fits.own_key fits.no_place in
          cc (none, held)
    ] refl

-- the place of a child is written again, in another state
put_again : (old : State) (child : ℕ) (school : List ℕ) (state : PlaceState) → WellFormed old → contains_key old.children child ≡ true → contains_key old.schools school ≡ true
    → is_unplanned_at (get old.places child) school ≡ true → is_plan state ≡ false → has_days_in_order state ≡ true
    → Fit old (record no_change { places = record { child = child; place = record { school = school; state = state } } ∷ [] })
put_again old child school state well there here held other fits =
    let row : PlaceRow = record { child = child; place = record { school = school; state = state } } in
    record {
      base = base_stays old (row ∷ []) [];
      places = record {
        places = (record { own_number = refl; child = there; school = here; state = fits; entitled = held-entitled old child school state well held other }, tt);
        kept = λ number other there still. refl;
        room = λ code s known.
            let less = held_le code old.places (insert old.places child row) (λ number it now is.
            elim (eq_by_cmp nat_cmp number child) as (λ b. eq_by_cmp nat_cmp number child ≡ b → is_unplanned_at (get old.places number) code ≡ true) [
              | true ↦ λ tie.
                  let same : Some row ≡ Some it = sym (get-insert nat_cmp_total old.places child row number ∙ ap (λ b. cond b (Some row) (get old.places number)) tie) ∙ now in
                  let at : is_unplanned_at (Some row) code ≡ true = ap (λ o. is_unplanned_at o code) same ∙ is in
                  let code_is : school ≡ code = (bytes_decides school code).0 (and_parts (pointwise nat_eq school code) _ at).0 in
                  (λ i. is_unplanned_at (get old.places (same_key nat_cmp-IsAntisymmetric number child tie i)) (sym code_is i)) ∙ held
              | false ↦ λ tie.
                  let same : get old.places number ≡ Some it = sym (get-insert nat_cmp_total old.places child row number ∙ ap (λ b. cond b (Some row) (get old.places number)) tie) ∙ now in
                  ap (λ o. is_unplanned_at o code) same ∙ is
            ] refl) in
            let room = well.places.room code s known in
            omega (arith, less, room);
      };
      left = record { left = tt; places = (ap (λ b. b || not (has_left old.left child school)) other ∙ not_left old child school well held, tt) };
      draws = draws_stay old (record no_change { places = row ∷ [] }) refl;
      imported = record { each = tt; new_rows = tt };
      tidy = record {
        schools = tidy_none _ _;
        children = tidy_none _ _;
        applications = tidy_none _ _;
        places = tidy_put _ _ row;
        left = tidy_none _ _;
        draws = tidy_none _ _;
        imported = tidy_none _ _;
      };
    }

-- a place that is held ends, and its school is left
give_up : (old : State) (child : ℕ) (school : List ℕ) → WellFormed old → contains_key old.children child ≡ true → contains_key old.schools school ≡ true → Fit old (decline.change_of child school)
unfolding decline.change_of
give_up old child school well there here =
    let pair : LeftPair = record { child = child; school = school } in
    record {
      base = record { schools = tt; kept_schools = tt; few_schools = tt; children = tt; few_children = tt; applications = tt };
      places = record {
        places = tt;
        kept = λ number row was still. refl;
        room = λ code s known.
            let less = held_le code old.places (remove old.places child) (λ number it now is.
            ap (λ o. is_unplanned_at o code) (there_before nat_cmp_total old.places (child ∷ []) number it now) ∙ is) in
            let room = well.places.room code s known in
            omega (arith, less, room);
      };
      left = record {
        left = (record { own_key = refl; child = there; school = here; no_place = ap (λ o. not (is_unplanned_at o school)) (none_of _ (not_contains_key-removed nat_cmp_total old.places child)) }, tt);
        places = tt;
      };
      draws = draws_stay old (decline.change_of child school) refl;
      imported = record { each = tt; new_rows = tt };
      tidy = record {
        schools = tidy_none _ _;
        children = tidy_none _ _;
        applications = tidy_none _ _;
        places = tidy_cut _ _ child;
        left = tidy_put _ _ pair;
        draws = tidy_none _ _;
        imported = tidy_none _ _;
      };
    }

pub accept-fit : (old : State) (child : ℕ) (school : List ℕ) → WellFormed old → first_failing (accept.tests old child school) ≡ None → Fit old (accept.change_of child school)
unfolding accept.tests accept.change_of
accept-fit old child school well passes =
    let pass = passed (accept.tests old child school) passes in
    put_again old child school Accepted well (pass refusal.UnknownChild) (pass refusal.UnknownSchool) (offer-held (get old.places child) school (pass refusal.NotOffered)) refl refl

pub decline-fit : (old : State) (child : ℕ) (school : List ℕ) → WellFormed old → first_failing (decline.tests old child school) ≡ None → Fit old (decline.change_of child school)
unfolding decline.tests
decline-fit old child school well passes = let pass = passed (decline.tests old child school) passes in give_up old child school well (pass refusal.UnknownChild) (pass refusal.UnknownSchool)

pub lapse-fit : (old : State) (child : ℕ) (school : List ℕ) (day : ℕ) → WellFormed old → first_failing (lapse.tests old child school day) ≡ None → Fit old (decline.change_of child school)
unfolding lapse.tests
lapse-fit old child school day well passes = let pass = passed (lapse.tests old child school day) passes in give_up old child school well (pass refusal.UnknownChild) (pass refusal.UnknownSchool)

first_day_of : Option (ℕ × Option ℕ) → ℕ
first_day_of None = 0
first_day_of (Some days) = days.0

same_day : (on offered : ℕ) (before r : Option ℕ) → ◌≡◌ {A = Option (ℕ × Option ℕ)} (Some (on, before)) (Some (offered, r)) → on ≡ offered
unfolding first_day_of
same_day on offered before r is = ap first_day_of is

pub remind-fit : (old : State) (child : ℕ) (school : List ℕ) (day : ℕ) → nat_le day last_day ≡ true → WellFormed old
    → first_failing (remind.tests old child school day) ≡ None → Fit old (remind.change_of old child school day)
unfolding remind.tests remind.change_of
remind-fit old child school day before well passes =
    let pass = passed (remind.tests old child school day) passes in
    let held = offer-held (get old.places child) school (pass refusal.NotOffered) in
    by (offer_at (get old.places child) school) refl (pass refusal.NotOffered) (pass refusal.TooSoon) (pass refusal.UnknownChild) (pass refusal.UnknownSchool) held
  where
    -- the day of an offer is a day
    offered-day : (place : Option PlaceRow) (offered : ℕ) (r : Option ℕ) → get old.places child ≡ place → offer_at place school ≡ Some (offered, r) → is_from first_day last_day offered ≡ true
    offered-day None offered r there is = cc
    offered-day (Some row) offered r there is =
        from (pointwise nat_eq row.place.school school) row.place.state (well.places.each child row there).state is
      where
        from : (b : Bool) (state : PlaceState) → has_days_in_order state ≡ true → (if b then offer_days state else None) ≡ Some (offered, r) → is_from first_day last_day offered ≡ true
        from true (Offered on None) fits is = subst (λ d. is_from first_day last_day d ≡ true) (same_day on offered None r is) fits
        from true (Offered on (Some reminded)) fits is = subst (λ d. is_from first_day last_day d ≡ true) (same_day on offered (Some reminded) r is)
            (and_parts (is_from first_day last_day on) _ fits).0
        from true Accepted fits is = cc
        from true Plan fits is = cc
        from false state fits is = cc

    by : (offer : Option (ℕ × Option ℕ)) → offer_at (get old.places child) school ≡ offer → is_some offer ≡ true → is_after_offer (offer_at (get old.places child) school) day ≡ true
        → contains_key old.children child ≡ true → contains_key old.schools school ≡ true → is_unplanned_at (get old.places child) school ≡ true
        → Fit old (remind.reminded_on child school day (offer_at (get old.places child) school))
    by None is some late there here held = cc
    by (Some (offered, r)) is some late there here held =
        let is_day = offered-day (get old.places child) offered r refl is in
        let after_14 : nat_le (offered + 14) day ≡ true = sym (ap (λ o. is_after_offer o day) is) ∙ late in
        let fits : has_days_in_order (Offered offered (Some day)) ≡ true = λ i. is_day i && (after_14 i && before i) in
        subst (λ o. Fit old (remind.reminded_on child school day o)) (sym is) (put_again old child school (Offered offered (Some day)) well there here held refl fits)
