-- Each place has a cause: by each command, and so by any number of them.
use Rattle.std.proofs.Common.{◌≡◌, ◌∙◌, inl, inr, refl, ap, sym, subst, ℕ, Bool, true, false, List, [], ◌∷◌, ◌++◌, Option, Some, None, append_assoc}
use Rattle.std.specs.Prelude.{Contains, is_some, nat_eq, if◌then◌else◌}
use Rattle.std.specs.Ordering.{nat_cmp}
use Rattle.std.specs.Cmp.{nat_cmp_total}
use Rattle.std.specs.Cmp.Lexicographic.{pointwise, bytes_decides}
use Rattle.std.specs.List.{AllByRecursion}
use Rattle.std.specs.FinMap.{get, nat_cmp-IsAntisymmetric}
use Rattle.std.proofs.lemmas.List.{append-nil}
use Rattle.std.proofs.lemmas.Option.{none-some, same_Some}
use Rattle.adm_lists.proofs.Maps.{values-empty}
use Rattle.adm_lists.proofs.Members.{In, contains, from_contains, in_all, in_left, in_right, from_filter_map}
use Rattle.adm_types.specs.Seasons.{SeasonFacts}
use Rattle.adm_types.specs.declared.commands.Command.{Command}
use Rattle.adm_types.specs.declared.commands.Command.TheVariants.{AddSchool, RaisePan, AddChild, Amend, NamePlan, Apply, Round, Accept, Decline, Remind, Lapse, LeaveList, Fill, Import}
use Rattle.adm_types.specs.declared.commands.Refusal.TheVariants as refusal
use Rattle.adm_types.specs.declared.commands.Reply.{Reply}
use Rattle.adm_types.specs.declared.draws.Draw.{Draw}
use Rattle.adm_types.specs.declared.draws.Outcome.{Outcome}
use Rattle.adm_types.specs.declared.rows.Place.{Place}
use Rattle.adm_types.specs.declared.rows.PlaceRow.{PlaceRow}
use Rattle.adm_types.specs.declared.rows.PlaceState.{PlaceState}
use Rattle.adm_types.specs.declared.rows.PlaceState.TheVariants.{Offered, Accepted, Plan}
use Rattle.adm_register.specs.declared.difference.Difference.{Difference}
use Rattle.adm_register.specs.State.{State, only_season}
use Rattle.adm_register.specs.Change.{after, change_of_child, cut_all}
use Rattle.adm_register.specs.Draws.{are_in_order, no_draws}
use Rattle.adm_register.specs.WellFormed.{AllRows}
use Rattle.adm_register.proofs.Maps.{AllRows-empty}
use Rattle.adm_register.proofs.Puts.{AllRows-put_all, there_before}
use Rattle.adm_commands.specs.Commands.{MakesChange, refused}
use Rattle.adm_commands.specs.Commands.Accept as accept
use Rattle.adm_commands.specs.Commands.AddSchool as add_school
use Rattle.adm_commands.specs.Commands.Apply as apply
use Rattle.adm_commands.specs.Commands.Decline as decline
use Rattle.adm_commands.specs.Commands.Fill as fill
use Rattle.adm_commands.specs.Commands.Import as import
use Rattle.adm_commands.specs.Commands.LeaveList as leave_list
use Rattle.adm_commands.specs.Commands.NamePlan as name_plan
use Rattle.adm_commands.specs.Commands.RaisePan as raise_pan
use Rattle.adm_commands.specs.Commands.Remind as remind
use Rattle.adm_commands.specs.Commands.Round as round
use Rattle.adm_commands.specs.Commands.Round.{offer_of}
use Rattle.adm_commands.specs.History.{DrawsInOrder, DrawsStay, recorded_draw}
use Rattle.adm_commands.specs.Imports.{Reaches}
use Rattle.adm_commands.specs.Offered.{offer_at, offer_days}
use Rattle.adm_commands.proofs.Passed.{passed}
use Rattle.adm_commands.proofs.PutAgain.{get-insert_same}
use Rattle.adm_commands.proofs.RoundOffers.{offer_made}
use Rattle.adm_commands.proofs.Shows.{no_row}
use Rattle.adm_command_laws.specs.Places.{IsFromDraw, HasCause, PlacesHaveCause}
use Rattle.adm_command_laws.proofs.History.{draws_kept_lem}

-- each place of the register has a cause
abbrev EachHasCause : List Command → State → Type 0
EachHasCause done s = AllRows (λ child (row : PlaceRow). HasCause done s child row.place) s.places

-- a cause is one still after more commands, while draws stay
still : (before more : List Command) (old new : State) (child : ℕ) (place : Place) → DrawsStay old new → HasCause before old child place → HasCause (before ++ more) new child place
still before more old new child place stay (inl it) =
    let at = in_left before more (NamePlan child place.school) (from_contains before (NamePlan child place.school) it.named) in
    inl (record { plan = it.plan; named = contains (before ++ more) (NamePlan child place.school) at })
still before more old new child place stay (inr it) =
    inr (record { number = it.number; draw = it.draw; held = stay it.number it.draw it.held; fresh = it.fresh; from = it.from })

-- the place of an offer at a school, in a state that an offer may have after it
again : (before more : List Command) (old new : State) (child : ℕ) (was : Place) (school : List ℕ) (day : ℕ) (reminded : Option ℕ) (state : PlaceState) → DrawsStay old new
    → HasCause before old child was → was.school ≡ school → was.state ≡ Offered day reminded → ((drawn : ℕ) → day ≡ drawn → IsFromDraw state drawn)
    → HasCause (before ++ more) new child (record { school = school; state = state })
again before more old new child was school day reminded state stay (inl it) same offered keeps = absurd (not_both (sym it.plan ∙ offered))
  where
    not_both : Plan ≡ Offered day reminded → ⊥
    not_both e = cc
again before more old new child was school day reminded state stay (inr it) same offered keeps = inr (record {
  number = it.number;
  draw = it.draw;
  held = stay it.number it.draw it.held;
  fresh = subst (λ (s : List ℕ). Contains it.draw.outcomes (record { child = child; school = Some s; fresh = true })) same it.fresh;
  from = keeps it.draw.day (subst (λ (s : PlaceState). IsFromDraw s it.draw.day) offered it.from);
})

-- an offer at a school is a place there
pub record IsOfferAt (o : Option PlaceRow) (school : List ℕ) (offer : ℕ × Option ℕ) : Type 0 where
  pub row : PlaceRow
  pub there : o ≡ Some row
  pub same : row.place.school ≡ school
  pub offered : row.place.state ≡ Offered offer.0 offer.1

offer_is : (o : Option PlaceRow) (school : List ℕ) (offer : ℕ × Option ℕ) → offer_at o school ≡ Some offer → IsOfferAt o school offer
offer_is None school offer at = absurd (none-some offer at)
offer_is (Some row) school offer at = by (pointwise nat_eq row.place.school school) row.place.state refl refl at
  where
    by : (b : Bool) (state : PlaceState) → pointwise nat_eq row.place.school school ≡ b → row.place.state ≡ state → (if b then offer_days state else None) ≡ Some offer
        → IsOfferAt (Some row) school offer
    by true (Offered day reminded) same is at = record {
      row = row;
      there = refl;
      same = (bytes_decides row.place.school school).0 same;
      offered = is ∙ ap (λ (p : ℕ × Option ℕ). Offered p.0 p.1) (same_Some (day, reminded) offer at);
    }
    by true Accepted same is at = absurd (none-some offer at)
    by true Plan same is at = absurd (none-some offer at)
    by false state same is at = absurd (none-some offer at)

-- after a change that writes places with a cause each place has one
written : (before more : List Command) (old new : State) (change : Difference) → new ≡ after old change → DrawsStay old new → EachHasCause before old
    → AllByRecursion (λ (row : PlaceRow). HasCause (before ++ more) new row.child row.place) change.places → EachHasCause (before ++ more) new
written before more old new change is stay each put child row there =
    AllRows-put_all nat_cmp_total nat_cmp-IsAntisymmetric (λ (p : PlaceRow). p.child) (λ q (r : PlaceRow). HasCause (before ++ more) new q r.place) (cut_all old.places change.vacated) change.places
    (λ q r was now. still before more old new q r.place stay (each q r (there_before nat_cmp_total old.places change.vacated q r was)))
    put child row (sym (ap (λ (s : State). get s.places child) is) ∙ there)

module _ (before : List Command) (old new : State) (stay : DrawsStay old new) (each : EachHasCause before old) where
  -- what holds of the place of each row that is written
  abbrev AreCaused : Command → List PlaceRow → Type 0
  AreCaused command rows = AllByRecursion (λ (row : PlaceRow). HasCause (before ++ command ∷ []) new row.child row.place) rows

  -- the rows of a change that is another one
  same_change : (command : Command) (change only : Difference) → change ≡ only → AreCaused command only.places → AreCaused command change.places
  same_change command change only is put = subst (λ (c : Difference). AreCaused command c.places) (sym is) put

  -- the offer that the child has at the school, written in another state
  offer_again : (command : Command) (child : ℕ) (school : List ℕ) (offer : ℕ × Option ℕ) (state : PlaceState) → offer_at (get old.places child) school ≡ Some offer
      → ((drawn : ℕ) → offer.0 ≡ drawn → IsFromDraw state drawn) → HasCause (before ++ command ∷ []) new child (record { school = school; state = state })
  offer_again command child school offer state at keeps =
      let it = offer_is (get old.places child) school offer at in
      again before (command ∷ []) old new child it.row.place school offer.0 offer.1 state stay (each child it.row it.there) it.same it.offered keeps

  accepted_place : (child : ℕ) (school : List ℕ) (o : Option (ℕ × Option ℕ)) → offer_at (get old.places child) school ≡ o → is_some o ≡ true
      → HasCause (before ++ Accept child school ∷ []) new child (record { school = school; state = Accepted })
  accepted_place child school None at some = cc
  accepted_place child school (Some offer) at some = offer_again (Accept child school) child school offer Accepted at (λ drawn same. tt)

  reminded_place : (child : ℕ) (school : List ℕ) (day : ℕ) (o : Option (ℕ × Option ℕ)) → offer_at (get old.places child) school ≡ o
      → AreCaused (Remind child school day) (remind.reminded_on child school day o).places
  reminded_place child school day None at = tt
  reminded_place child school day (Some (offered, r)) at =
      (offer_again (Remind child school day) child school (offered, r) (Offered offered (Some day)) at (λ drawn same. same), tt)

  -- a place that a draw of the new register gives
  drawn_place : (command : Command) (draw : Draw) (child : ℕ) (place : Place) → get new.draws draw.number ≡ Some draw → place.state ≡ Offered draw.day None
      → In (record { child = child; school = Some place.school; fresh = true }) draw.outcomes → HasCause (before ++ command ∷ []) new child place
  drawn_place command draw child place held offered at = inr (record {
    number = draw.number;
    draw = draw;
    held = held;
    fresh = contains draw.outcomes (record { child = child; school = Some place.school; fresh = true }) at;
    from = subst (λ (s : PlaceState). IsFromDraw s draw.day) (sym offered) refl;
  })

  -- the offers of a round
  round_places : (draw day : ℕ) (numbers : List ℕ) (outcomes : List Outcome) → get new.draws draw ≡ Some (recorded_draw old draw day numbers outcomes)
      → AreCaused (Round draw day numbers) (round.offers_on day outcomes)
  round_places draw day numbers outcomes held = in_all _ (round.offers_on day outcomes) (λ row at.
      let it = from_filter_map (offer_of day) outcomes row at in
      let made = offer_made day it.0 row it.2 in
      let same : it.0 ≡ record { child = row.child; school = Some row.place.school; fresh = true } =
      (λ i. record { child = sym made.2 i; school = made.1 i; fresh = made.0 i }) in
      drawn_place (Round draw day numbers) (recorded_draw old draw day numbers outcomes) row.child row.place held made.3
      (subst (λ (o : Outcome). In o outcomes) same it.1))

  -- the places that a command writes
  pub places_caused : (command : Command) → refused old command ≡ None → (change : Difference) (reply : Reply) → MakesChange old command change reply → new ≡ after old change
      → AreCaused command change.places
  unfolding add_school.change_of raise_pan.change_of name_plan.change_of apply.change_of round.change_of accept.tests accept.change_of decline.change_of remind.change_of leave_list.change_of fill.change_of import.change_of
  places_caused (AddSchool school) passes change reply done is = same_change (AddSchool school) change (add_school.change_of school) done.0 tt
  places_caused (RaisePan school pan) passes change reply done is = same_change (RaisePan school pan) change (raise_pan.change_of old school pan) done.0 tt
  places_caused (AddChild child) passes change reply done is = same_change (AddChild child) change (change_of_child child) done.0 tt
  places_caused (Amend child) passes change reply done is = same_change (Amend child) change (change_of_child child) done.0 tt
  places_caused (NamePlan child school) passes change reply done is =
      let at = in_right before (NamePlan child school ∷ []) (NamePlan child school) (inl refl) in
      same_change (NamePlan child school) change (name_plan.change_of child school) done.0
      (inl (record { plan = refl; named = contains (before ++ NamePlan child school ∷ []) (NamePlan child school) at }), tt)
  places_caused (Apply application) passes change reply done is = same_change (Apply application) change (apply.change_of application) done.0 tt
  places_caused (Round draw day numbers) passes change reply done is =
      let held = ap (λ (s : State). get s.draws draw) (is ∙ ap (after old) done.2) ∙ get-insert_same nat_cmp_total old.draws draw (recorded_draw old draw day numbers done.0) in
      same_change (Round draw day numbers) change (round.change_of old draw day numbers done.0) done.2 (round_places draw day numbers done.0 held)
  places_caused (Accept child school) passes change reply done is =
      let offered = passed (accept.tests old child school) (no_row _ passes) refusal.NotOffered in
      same_change (Accept child school) change (accept.change_of child school) done.0 (accepted_place child school (offer_at (get old.places child) school) refl offered, tt)
  places_caused (Decline child school) passes change reply done is = same_change (Decline child school) change (decline.change_of child school) done.0 tt
  places_caused (Remind child school day) passes change reply done is =
      same_change (Remind child school day) change (remind.change_of old child school day) done.0 (reminded_place child school day (offer_at (get old.places child) school) refl)
  places_caused (Lapse child school day) passes change reply done is = same_change (Lapse child school day) change (decline.change_of child school) done.0 tt
  places_caused (LeaveList child school) passes change reply done is = same_change (LeaveList child school) change (leave_list.change_of child school) done.0 tt
  places_caused (Fill draw school day numbers) passes change reply done is =
      let filled = fill.filled_draw old draw school day numbers done.2 in
      let held = ap (λ (s : State). get s.draws draw) (is ∙ ap (after old) done.4) ∙ get-insert_same nat_cmp_total old.draws draw filled in
      same_change (Fill draw school day numbers) change (fill.change_of old draw school day numbers done.2) done.4
      (drawn_place (Fill draw school day numbers) filled done.2 (record { school = school; state = Offered day None }) held refl (inl refl), tt)
  places_caused (Import rows) passes change reply done is = same_change (Import rows) change (import.change_of done.0) done.3 tt

-- commands, one after another
each_caused : (before commands : List Command) (old new : State) → DrawsInOrder old → EachHasCause before old → Reaches old commands new → EachHasCause (before ++ commands) new
each_caused before [] old new ordered each run =
    subst (λ (cs : List Command). EachHasCause cs new) (sym (append-nil before)) (subst (λ (s : State). EachHasCause before s) (sym run) each)
each_caused before (command ∷ commands) old new ordered each run =
    let effect = run.1.1.1 in
    let one = draws_kept_lem old run.0 command ordered run.1 in
    let put = places_caused before old run.0 one.1 each command run.1.1.0 effect.0 run.1.0 effect.1 effect.2 in
    let mid = written before (command ∷ []) old run.0 effect.0 effect.2 one.1 each put in
    subst (λ (cs : List Command). EachHasCause cs new) (append_assoc before (command ∷ []) commands) (each_caused (before ++ command ∷ []) commands run.0 new one.0 mid run.2)

-- a register without rows
none_ordered : (season : SeasonFacts) → DrawsInOrder (only_season season)
none_ordered season = record { own = AllRows-empty nat_cmp (λ number (draw : Draw). draw.number ≡ number); in_order = ap (are_in_order season no_draws) (values-empty nat_cmp Draw) }

pub places_have_cause_lem : PlacesHaveCause
places_have_cause_lem season done found run =
    each_caused [] done (only_season season) found (none_ordered season) (AllRows-empty nat_cmp (λ child (row : PlaceRow). HasCause [] (only_season season) child row.place)) run
