-- The refusals of a round that is explained.
use Rattle.std.proofs.Common.{◌≡◌, ◌∙◌, ap, sym, subst, refl, cond, Bool, true, false, not, ℕ, ◌<◌, List, ◌++◌, length, Option, Some, None, map, inl, inr, arith}
use Rattle.std.specs.Prelude.{All, bytes_eq, IfSome, Any, Contains, nat_lt, filter}
use Rattle.std.specs.List.{list_any, filter_map, take_while}
use Rattle.std.specs.Option.{option_to_list}
use Rattle.std.specs.FinMap.{get}
use Rattle.std.proofs.lemmas.Bool.{cases_Bool, false≢true, and_parts, ltb-true, ltb-false}
use Rattle.std.proofs.lemmas.Option.{same_Some, none-some}
use Rattle.adm_lists.proofs.Members.{In, All_in, in_All, from_contains, contains, in_map, from_map, in_filter_map}
use Rattle.adm_types.specs.Code.{has}
use Rattle.adm_types.specs.Limits.{is_listed}
use Rattle.adm_types.specs.declared.rows.Application.{Application}
use Rattle.adm_types.specs.declared.rows.PlaceRow.{PlaceRow}
use Rattle.adm_types.specs.declared.draws.Draw.{Draw}
use Rattle.adm_types.specs.declared.draws.Lot.{Lot}
use Rattle.adm_types.specs.declared.draws.Outcome.{Outcome}
use Rattle.adm_rank.specs.declared.keys.RankKey.{RankKey}
use Rattle.adm_rank.specs.Ranking.{precedes}
use Rattle.adm_match.specs.Market.{Code, Candidate, Market, preference_rank, assigned_rank, is_tenant, key_at, quota_of}
use Rattle.adm_match.specs.Stability.{Allocation, count_at, is_guest, prefers, ranks_after, IsContent}
use Rattle.adm_match.proofs.RanksAndBlocks.{has_tells}
use Rattle.adm_match.proofs.FoundWishes.{rank_within}
use Rattle.adm_round.specs.declared.applicants.Applicant.{Applicant}
use Rattle.adm_round.specs.Round.{number_of, listed}
use Rattle.adm_round.specs.Ranks.{candidate_of, site_of, lot_at}
use Rattle.adm_round.proofs.Faultless.{its_schools}
use Rattle.adm_round.proofs.ListedSchools.{code_swap, school_of_wish, on_list}
use Rattle.adm_register.specs.State.{State, is_plan}
use Rattle.adm_register.specs.Wanted.{has_left, own_school}
use Rattle.adm_register.specs.Wanted as register
use Rattle.adm_register.proofs.WaitLemmas.{wanted_parts}
use Rattle.adm_cutoffs.specs.Reasons.{reason_beside}
use Rattle.adm_cutoffs.specs.Cutoffs.{outcome_for, key_by_lot, key_taken_in, last_of, last_key, above, is_above, wants_more, refusal_by_lot, refusals_of}
use Rattle.adm_cutoffs.specs.declared.refusals.Refusal.{Refusal}
use Rattle.adm_commands.specs.Commands.Round.{round_applicants, round_lots, round_market, sites}
use Rattle.adm_commands.proofs.RoundDraw.{round_draw}
use Rattle.adm_fairness.specs.Cutoffs.{Cutoff, Open, Last, Closed, IsCutoff, IsLastKey, reason_by, refusal_at}
use Rattle.adm_fairness.proofs.Codes.{not_blocked, rank_in, rank_wishes, until, until_front}
use Rattle.adm_fairness.proofs.Taking.{IsTaking, taking_of}
use Rattle.adm_fairness.proofs.FairRound.{given_listed}
use Rattle.adm_fairness.proofs.RoundPlaces.{wanted_here}
use Rattle.adm_fairness.proofs.ExplainedLists.{same_place, some_last, take_each, from_front, before_in}
use Rattle.adm_fairness.proofs.ExplainedRound.{IsShown, IsLotOf, HasLot, has_lot, outcome_there, key_of_lot}
use Rattle.adm_fairness.proofs.ExplainedCutoffs.{guest_key, last_is}

module _ {old new : State} {numbers : List ℕ} {outcomes : List Outcome} (shown : IsShown old new numbers outcomes) where
  abbrev lots : List Lot
  lots = round_lots old numbers

  abbrev it : Draw
  it = round_draw old shown.draw shown.day numbers outcomes

  abbrev entrant : Applicant → Candidate
  entrant = candidate_of (site_of (sites old)) (lot_at lots)

  abbrev m : Market
  m = round_market old numbers

  abbrev a : Allocation
  a = shown.facts.best.allocation

  abbrev keys_at : Code → List RankKey
  keys_at code = filter_map (key_taken_in new outcomes code) lots

  -- what is at an index is in the list
  of_Any : {P : Candidate → Type 0} (some : Any P m.entrants) → In some.1 m.entrants
  of_Any some = from_contains m.entrants some.1 (some.0, some.2, some.3)

  -- no other guest ranks after the last
  of_guest : (code : Code) (last other : RankKey) → IsLastKey m a code last → IsLastKey m a code other → precedes last other ≡ false
  of_guest code last other one two =
      let had = two.had in
      let e = of_Any had in
      subst (λ o. IfSome o (λ k. precedes last k ≡ false)) had.4.1 (All_in (λ (guest : Candidate). is_guest a code guest ≡ true → IfSome (key_at guest.list code) (λ k. precedes last k ≡ false)) m.entrants had.1 one.last e had.4.0)

  -- the last key at a school is the one of its cutoff
  reason_is : (code : Code) (cutoff : Cutoff) → IsCutoff m a code cutoff → nat_lt (count_at m a code) (quota_of m.seats code) ≡ false → (key : RankKey)
      → reason_beside (last_key new outcomes lots code) (Some key) ≡ reason_by cutoff (Some key)
  reason_is code Open is full key = absurd (omega (arith, is, ltb-false _ _ full))
  reason_is code Closed is full key = by (last_of (keys_at code)) refl
    where
      by : (o : Option RankKey) → last_of (keys_at code) ≡ o → reason_beside o (Some key) ≡ reason_beside None (Some key)
      by None at = refl
      by (Some last) at =
          let had = (last_is shown code last at).had in
          absurd (false≢true (sym (All_in (λ (guest : Candidate). is_guest a code guest ≡ false) m.entrants had.1 is.1 (of_Any had)) ∙ had.4.0))
  reason_is code (Last last) is full key = by (last_of (keys_at code)) refl
    where
      had : Any (λ guest. (is_guest a code guest ≡ true) × (key_at guest.list code ≡ Some last)) m.entrants
      had = is.1.had

      none_without : last_of (keys_at code) ≡ None → ⊥
      none_without none =
          let e = of_Any had in
          let c = from_map entrant (round_applicants old) had.1 e in
          let mine = guest_key shown c.0 c.1 code (ap (is_guest a code) c.2 ∙ had.4.0) in
          let some = some_last (keys_at code) mine.0 mine.2 in
          none-some some.0 (sym none ∙ some.1)

      by : (o : Option RankKey) → last_of (keys_at code) ≡ o → reason_beside o (Some key) ≡ reason_beside (Some last) (Some key)
      by None at = absurd (none_without at)
      by (Some found) at =
          let one = last_is shown code found at in
          ap (λ k. reason_beside (Some k) (Some key)) (same_place found last (of_guest code found last one is.1) (of_guest code last found is.1 one))

  module _ (c : Applicant) (ct : In c (round_applicants old)) (code : Code) (wished : prefers a (entrant c) code ≡ true) where
    wishes_are : map school_of_wish (entrant c).list ≡ listed c
    wishes_are = its_schools (sites old) (round_applicants old) lots shown.facts.posed c ct

    less : preference_rank (entrant c).list code < assigned_rank (entrant c).list (a (number_of c))
    less = ltb-true _ _ wished

    within : preference_rank (entrant c).list code < length (entrant c).list
    within = omega (arith, less, rank_within (entrant c).list (a (number_of c)))

    parts : (has c.own code ≡ false) × (nat_lt (count_at m a code) (quota_of m.seats code) ≡ false) × (list_any (ranks_after a code (entrant c)) m.entrants ≡ false)
    parts = not_blocked (prefers a (entrant c) code) (is_tenant (entrant c) code) (nat_lt (count_at m a code) (quota_of m.seats code)) (list_any (ranks_after a code (entrant c)) m.entrants)
        (All_in (IsContent m a) m.entrants (entrant c) shown.facts.best.best.stable.unblocked (in_map entrant (round_applicants old) c ct) code) wished

    wanted : is_listed c.wanted code ≡ true
    wanted = wanted_here c.wanted c.own code (on_list (entrant c).list (listed c) code wishes_are within) parts.0

    taking : (application : Application) × IsTaking old application c
    taking = taking_of old shown.facts.well c ct

    abbrev list : List Code
    list = taking.0.list

    abbrev place : Option PlaceRow
    place = get old.places taking.0.child

    abbrev stays : Code → Bool
    stays other = not (has_left old.left taking.0.child other)

    -- it is wanted above the place of before
    wanted_above : is_listed (filter stays (register.above place list)) code ≡ true
    wanted_above = ap (λ cs. is_listed cs code) (sym taking.1.wanted) ∙ wanted

    in_above : is_listed (register.above place list) code ≡ true
    in_above = (and_parts (is_listed (register.above place list) code) (stays code) (wanted_parts old taking.0 code ∙ wanted_above)).0

    -- the schools above the place are the first of the list
    from_above : (found : Option PlaceRow) (school : Code) → is_listed (register.above found list) school ≡ true → is_listed list school ≡ true
    from_above None school there = there
    from_above (Some row) school there = from_front (λ s. not (bytes_eq s row.place.school)) list school there

    ranked : (school : Code) → a (number_of c) ≡ Some school → rank_in (listed c) code < rank_in (listed c) school
    ranked school given = omega (
      arith,
      subst (λ o. preference_rank (entrant c).list code < assigned_rank (entrant c).list o) given less,
      rank_wishes (entrant c).list code ∙ ap (λ cs. rank_in cs code) wishes_are,
      rank_wishes (entrant c).list school ∙ ap (λ cs. rank_in cs school) wishes_are,
    )

    -- so it is above what the child is given
    above_given : (given : Option Code) → a (number_of c) ≡ given → is_listed (above given list) code ≡ true
    above_given None is = ap (λ cs. is_listed cs code) (take_each list) ∙ from_above place code in_above
    above_given (Some school) is = ap (λ cs. is_listed cs code) (λ i. take_while (λ s. not (code_swap school s i)) list) ∙ elim (cases_Bool (has c.own school)) [
      | inl own ↦
          let owned : own_school place ≡ Some school = sym taking.1.own ∙ (has_tells c.own school).0 own in
          subst (λ cs. is_listed cs code ≡ true) (above_own place owned) in_above
      | inr fresh ↦
          let chosen : is_listed (filter stays (register.above place list)) school ≡ true =
          ap (λ cs. is_listed cs school) (sym taking.1.wanted) ∙ wanted_here c.wanted c.own school (given_listed shown.facts shown.day taking.0 c taking.1 school is) fresh in
          let both = and_parts (is_listed (register.above place list) school) (stays school) (wanted_parts old taking.0 school ∙ chosen) in
          let listed_is : listed c ≡ filter stays (register.above place list) ++ option_to_list c.own = ap (λ (cs : List Code). cs ++ option_to_list c.own) taking.1.wanted in
          let earlier = before_in stays (register.above place list) (option_to_list c.own) school code both.1 wanted_above
          (subst (λ (cs : List Code). rank_in cs code < rank_in cs school) listed_is (ranked school is)) in
          subst (λ cs. is_listed cs code ≡ true) (front_same place school both.0) earlier
    ]
      where
        above_own : (found : Option PlaceRow) → own_school found ≡ Some school → register.above found list ≡ until school list
        above_own None own = absurd (none-some school own)
        above_own (Some row) own = by (is_plan row.place.state) own
          where
            by : (plan : Bool) → cond plan None (Some row.place.school) ≡ Some school → until row.place.school list ≡ until school list
            by true same = absurd (none-some school same)
            by false same = ap (λ s. until s list) (same_Some row.place.school school same)

        front_same : (found : Option PlaceRow) (s : Code) → is_listed (register.above found list) s ≡ true → until s (register.above found list) ≡ until s list
        front_same None s there = refl
        front_same (Some row) s there = until_front (λ other. not (bytes_eq other row.place.school)) list s there

    -- the reason by its lot there is that of the cutoff
    pub why : (lot : Lot) → In lot lots → IsLotOf shown lot c → lot.school ≡ code → (cutoff : Cutoff) → IsCutoff m a code cutoff
        → reason_beside (last_key new outcomes lots lot.school) (key_by_lot new lot) ≡ refusal_at (entrant c) code cutoff
    why lot lt of at cutoff is =
        let mine = key_of_lot shown lot lt c of in
        let key_there : key_at (entrant c).list code ≡ Some mine.0 = subst (λ (s : Code). key_at (entrant c).list s ≡ Some mine.0) at mine.2 in
        (λ i. reason_beside (last_key new outcomes lots (at i)) (mine.1 i)) ∙ (reason_is code cutoff is parts.1 mine.0
        ∙ sym (λ i. cond (parts.0 i) None (reason_by cutoff (key_there i))))

    had : HasLot shown c code
    had = has_lot shown c ct code wanted

    of : IsLotOf shown had.lot c
    of = record { among = ct; wanted = ap (is_listed c.wanted) had.school ∙ wanted; number = had.child }

    -- the child of the lot wants its school more
    wants_it : wants_more new (outcome_for outcomes had.lot.child) had.lot.school ≡ true
    wants_it =
        (λ i. wants_more new ((ap (outcome_for outcomes) had.child ∙ outcome_there shown c ct) i) (had.school i))
        ∙ (λ i. is_above (applied i) (a (number_of c)) code) ∙ above_given (a (number_of c)) refl
      where
        applied : get new.applications (number_of c) ≡ Some taking.0
        applied = (λ i. get (shown.applications i) (taking.1.number i)) ∙ taking.1.applied

    refused : (cutoff : Cutoff) → IsCutoff m a code cutoff
        → In (record { child = number_of c; school = code; by = refusal_at (entrant c) code cutoff }) (refusals_of new it)
    unfolding refusals_of
    refused cutoff is =
        let reason = why had.lot had.among of had.school cutoff is in
        let row : Refusal = record { child = number_of c; school = code; by = refusal_at (entrant c) code cutoff } in
        in_filter_map (refusal_by_lot new it) lots had.lot row had.among
        (ap (λ b. cond b (Some (record { child = had.lot.child; school = had.lot.school; by = reason_beside (last_key new outcomes lots had.lot.school) (key_by_lot new had.lot) })) None) wants_it
        ∙ (λ i. Some (record { child = had.child i; school = had.school i; by = reason i })))

  pub each_refused : All (λ (e : Candidate). (school : Code) (cutoff : Cutoff) → prefers a e school ≡ true → IsCutoff m a school cutoff
      → Contains (refusals_of new it) (record { child = e.child; school = school; by = refusal_at e school cutoff })) m.entrants
  each_refused =
      in_All (λ (e : Candidate). (school : Code) (cutoff : Cutoff) → prefers a e school ≡ true → IsCutoff m a school cutoff
      → Contains (refusals_of new it) (record { child = e.child; school = school; by = refusal_at e school cutoff })) m.entrants (λ e at.
      let c = from_map entrant (round_applicants old) e at in
      subst (λ (x : Candidate). (school : Code) (cutoff : Cutoff) → prefers a x school ≡ true → IsCutoff m a school cutoff
      → Contains (refusals_of new it) (record { child = x.child; school = school; by = refusal_at x school cutoff })) c.2
      (λ school cutoff wished is. contains (refusals_of new it) _ (refused c.0 c.1 school wished cutoff is)))
