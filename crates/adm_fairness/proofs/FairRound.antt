-- After a round a school that a child wants more than what it has is full, of children who held a place there or rank before it.
use Rattle.std.proofs.Common.{◌≡◌, ◌≢◌, ◌∙◌, ap, sym, subst, refl, Bool, true, false, not, ◌&&◌, ℕ, ◌-◌, ◌<◌, ◌≤◌, List, ◌++◌, length, Option, Some, None, map, inl, inr, arith}
use Rattle.std.specs.Prelude.{◌⊎◌, bytes_eq, IfSome, nat_lt, filter, option_map, count_by}
use Rattle.std.specs.List.{list_any, slice_get}
use Rattle.std.specs.Ordering.{nat_cmp}
use Rattle.std.specs.FinMap.{FinMap, get, values, contains_key}
use Rattle.std.specs.Option.{option_or, option_to_list}
use Rattle.std.proofs.lemmas.Bool.{and_parts, not-true, lt-ltb, ltb-false}
use Rattle.std.proofs.lemmas.Option.{same_Some}
use Rattle.std.proofs.lemmas.Slice.Eq.{bytes_eq-Decides}
use Rattle.adm_lists.proofs.Keys.{at_key, put_over}
use Rattle.adm_lists.proofs.Members.{In, All_in, in_map, in_left, none_in}
use Rattle.adm_types.specs.Code.{has}
use Rattle.adm_types.specs.Limits.{is_listed}
use Rattle.adm_types.specs.declared.rows.School.{School}
use Rattle.adm_types.specs.declared.rows.Application.{Application}
use Rattle.adm_types.specs.declared.rows.PlaceRow.{PlaceRow}
use Rattle.adm_types.specs.declared.draws.Lot.{Lot}
use Rattle.adm_types.specs.declared.draws.Outcome.{Outcome}
use Rattle.adm_rank.specs.Ranking.{precedes}
use Rattle.adm_match.specs.declared.problem.Wish.{Wish}
use Rattle.adm_match.specs.Market.{Code, Candidate, Market, preference_rank, assigned_rank, is_tenant, key_at, both_precede, ranks_before, quota_of}
use Rattle.adm_match.specs.Stability.{Allocation, count_at, is_guest, prefers, ranks_after, IsContent}
use Rattle.adm_match.specs.Distinct.{Distinct}
use Rattle.adm_match.proofs.Posed as problem
use Rattle.adm_match.proofs.Distinct.{distinct}
use Rattle.adm_match.proofs.RanksAndBlocks.{guest_from}
use Rattle.adm_round.specs.declared.applicants.Applicant.{Applicant}
use Rattle.adm_round.specs.Round.{number_of, listed, IsListFit}
use Rattle.adm_round.specs.Ranks.{candidate_of, site_of, lot_at}
use Rattle.adm_round.specs.Outcomes.{is_fresh, outcome_of, outcomes_at, HasListedSchool, AllotmentFits}
use Rattle.adm_round.proofs.Faultless.{its_schools, faultless}
use Rattle.adm_round.proofs.ListedSchools.{school_of_wish, on_list}
use Rattle.adm_register.specs.State.{State, is_plan}
use Rattle.adm_register.specs.Change.{after}
use Rattle.adm_register.specs.Wanted.{above, has_left, wanted_of}
use Rattle.adm_register.specs.WellFormed.{WellFormed, is_unplanned_at}
use Rattle.adm_register.proofs.RoundLemmas.{listed_in, in_listed}
use Rattle.adm_register.proofs.WaitLemmas.{wanted_parts}
use Rattle.adm_commands.specs.Commands.Round as round
use Rattle.adm_commands.specs.Commands.Round.{takes_part, round_applicants, round_lots, round_market, sites, quota, plans_at, offer_of, AreOutcomes}
use Rattle.adm_types.specs.declared.commands.Command.TheVariants.{Round}
use Rattle.adm_commands.specs.Steps.{Accepts}
use Rattle.adm_commands.specs.Tests.{first_failing}
use Rattle.adm_commands.proofs.Posed.{posed, lots_pass, some_of}
use Rattle.adm_commands.proofs.Shows.{no_row}
use Rattle.adm_commands.proofs.RoundOffers.{IsRound, offer_made, outcome, is_given, lists_given}
use Rattle.adm_commands.proofs.RoundEntrants.{school_there}
use Rattle.adm_commands.proofs.RoundRoom.{places_after}
use Rattle.adm_fairness.specs.Rounds.{key_in, ranks_before_in, IsFairlyFull, RoundIsFair}
use Rattle.adm_fairness.proofs.Codes.{not_blocked, rank_in, rank_wishes, length_wishes, listed_within, before_own, until, before_fresh, until_front, at_index}
use Rattle.adm_fairness.proofs.Taking.{IsTaking, taking, quota_at, IsWishAt, wish_there, key_of_wish}
use Rattle.adm_fairness.proofs.RoundPlaces.{wanted_here, rank_given, fresh_none, child_of, count_given, at_child, now_at, is_of, places_at_least}

module _ {old : State} {numbers : List ℕ} {outcomes : List Outcome} (facts : IsRound old numbers outcomes) (day : ℕ) where
  abbrev lots : List Lot
  lots = round_lots old numbers

  abbrev entrant : Applicant → Candidate
  entrant = candidate_of (site_of (sites old)) (lot_at lots)

  abbrev m : Market
  m = round_market old numbers

  abbrev a : Allocation
  a = facts.best.allocation

  abbrev next : FinMap nat_cmp PlaceRow
  next = places_after old day outcomes

  apart_keys : Distinct m
  apart_keys = distinct m (problem.posed m (faultless (sites old) (round_applicants old) lots facts.posed))

  -- of two that compete for a school the one ranks before the other there, or the other before the one
  one_first : (c d : Applicant) (ct : In c (round_applicants old)) (dt : In d (round_applicants old)) (code : Code) → (number_of c ≡ number_of d → ⊥)
      → has c.own code ≡ false → has d.own code ≡ false → (w z : Wish) (wc : IsWishAt old facts.well lots facts.posed c ct code w) (zd : IsWishAt old facts.well lots facts.posed d dt code z)
      → ranks_before code (entrant c) (entrant d) ≡ false → precedes z.key w.key ≡ true
  one_first c d ct dt code apart free_c free_d w z wc zd after' =
      let k = at_index m.entrants (entrant c) (in_map entrant (round_applicants old) c ct) in
      let l = at_index m.entrants (entrant d) (in_map entrant (round_applicants old) d dt) in
      let j = at_index (entrant c).list w wc.among in
      let i = at_index (entrant d).list z zd.among in
      let differ : k.0 ≢ l.0 = λ e. apart (ap (λ (x : Candidate). x.child) (same_Some (entrant c) (entrant d) (sym k.1 ∙ (ap (slice_get m.entrants) e ∙ l.1)))) in
      let c_key : key_at (entrant c).list code ≡ Some w.key = subst (λ (s : Code). key_at (entrant c).list s ≡ Some w.key) wc.at_school (apart_keys.key_of k.0 (entrant c) j.0 w k.1 j.1) in
      let d_key : key_at (entrant d).list code ≡ Some z.key = subst (λ (s : Code). key_at (entrant d).list s ≡ Some z.key) zd.at_school (apart_keys.key_of l.0 (entrant d) i.0 z l.1 i.1) in
      let before : precedes w.key z.key ≡ false = sym (λ n. both_precede (c_key n) (d_key n)) ∙ after' in
      apart_keys.keys k.0 l.0 (entrant c) (entrant d) j.0 i.0 w z differ k.1 l.1 j.1 i.1 (wc.at_school ∙ sym zd.at_school)
      (ap (has c.own) wc.at_school ∙ free_c) (ap (has d.own) wc.at_school ∙ free_d) before

  module _ (application : Application) (c : Applicant) (taking : IsTaking old application c) where
    abbrev place : Option PlaceRow
    place = get old.places application.child

    abbrev stays : Code → Bool
    stays other = not (has_left old.left application.child other)

    -- the schools that it wants by another place
    abbrev wanted_by : Option PlaceRow → List Code
    wanted_by found = filter stays (above found application.list)

    listed_is : listed c ≡ wanted_by place ++ option_to_list c.own
    listed_is = ap (λ (codes : List Code). codes ++ option_to_list c.own) taking.wanted

    pub given_listed : (school : Code) → a (number_of c) ≡ Some school → is_listed (listed c) school ≡ true
    given_listed school given = subst (λ o. IfSome o (λ s. is_listed (listed c) s ≡ true)) given (is_given facts HasListedSchool (lists_given facts) c taking.among)

    own_apart : (own : Code) → c.own ≡ Some own → is_listed c.wanted own ≡ false
    own_apart own is = subst (λ o. IfSome o (λ s. is_listed c.wanted s ≡ false)) is (All_in (IsListFit (sites old)) (round_applicants old) c facts.posed.lists_fit taking.among).own_apart

    -- the schools before one that is wanted
    pub until_wanted : (school : Code) → is_listed (above place application.list) school ≡ true → until school (above place application.list) ≡ until school application.list
    until_wanted school there = by place there
      where
        by : (found : Option PlaceRow) → is_listed (above found application.list) school ≡ true → until school (above found application.list) ≡ until school application.list
        by None there = refl
        by (Some row) there = until_front (λ code. not (bytes_eq code row.place.school)) application.list school there

    -- a school that it wants still is before the one that it is given
    still_before : (code : Code) → is_listed (wanted_by (get next application.child)) code ≡ true → rank_in (listed c) code < rank_given (listed c) (a (number_of c))
    still_before code wanted = by (offer_of day (outcome facts c)) refl
      where
        now : (made : Option PlaceRow) → offer_of day (outcome facts c) ≡ made → get next application.child ≡ option_or made place
        now made is = now_at facts day application c taking ∙ ap (λ o. option_or o place) is

        same : is_listed (wanted_by place) code ≡ true → (given : Option Code) → a (number_of c) ≡ given → offer_of day (outcome_of c given) ≡ None → rank_in (listed c) code < rank_given (listed c) given
        same here None is none = listed_within (listed c) code (in_listed (listed c) code (in_left c.wanted (option_to_list c.own) code (listed_in c.wanted code (ap (λ cs. is_listed cs code) taking.wanted ∙ here))))
        same here (Some school) is none =
            let own : c.own ≡ Some school = fresh_none day (number_of c) school c.own none in
            let order = before_own c.wanted school code (own_apart school own) (ap (λ cs. is_listed cs code) taking.wanted ∙ here) in
            subst (λ (o : Option Code). rank_in (c.wanted ++ option_to_list o) code < rank_in (c.wanted ++ option_to_list o) school) (sym own) order

        by : (made : Option PlaceRow) → offer_of day (outcome facts c) ≡ made → rank_in (listed c) code < rank_given (listed c) (a (number_of c))
        by None is = same (ap (λ o. is_listed (wanted_by o) code) (sym (now None is)) ∙ wanted) (a (number_of c)) refl is
        by (Some row) is =
            let school : Code = row.place.school in
            let parts = offer_made day (outcome facts c) row is in
            let fresh : is_fresh c.own (Some school) ≡ true = ap (is_fresh c.own) (sym parts.1) ∙ parts.0 in
            let chosen : is_listed (wanted_by place) school ≡ true =
            ap (λ cs. is_listed cs school) (sym taking.wanted) ∙ wanted_here c.wanted c.own school (given_listed school parts.1) (not-true (has c.own school) fresh) in
            let both = and_parts (is_listed (above place application.list) school) (stays school) (wanted_parts old application school ∙ chosen) in
            let here : is_listed (filter stays (until school (above place application.list))) code ≡ true =
            ap (λ cs. is_listed (filter stays cs) code) (until_wanted school both.0) ∙ (ap (λ o. is_listed (wanted_by o) code) (sym (now (Some row) is)) ∙ wanted) in
            let order = before_fresh stays (above place application.list) (option_to_list c.own) school code both.1 both.0 here in
            subst (λ o. rank_in (listed c) code < rank_given (listed c) o) (sym parts.1)
            (subst (λ (cs : List Code). rank_in cs code < rank_in cs school) (sym listed_is) order)

    -- so it prefers it to what it is given
    wishes_are : map school_of_wish (entrant c).list ≡ listed c
    wishes_are = its_schools (sites old) (round_applicants old) lots facts.posed c taking.among

    module _ (code : Code) (wanted : is_listed (wanted_by (get next application.child)) code ≡ true) where
      within : preference_rank (entrant c).list code < length (entrant c).list
      within =
          let rank = rank_wishes (entrant c).list code ∙ ap (λ cs. rank_in cs code) wishes_are in
          let all = length_wishes (entrant c).list ∙ ap length wishes_are in
          let less = by (a (number_of c)) refl (still_before code wanted) in
          omega (arith, rank, all, less)
        where
          by : (given : Option Code) → a (number_of c) ≡ given → rank_in (listed c) code < rank_given (listed c) given → rank_in (listed c) code < length (listed c)
          by None is less = less
          by (Some school) is less = omega (arith, less, listed_within (listed c) school (given_listed school is))

      wished : prefers a (entrant c) code ≡ true
      wished = lt-ltb _ _ (by (a (number_of c)) (still_before code wanted))
        where
          by : (given : Option Code) → rank_in (listed c) code < rank_given (listed c) given → preference_rank (entrant c).list code < assigned_rank (entrant c).list given
          by None less = within
          by (Some school) less = omega (
            arith,
            less,
            rank_wishes (entrant c).list code ∙ ap (λ cs. rank_in cs code) wishes_are,
            rank_wishes (entrant c).list school ∙ ap (λ cs. rank_in cs school) wishes_are,
          )

      its_wish : (wish : Wish) × IsWishAt old facts.well lots facts.posed c taking.among code wish
      its_wish = wish_there old facts.well lots facts.posed c taking.among code (listed_in (listed c) code (on_list (entrant c).list (listed c) code wishes_are within))

      parts : (has c.own code ≡ false) × (nat_lt (count_at m a code) (quota_of m.seats code) ≡ false) × (list_any (ranks_after a code (entrant c)) m.entrants ≡ false)
      parts = not_blocked (prefers a (entrant c) code) (is_tenant (entrant c) code) (nat_lt (count_at m a code) (quota_of m.seats code)) (list_any (ranks_after a code (entrant c)) m.entrants)
          (All_in (IsContent m a) m.entrants (entrant c) facts.best.best.stable.unblocked (in_map entrant (round_applicants old) c taking.among) code) wished

      -- it wanted the school before
      wanted_before : is_listed (wanted_by place) code ≡ true
      wanted_before =
          ap (λ cs. is_listed cs code) (sym taking.wanted) ∙ wanted_here c.wanted c.own code (on_list (entrant c).list (listed c) code wishes_are within) parts.0

      -- whom the school took in ranks before it
      taken_first : (other : ℕ) (o : Outcome) (row : PlaceRow) → at_key child_of outcomes other ≡ Some o → offer_of day o ≡ Some row → bytes_eq row.place.school code ≡ true
          → ranks_before_in old lots code other application.child ≡ true
      taken_first other o row at made here =
          let it = is_of facts day other o at in
          let d = it.applicant in
          let offered = offer_made day o row made in
          let given : a (number_of d) ≡ Some code = ap (λ (x : Outcome). x.school) it.outcome_is ∙ (offered.1 ∙ ap Some ((bytes_eq-Decides row.place.school code).0 here)) in
          let fresh : is_fresh d.own (Some code) ≡ true = ap (is_fresh d.own) (sym given) ∙ (ap (λ (x : Outcome). x.fresh) it.outcome_is ∙ offered.0) in
          let free : has d.own code ≡ false = not-true (has d.own code) fresh in
          let lists : is_listed (listed d) code ≡ true = subst (λ p. IfSome p (λ s. is_listed (listed d) s ≡ true)) given (is_given facts HasListedSchool (lists_given facts) d it.taking.among) in
          let z = wish_there old facts.well lots facts.posed d it.taking.among code (listed_in (listed d) code lists) in
          let guest : is_guest a code (entrant d) ≡ true = guest_from a code (entrant d) given free in
          let not_after = none_in (ranks_after a code (entrant c)) m.entrants (entrant d) parts.2 (in_map entrant (round_applicants old) d it.taking.among) in
          let later : ranks_before code (entrant c) (entrant d) ≡ false = sym (ap (λ b. b && ranks_before code (entrant c) (entrant d)) guest) ∙ not_after in
          let apart : number_of c ≡ number_of d → ⊥ = λ e. (
          let mine : a (number_of c) ≡ Some code = ap a e ∙ given in
          omega (arith, subst (λ p. rank_in (listed c) code < rank_given (listed c) p) mine (still_before code wanted))) in
          let first = one_first c d taking.among it.taking.among code apart parts.0 free its_wish.0 z.0 its_wish.1 z.1 later in
          let c_key = key_of_wish old facts.well lots facts.posed application c taking code its_wish.0 its_wish.1 in
          let d_key : key_in old lots code other ≡ Some z.0.key = ap (key_in old lots code) (sym it.number_is) ∙ key_of_wish old facts.well lots facts.posed it.application d it.taking code z.0 z.1 in
          (λ n. both_precede (d_key n) (c_key n)) ∙ first

      held_or_first : (other : ℕ) → is_unplanned_at (get next other) code ≡ true → (is_unplanned_at (get old.places other) code ≡ true) ⊎ (ranks_before_in old lots code other application.child ≡ true)
      held_or_first other held = by (at_key child_of outcomes other) refl
        where
          offered : (o : Outcome) → at_key child_of outcomes other ≡ Some o → (made : Option PlaceRow) → offer_of day o ≡ made → get next other ≡ option_or made (get old.places other)
              → (is_unplanned_at (get old.places other) code ≡ true) ⊎ (ranks_before_in old lots code other application.child ≡ true)
          offered o at None is now = inl (ap (λ p. is_unplanned_at p code) (sym now) ∙ held)
          offered o at (Some row) is now =
              let there : is_unplanned_at (Some row) code ≡ true = ap (λ p. is_unplanned_at p code) (sym now) ∙ held in
              inr (taken_first other o row at is (and_parts (bytes_eq row.place.school code) (not (is_plan row.place.state)) there).0)

          by : (found : Option Outcome) → at_key child_of outcomes other ≡ found → (is_unplanned_at (get old.places other) code ≡ true) ⊎ (ranks_before_in old lots code other application.child ≡ true)
          by None at = inl (ap (λ p. is_unplanned_at p code) (sym (at_child facts day other ∙ ap (λ o. put_over (offer_of day) o (get old.places other)) at)) ∙ held)
          by (Some o) at = offered o at (offer_of day o) refl (at_child facts day other ∙ ap (λ x. put_over (offer_of day) x (get old.places other)) at)

      -- no place is free
      none_free : (school : School) → get old.schools code ≡ Some school → school.pan - count_by (λ (row : PlaceRow). bytes_eq row.place.school code) (values next) ≡ 0
      none_free school there =
          let own = (facts.well.base.schools_fit code school there).own_code in
          let enough : quota_of m.seats code ≤ count_at m a code = ltb-false _ _ parts.1 in
          let places : quota_of m.seats code ≡ quota old school = quota_at old facts.well code school there in
          let plans : plans_at old.places school.code ≡ plans_at old.places code = ap (plans_at old.places) own in
          let counted : outcomes_at code outcomes ≡ count_at m a code = ap (outcomes_at code) facts.best.given ∙ count_given entrant (λ x. refl) a code (round_applicants old) in
          omega (arith, enough, places, plans, counted, places_at_least facts day code)

      fairly_full : (lists : contains_key old.schools code ≡ true) (new : State) → new.schools ≡ old.schools → new.places ≡ next → IsFairlyFull old new lots code application.child
      fairly_full lists new same_schools same_places =
          let found = some_of (get old.schools code) lists in
          record {
            full =
                (λ i. option_map (λ (school : School). school.pan - count_by (λ (row : PlaceRow). bytes_eq row.place.school code) (values (same_places i))) (get (same_schools i) code))
                ∙ (ap (option_map (λ (school : School). school.pan - count_by (λ (row : PlaceRow). bytes_eq row.place.school code) (values next))) found.1
                ∙ ap Some (none_free found.0 found.1));
            others = λ other held. held_or_first other (ap (λ ps. is_unplanned_at (get ps other) code) (sym same_places) ∙ held);
          }

      known : contains_key old.schools code ≡ true
      known = school_there old facts.well lots facts.posed c code taking.among (on_list (entrant c).list (listed c) code wishes_are within)

-- what is known of an accepted round
pub record RoundFacts (old new : State) (draw day : ℕ) (numbers : List ℕ) : Type 0 where
  pub outcomes : List Outcome
  pub facts : IsRound old numbers outcomes
  pub now : new ≡ after old (round.change_of old draw day numbers outcomes)

pub round_facts : AllotmentFits → (old new : State) (draw day : ℕ) (numbers : List ℕ) → WellFormed old → Accepts old (Round draw day numbers) new → RoundFacts old new draw day numbers
round_facts law old new draw day numbers well accepts =
    let passes : first_failing (round.tests old draw day numbers) ≡ None = no_row _ accepts.1.0 in
    let effect = accepts.1.1 in
    let result = effect.1 in
    record {
      outcomes = result.0;
      facts = record { well = well; posed = posed old numbers well (lots_pass old draw day numbers passes); best = result.1; law = law };
      now = effect.2 ∙ ap (after old) result.2;
    }

module _ (old new : State) (draw day : ℕ) (numbers : List ℕ) (it : RoundFacts old new draw day numbers) (application : Application) (code : Code)
    (applied : get old.applications application.child ≡ Some application) (part : takes_part old application ≡ true) (wanted : is_listed (wanted_of new application) code ≡ true) where
  c : (applicant : Applicant) × IsTaking old application applicant
  c = taking old it.facts.well application applied part

  here : is_listed (wanted_by it.facts day application c.0 c.1 (get (places_after old day it.outcomes) application.child)) code ≡ true
  unfolding round.change_of
  here = ap (λ s. is_listed (wanted_of s application) code) (sym it.now) ∙ wanted

  pub fair_after : IsFairlyFull old new (round_lots old numbers) code application.child
  unfolding round.change_of
  fair_after =
      fairly_full it.facts day application c.0 c.1 code here (known it.facts day application c.0 c.1 code here) new (ap (λ (s : State). s.schools) it.now) (ap (λ (s : State). s.places) it.now)

  -- what it wants after the round it wanted before
  pub wanted_already : is_listed (wanted_of old application) code ≡ true
  wanted_already = wanted_before it.facts day application c.0 c.1 code here

pub round_is_fair_law : AllotmentFits → RoundIsFair
round_is_fair_law law old new draw day numbers application code well accepts applied part wanted =
    fair_after old new draw day numbers (round_facts law old new draw day numbers well accepts) application code applied part wanted
