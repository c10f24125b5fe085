-- The view of a draw explains its round: its cutoffs are those of the problem, and its reasons those of its cutoffs.
use Rattle.std.proofs.Common.{◌≡◌, ◌∙◌, ap, sym, subst, refl, cond, Bool, true, false, not, ℕ, ◌<◌, List, ◌++◌, length, Option, Some, None, map, inl, inr, arith}
use Rattle.std.specs.Prelude.{All, IfSome, Any, filter}
use Rattle.std.specs.List.{take_while}
use Rattle.std.specs.Option.{option_to_list}
use Rattle.std.specs.Cmp.{nat_cmp_total}
use Rattle.std.specs.FinMap.{get, get-insert}
use Rattle.std.proofs.lemmas.Bool.{cases_Bool, and_parts, lt-ltb}
use Rattle.std.proofs.lemmas.Option.{same_Some, none-some}
use Rattle.adm_lists.proofs.Orders.{tied}
use Rattle.adm_lists.proofs.Members.{In, All_in, in_All, in_map, in_left, in_filter, from_filter_map}
use Rattle.adm_types.specs.Code.{has}
use Rattle.adm_types.specs.Limits.{is_listed}
use Rattle.adm_types.specs.declared.rows.Application.{Application}
use Rattle.adm_types.specs.declared.rows.PlaceRow.{PlaceRow}
use Rattle.adm_types.specs.declared.draws.Draw.{Draw}
use Rattle.adm_types.specs.declared.draws.Lot.{Lot}
use Rattle.adm_types.specs.declared.draws.Outcome.{Outcome}
use Rattle.adm_match.specs.Market.{Code, Candidate, Market, assigned_rank, some_pair}
use Rattle.adm_match.specs.Stability.{Allocation, prefers}
use Rattle.adm_match.proofs.RanksAndBlocks.{has_tells}
use Rattle.adm_round.specs.declared.applicants.Applicant.{Applicant}
use Rattle.adm_round.specs.Round.{number_of, listed, wants, IsListFit}
use Rattle.adm_round.specs.Ranks.{candidate_of, site_of, lot_at}
use Rattle.adm_round.specs.Outcomes.{AllotmentFits}
use Rattle.adm_round.proofs.Faultless.{its_schools}
use Rattle.adm_round.proofs.ListedSchools.{code_swap, school_of_wish}
use Rattle.adm_register.specs.State.{State}
use Rattle.adm_register.specs.Wanted.{has_left}
use Rattle.adm_register.specs.Wanted as register
use Rattle.adm_register.proofs.RoundLemmas.{listed_in, in_listed}
use Rattle.adm_register.proofs.WaitLemmas.{wanted_parts}
use Rattle.adm_cutoffs.specs.Reasons.{reason_beside}
use Rattle.adm_cutoffs.specs.Cutoffs.{outcome_for, key_by_lot, last_key, above, is_above, wants_more, refusal_by_lot, refusals_of}
use Rattle.adm_cutoffs.specs.declared.refusals.Refusal.{Refusal}
use Rattle.adm_commands.specs.KeptByTypes.{KeptByRound}
use Rattle.adm_commands.specs.Commands.Round as round
use Rattle.adm_commands.specs.Commands.Round.{round_applicants, round_lots, round_market, sites}
use Rattle.adm_commands.proofs.RoundOffers.{outcome}
use Rattle.adm_commands.proofs.RoundDraw.{round_draw}
use Rattle.adm_fairness.specs.Explained.{IsRefusalOf, same_refused, AreRefusals, IsExplained, RoundIsExplained}
use Rattle.adm_fairness.proofs.Codes.{rank_in, rank_wishes, length_wishes, listed_within, before_own, before_fresh, until}
use Rattle.adm_fairness.proofs.Taking.{IsTaking, taking_of}
use Rattle.adm_fairness.proofs.FairRound.{RoundFacts, round_facts, given_listed, until_wanted}
use Rattle.adm_fairness.proofs.RoundPlaces.{wanted_here, rank_given}
use Rattle.adm_fairness.proofs.ExplainedLists.{Any_in, once_each}
use Rattle.adm_fairness.proofs.ExplainedRound.{IsShown, IsLotOf, whose, lots_rise, outcome_there}
use Rattle.adm_fairness.proofs.ExplainedCutoffs.{are_cutoffs}
use Rattle.adm_fairness.proofs.ExplainedRefusals.{why, each_refused}

-- ---- no other refusals

module _ {old new : State} {numbers : List ℕ} {outcomes : List Outcome} (shown : IsShown old new numbers outcomes) where
  abbrev lots : List Lot
  lots = round_lots old numbers

  abbrev it : Draw
  it = round_draw old shown.draw shown.day numbers outcomes

  abbrev entrant : Applicant → Candidate
  entrant = candidate_of (site_of (sites old)) (lot_at lots)

  abbrev m : Market
  m = round_market old numbers

  abbrev a : Allocation
  a = shown.facts.best.allocation

  -- the refusal of a lot's child at its school
  abbrev row_by : Lot → Refusal
  row_by lot = record { child = lot.child; school = lot.school; by = reason_beside (last_key new outcomes lots lot.school) (key_by_lot new lot) }

  by_lot : (lot : Lot) (row : Refusal) → refusal_by_lot new it lot ≡ Some row → (wants_more new (outcome_for outcomes lot.child) lot.school ≡ true) × (row_by lot ≡ row)
  by_lot lot row made = by (wants_more new (outcome_for outcomes lot.child) lot.school) refl made
    where
      by : (b : Bool) → wants_more new (outcome_for outcomes lot.child) lot.school ≡ b → cond b (Some (row_by lot)) None ≡ Some row
          → (wants_more new (outcome_for outcomes lot.child) lot.school ≡ true) × (row_by lot ≡ row)
      by true wants made = (wants, same_Some (row_by lot) row made)
      by false wants made = absurd (none-some row made)

  module _ (lot : Lot) (lt : In lot lots) (more : wants_more new (outcome_for outcomes lot.child) lot.school ≡ true) where
    abbrev c : Applicant
    c = (whose shown lot lt).0

    its_lot : IsLotOf shown lot c
    its_lot = (whose shown lot lt).1

    abbrev code : Code
    code = lot.school

    taken : (application : Application) × IsTaking old application c
    taken = taking_of old shown.facts.well c its_lot.among

    abbrev its_list : List Code
    its_list = taken.0.list

    abbrev its_place : Option PlaceRow
    its_place = get old.places taken.0.child

    abbrev its_stays : Code → Bool
    its_stays other = not (has_left old.left taken.0.child other)

    listed_above : is_listed (above (a (number_of c)) its_list) code ≡ true
    listed_above =
        let applied : get new.applications (number_of c) ≡ Some taken.0 = (λ i. get (shown.applications i) (taken.1.number i)) ∙ taken.1.applied in
        let there : outcome_for outcomes lot.child ≡ Some (outcome shown.facts c) = ap (outcome_for outcomes) its_lot.number ∙ outcome_there shown c its_lot.among in
        sym (ap (λ o. is_above o (a (number_of c)) code) applied) ∙ (sym (ap (λ o. wants_more new o code) there) ∙ more)

    -- so it comes before what the child is given
    before_given : (given : Option Code) → a (number_of c) ≡ given → rank_in (listed c) code < rank_given (listed c) given
    before_given None is = listed_within (listed c) code (in_listed (listed c) code (in_left c.wanted (option_to_list c.own) code (listed_in c.wanted code its_lot.wanted)))
    before_given (Some school) is = elim (cases_Bool (has c.own school)) [
      | inl own ↦
          let owned : c.own ≡ Some school = (has_tells c.own school).0 own in
          let fit = All_in (IsListFit (sites old)) (round_applicants old) c shown.facts.posed.lists_fit its_lot.among in
          let apart : is_listed c.wanted school ≡ false = subst (λ o. IfSome o (λ s. is_listed c.wanted s ≡ false)) owned fit.own_apart in
          subst (λ (o : Option Code). rank_in (c.wanted ++ option_to_list o) code < rank_in (c.wanted ++ option_to_list o) school) (sym owned)
          (before_own c.wanted school code apart its_lot.wanted)
      | inr fresh ↦
          let swapped : above (Some school) its_list ≡ until school its_list = λ i. take_while (λ s. not (code_swap school s i)) its_list in
          let front : is_listed (until school its_list) code ≡ true =
          ap (λ cs. is_listed cs code) (sym swapped) ∙ subst (λ (o : Option Code). is_listed (above o its_list) code ≡ true) is listed_above in
          let wants : is_listed c.wanted school ≡ true = wanted_here c.wanted c.own school (given_listed shown.facts shown.day taken.0 c taken.1 school is) fresh in
          let both = and_parts (is_listed (register.above its_place its_list) school) (its_stays school)
          (wanted_parts old taken.0 school ∙ (ap (λ cs. is_listed cs school) (sym taken.1.wanted) ∙ wants)) in
          let still = (and_parts (is_listed (register.above its_place its_list) code) (its_stays code)
          (wanted_parts old taken.0 code ∙ (ap (λ cs. is_listed cs code) (sym taken.1.wanted) ∙ its_lot.wanted))).1 in
          let ahead : List Code = until school (register.above its_place its_list) in
          let first : is_listed ahead code ≡ true = ap (λ cs. is_listed cs code) (until_wanted shown.facts shown.day taken.0 c taken.1 school both.0) ∙ front in
          let here : is_listed (filter its_stays ahead) code ≡ true =
          in_listed (filter its_stays ahead) code (in_filter its_stays ahead code (listed_in ahead code first) still) in
          let order = before_fresh its_stays (register.above its_place its_list) (option_to_list c.own) school code both.1 both.0 here in
          let lists : listed c ≡ filter its_stays (register.above its_place its_list) ++ option_to_list c.own = ap (λ (cs : List Code). cs ++ option_to_list c.own) taken.1.wanted in
          subst (λ (cs : List Code). rank_in cs code < rank_in cs school) (sym lists) order
    ]

    -- and the child prefers it
    prefers_it : prefers a (entrant c) code ≡ true
    prefers_it = lt-ltb _ _ (omega (arith, before_given (a (number_of c)) refl, rank_wishes (entrant c).list code ∙ ap (λ cs. rank_in cs code) lists, rank (a (number_of c))))
      where
        lists : map school_of_wish (entrant c).list ≡ listed c
        lists = its_schools (sites old) (round_applicants old) lots shown.facts.posed c its_lot.among

        rank : (o : Option Code) → assigned_rank (entrant c).list o ≡ rank_given (listed c) o
        rank None = length_wishes (entrant c).list ∙ ap length lists
        rank (Some s) = rank_wishes (entrant c).list s ∙ ap (λ cs. rank_in cs s) lists

  only_refused : All (λ (row : Refusal). Any (IsRefusalOf m a row) m.entrants) (refusals_of new it)
  unfolding refusals_of
  only_refused = in_All (λ (row : Refusal). Any (IsRefusalOf m a row) m.entrants) (refusals_of new it) (λ row at.
      let found = from_filter_map (refusal_by_lot new it) lots row at in
      let made = by_lot found.0 row found.2 in
      let who = whose shown found.0 found.1 in
      let wished = prefers_it found.0 found.1 made.0 in
      subst (λ (r : Refusal). Any (IsRefusalOf m a r) m.entrants) made.1
      (Any_in (IsRefusalOf m a (row_by found.0)) m.entrants (entrant who.0) (in_map entrant (round_applicants old) who.0 who.1.among) (record {
        child = who.1.number;
        wished = wished;
        reason = λ cutoff is. why shown who.0 who.1.among found.0.school wished found.0 found.1 who.1 refl cutoff is;
      })))

  once_refused : some_pair same_refused (refusals_of new it) ≡ false
  unfolding refusals_of
  once_refused = once_each (refusal_by_lot new it) (λ lot row made.
      let is = (by_lot lot row made).1 in
      (sym (ap (λ (r : Refusal). r.child) is), sym (ap (λ (r : Refusal). r.school) is))) lots (lots_rise shown)

  pub are_refusals : AreRefusals m a (refusals_of new it)
  are_refusals = record { each = each_refused shown; only = only_refused; once = once_refused }

-- ---- the view of a draw

module _ (old new : State) (draw day : ℕ) (numbers : List ℕ) (kept : KeptByRound day numbers) (found : RoundFacts old new draw day numbers) where
  pub explained : IsExplained old new draw numbers
  unfolding round.change_of
  explained =
      let draw_shown : Draw = round_draw old draw day numbers found.outcomes in
      let shown : IsShown old new numbers found.outcomes = record {
        facts = found.facts;
        draw = draw;
        day = day;
        kept = kept;
        schools = ap (λ (s : State). s.schools) found.now;
        children = ap (λ (s : State). s.children) found.now;
        applications = ap (λ (s : State). s.applications) found.now;
      } in
      record {
        draw = draw_shown;
        there = ap (λ (s : State). get s.draws draw) found.now ∙ (get-insert nat_cmp_total old.draws draw draw_shown draw ∙ ap (λ b. cond b (Some draw_shown) (get old.draws draw)) (tied nat_cmp_total draw));
        best = found.facts.best.allocation;
        is_best = found.facts.best.best;
        cutoffs = are_cutoffs shown;
        refusals = are_refusals shown;
      }

pub round_is_explained_law : AllotmentFits → RoundIsExplained
round_is_explained_law law old new draw day numbers well kept accepts = explained old new draw day numbers kept (round_facts law old new draw day numbers well accepts)
