-- A round that is explained: the lot, the outcome and the key of each applicant.
use Rattle.std.proofs.Common.{◌≡◌, ◌∙◌, ap, sym, subst, refl, Bool, true, false, not, ◌&&◌, ◌==◌, ℕ, List, [], ◌∷◌, Option, Some, None, inl, inr}
use Rattle.std.specs.Prelude.{bytes_eq, filter, option_map, option_and_then, unwrap_or}
use Rattle.std.specs.List.{list_all}
use Rattle.std.specs.Option.{option_to_list}
use Rattle.std.specs.Ordering.{nat_cmp, is_lt}
use Rattle.std.specs.Cmp.{nat_cmp_total, unsigned_Decides}
use Rattle.std.specs.FinMap.{get}
use Rattle.std.proofs.lemmas.Bool.{false≢true, and_parts}
use Rattle.std.proofs.lemmas.Cmp.{tied_itself}
use Rattle.std.proofs.lemmas.Slice.Eq.{bytes_eq-Decides}
use Rattle.adm_lists.proofs.Members.{In, All_in, passes_in, find_gives, finds, in_map, from_map, in_left, in_filter, from_filter, in_flat_map, from_flat_map}
use Rattle.adm_types.specs.Code.{has}
use Rattle.adm_types.specs.Limits.{is_listed}
use Rattle.adm_types.specs.Lots.{repeats_lot}
use Rattle.adm_types.specs.declared.rows.School.{School}
use Rattle.adm_types.specs.declared.rows.Child.{Child}
use Rattle.adm_types.specs.declared.draws.Draw.{Draw}
use Rattle.adm_types.specs.declared.draws.Lot.{Lot}
use Rattle.adm_types.specs.declared.draws.Outcome.{Outcome}
use Rattle.adm_draws.specs.Draws.{rises, lot_cmp, outcome_cmp, are_ordered, fresh_has_school, is_round_or_fill}
use Rattle.adm_rank.specs.declared.keys.RankKey.{RankKey}
use Rattle.adm_rank.specs.Ranking.{key_of}
use Rattle.adm_match.specs.Market.{Code, Candidate, Market, key_at}
use Rattle.adm_match.specs.Stability.{Allocation, is_guest}
use Rattle.adm_match.specs.Distinct.{Distinct}
use Rattle.adm_match.proofs.Posed as problem
use Rattle.adm_match.proofs.Distinct.{distinct}
use Rattle.adm_round.specs.declared.applicants.Applicant.{Applicant}
use Rattle.adm_round.specs.declared.applicants.Pair.{Pair}
use Rattle.adm_round.specs.Round.{code_of_site, number_of, listed, wants, pair_at, pairs_at, pairs, pair_of, is_site, IsListFit}
use Rattle.adm_round.specs.Ranks.{candidate_of, site_of, lot_at}
use Rattle.adm_round.specs.Outcomes.{is_fresh}
use Rattle.adm_round.proofs.Faultless.{faultless}
use Rattle.adm_round.proofs.ListedSchools.{code_self, site_known}
use Rattle.adm_register.specs.State.{State}
use Rattle.adm_register.proofs.RoundLemmas.{listed_in}
use Rattle.adm_cutoffs.specs.Cutoffs.{outcome_for, is_new_place, is_taken_in, key_by_lot}
use Rattle.adm_commands.specs.KeptByTypes.{KeptByRound}
use Rattle.adm_commands.specs.Commands.Round.{round_applicants, round_lots, round_market, sites}
use Rattle.adm_commands.proofs.RoundOffers.{IsRound, outcome, its_outcome}
use Rattle.adm_commands.proofs.RoundDraw.{round_draw, draw_fits}
use Rattle.adm_fairness.proofs.Codes.{at_index}
use Rattle.adm_fairness.proofs.Taking.{taking_of, wish_there}
use Rattle.adm_fairness.proofs.ExplainedLists.{and_swap, both_under, one_lot}

-- what the outcome of a child says of a school is what the allocation says of its entrant
agree : (own given : Option Code) (school : Code) → (is_fresh own given && has given school) ≡ (has given school && not (has own school))
agree own None school = refl
agree own (Some other) school =
    and_swap (not (has own other)) (bytes_eq other school)
    ∙ both_under (bytes_eq other school) (not (has own other)) (not (has own school)) (λ hit. ap (λ c. not (has own c)) ((bytes_eq-Decides other school).0 hit))

first_of : (p q r t : Bool) → (p && q && r && t) ≡ true → p ≡ true
first_of true q r t all = refl
first_of false q r t all = absurd (false≢true all)

-- a round, and a register with its schools, its children and its applications
pub record IsShown (old new : State) (numbers : List ℕ) (outcomes : List Outcome) : Type 0 where
  pub facts : IsRound old numbers outcomes
  pub draw : ℕ
  pub day : ℕ
  pub kept : KeptByRound day numbers
  pub schools : new.schools ≡ old.schools
  pub children : new.children ≡ old.children
  pub applications : new.applications ≡ old.applications

module _ {old new : State} {numbers : List ℕ} {outcomes : List Outcome} (shown : IsShown old new numbers outcomes) where
  abbrev lots : List Lot
  lots = round_lots old numbers

  abbrev it : Draw
  it = round_draw old shown.draw shown.day numbers outcomes

  abbrev entrant : Applicant → Candidate
  entrant = candidate_of (site_of (sites old)) (lot_at lots)

  abbrev m : Market
  m = round_market old numbers

  abbrev a : Allocation
  a = shown.facts.best.allocation

  apart_keys : Distinct m
  apart_keys = distinct m (problem.posed m (faultless (sites old) (round_applicants old) lots shown.facts.posed))

  ordered : are_ordered it ≡ true
  ordered = first_of (are_ordered it) (not (repeats_lot lots)) (list_all fresh_has_school outcomes) (is_round_or_fill it.round it.school outcomes) (draw_fits shown.facts shown.draw shown.day shown.kept (ap not shown.facts.posed.lots_differ)).form

  pub lots_rise : rises lot_cmp lots ≡ true
  lots_rise = (and_parts (rises outcome_cmp outcomes) (rises lot_cmp lots) ordered).1

  -- the lot of a pair is that of the draw
  its_number : (lot : Lot) → In lot lots → lot_at lots lot.school lot.child ≡ lot.lot
  its_number lot at =
      let test : Lot → Bool = λ other. bytes_eq other.school lot.school && other.child == lot.child in
      let itself : test lot ≡ true = λ i. code_self lot.school i && (unsigned_Decides lot.child lot.child).1 refl i in
      let found = finds test lots lot at itself in
      let is = find_gives test lots found.0 found.1 in
      let parts = and_parts (bytes_eq found.0.school lot.school) (found.0.child == lot.child) is.1 in
      let same = one_lot lots lots_rise found.0 lot is.0 at ((bytes_eq-Decides found.0.school lot.school).0 parts.0) ((unsigned_Decides found.0.child lot.child).0 parts.1) in
      ap (λ o. unwrap_or (option_map (λ (x : Lot). x.lot) o) 0) found.1 ∙ ap (λ (x : Lot). x.lot) same

  -- whose lot it is
  pub record IsLotOf (lot : Lot) (applicant : Applicant) : Type 0 where
    pub among : In applicant (round_applicants old)
    pub wanted : is_listed applicant.wanted lot.school ≡ true
    pub number : lot.child ≡ number_of applicant

  pub whose : (lot : Lot) → In lot lots → (applicant : Applicant) × IsLotOf lot applicant
  whose lot at =
      let pair_there : In (pair_of lot) (pairs (sites old) (round_applicants old)) = subst (In (pair_of lot)) shown.facts.posed.lots_drawn (in_map pair_of lots lot at) in
      let site = from_flat_map (pairs_at (round_applicants old)) (sites old) (pair_of lot) pair_there in
      let code = code_of_site site.0 in
      let found = from_map (pair_at code) (filter (wants code) (round_applicants old)) (pair_of lot) site.2 in
      let there = from_filter (wants code) (round_applicants old) found.0 found.1 in (
        found.0,
        record {
          among = there.0;
          wanted = ap (is_listed found.0.wanted) (sym (ap (λ (p : Pair). p.school) found.2)) ∙ there.1;
          number = sym (ap (λ (p : Pair). p.child) found.2);
        },
      )

  -- the lot of an applicant at a school that it wants
  pub record HasLot (c : Applicant) (code : Code) : Type 0 where
    pub lot : Lot
    pub among : In lot lots
    pub school : lot.school ≡ code
    pub child : lot.child ≡ number_of c

  pub has_lot : (c : Applicant) → In c (round_applicants old) → (code : Code) → is_listed c.wanted code ≡ true → HasLot c code
  has_lot c ct code wanted =
      let listed_there : In code (listed c) = in_left c.wanted (option_to_list c.own) code (listed_in c.wanted code wanted) in
      let site = site_known (sites old) code (All_in (λ s. is_site (sites old) s ≡ true) (listed c) code (All_in (IsListFit (sites old)) (round_applicants old) c shown.facts.posed.lists_fit ct).known listed_there) in
      let here : wants (code_of_site site.site) c ≡ true = ap (is_listed c.wanted) site.at_code ∙ wanted in
      let pair_there = in_flat_map (pairs_at (round_applicants old)) (sites old) site.site (pair_at (code_of_site site.site) c) site.among
      (in_map (pair_at (code_of_site site.site)) (filter (wants (code_of_site site.site)) (round_applicants old)) c (in_filter (wants (code_of_site site.site)) (round_applicants old) c ct here)) in
      let found = from_map pair_of lots (pair_at (code_of_site site.site) c) (subst (In (pair_at (code_of_site site.site) c)) (sym shown.facts.posed.lots_drawn) pair_there) in
      record {
        lot = found.0;
        among = found.1;
        school = ap (λ (p : Pair). p.school) found.2 ∙ site.at_code;
        child = ap (λ (p : Pair). p.child) found.2;
      }

  -- the outcome of an applicant
  pub outcome_there : (c : Applicant) → In c (round_applicants old) → outcome_for outcomes (number_of c) ≡ Some (outcome shown.facts c)
  outcome_there c ct =
      let test : Outcome → Bool = λ o. o.child == number_of c in
      let found = finds test outcomes (outcome shown.facts c) (its_outcome shown.facts c ct) ((unsigned_Decides (number_of c) (number_of c)).1 refl) in
      let is = find_gives test outcomes found.0 found.1 in
      found.1 ∙ ap Some (one_outcome found.0 (outcome shown.facts c) is.0 (its_outcome shown.facts c ct) ((unsigned_Decides found.0.child (number_of c)).0 is.1))
    where
      rise : rises outcome_cmp outcomes ≡ true
      rise = (and_parts (rises outcome_cmp outcomes) (rises lot_cmp lots) ordered).0

      of_one : (os : List Outcome) → rises outcome_cmp os ≡ true → (x y : Outcome) → In x os → In y os → x.child ≡ y.child → x ≡ y
      of_one [] up x y first second same = absurd first
      of_one (z ∷ zs) up x y first second same =
          let parts = and_parts _ (rises outcome_cmp zs) up in
          elim first [
            | inl at ↦ elim second [
              | inl here ↦ sym at ∙ here
              | inr more ↦
                  let less : is_lt (outcome_cmp z y) ≡ true = passes_in (λ w. is_lt (outcome_cmp z w)) zs y parts.0 more in
                  absurd (false≢true (sym (ap is_lt (tied_itself nat_cmp_total y.child)) ∙ (ap (λ n. is_lt (nat_cmp n y.child)) (sym same ∙ ap (λ (w : Outcome). w.child) (sym at)) ∙ less)))
            ]
            | inr more ↦ elim second [
              | inl here ↦
                  let less : is_lt (outcome_cmp z x) ≡ true = passes_in (λ w. is_lt (outcome_cmp z w)) zs x parts.0 more in
                  absurd (false≢true (sym (ap is_lt (tied_itself nat_cmp_total x.child)) ∙ (ap (λ n. is_lt (nat_cmp n x.child)) (same ∙ ap (λ (w : Outcome). w.child) (sym here)) ∙ less)))
              | inr others ↦ of_one zs parts.1 x y more others same
            ]
          ]

      one_outcome : (x y : Outcome) → In x outcomes → In y outcomes → x.child ≡ y.child → x ≡ y
      one_outcome x y first second same = of_one outcomes rise x y first second same

  -- who is taken in by its lot is a guest
  pub taken_is : (lot : Lot) (c : Applicant) → IsLotOf lot c → is_taken_in outcomes lot ≡ is_guest a lot.school (entrant c)
  taken_is lot c of =
      ap (is_new_place lot.school) (ap (outcome_for outcomes) of.number ∙ outcome_there c of.among) ∙ agree c.own (a (number_of c)) lot.school

  -- the key by a lot is the one of the problem
  pub key_of_lot : (lot : Lot) → In lot lots → (c : Applicant) → IsLotOf lot c → (key : RankKey) × (key_by_lot new lot ≡ Some key) × (key_at (entrant c).list lot.school ≡ Some key)
  key_of_lot lot at c of =
      let code = lot.school in
      let listed_there = in_left c.wanted (option_to_list c.own) code (listed_in c.wanted code of.wanted) in
      let w = wish_there old shown.facts.well lots shown.facts.posed c of.among code listed_there in
      let taking = taking_of old shown.facts.well c of.among in
      let k = at_index m.entrants (entrant c) (in_map entrant (round_applicants old) c of.among) in
      let j = at_index (entrant c).list w.0 w.1.among in
      let in_problem : key_at (entrant c).list code ≡ Some w.0.key = subst (λ (s : Code). key_at (entrant c).list s ≡ Some w.0.key) w.1.at_school (apart_keys.key_of k.0 (entrant c) j.0 w.0 k.1 j.1) in
      let child_there : get new.children lot.child ≡ Some c.child = (λ i. get (shown.children i) ((of.number ∙ taking.1.number) i)) ∙ taking.1.there in
      let school_there : get new.schools code ≡ Some w.1.school = ap (λ ss. get ss code) shown.schools ∙ w.1.there in
      let number : lot_at lots code (number_of c) ≡ lot.lot = ap (lot_at lots code) (sym of.number) ∙ its_number lot at in (
        w.0.key,
        (λ i. option_and_then (λ (school : School). option_map (λ (child : Child). key_of school child lot.lot) (child_there i)) (school_there i))
            ∙ ap Some (sym (w.1.key ∙ ap (key_of w.1.school c.child) number)),
        in_problem,
      )
