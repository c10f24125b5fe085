-- The draw of a round is one of a register, and the next.
use Rattle.std.proofs.Common.{◌≡◌, ◌∙◌, ap, sym, subst, refl, cond, Bool, true, false, ℕ, suc, ◌+◌, List, [], ◌∷◌, map, length, Option, Some, None, arith, inl}
use Rattle.std.specs.Prelude.{IfSome, is_some, not, ◌&&◌, ◌||◌, nat_eq, nat_le, nat_lt, filter, if◌then◌else◌}
use Rattle.std.specs.declared.cmp.Ordering.TheVariants.{Less}
use Rattle.std.specs.Ordering.{nat_cmp, eq_by_cmp, ordering_then}
use Rattle.std.specs.Cmp.{nat_cmp_total, unsigned_Decides}
use Rattle.std.specs.Cmp.Lexicographic.{nat_list_cmp_total}
use Rattle.std.specs.List.{list_all, zip}
use Rattle.std.specs.List.Sorted.{IsStrictlySortedBy}
use Rattle.std.specs.FinMap.{get, insert, values, contains_key, get-insert, nat_cmp-IsAntisymmetric}
use Rattle.std.proofs.lemmas.Bool.{lt-ltb, and_parts}
use Rattle.std.proofs.lemmas.Cmp.{tied_itself}
use Rattle.adm_lists.proofs.Orders.{tied}
use Rattle.adm_lists.proofs.Members.{In, all_in, in_all, list_all_in, passes_in, in_map, from_map, from_filter, from_flat_map, from_zip}
use Rattle.adm_lists.proofs.Rising.{sorted_append}
use Rattle.adm_lists.proofs.Maps.{contains_key-insert}
use Rattle.adm_types.specs.Lots.{repeats_lot}
use Rattle.adm_types.specs.Limits.{is_listed, first_day, last_day, most_draws, most_lots}
use Rattle.adm_types.specs.Seasons.{lists_end}
use Rattle.adm_types.specs.declared.draws.Draw.{Draw}
use Rattle.adm_types.specs.declared.draws.Outcome.{Outcome}
use Rattle.adm_types.specs.declared.draws.Lot.{Lot}
use Rattle.adm_draws.specs.Draws.{rises, outcome_cmp, lot_cmp, is_draw, fresh_has_school}
use Rattle.adm_match.specs.Market.{Code}
use Rattle.adm_round.specs.declared.applicants.Applicant.{Applicant}
use Rattle.adm_round.specs.declared.applicants.Site.{Site}
use Rattle.adm_round.specs.declared.applicants.Pair.{Pair}
use Rattle.adm_round.specs.Round.{code_of_site, number_of, listed, wants, pair_at, pairs_at, pairs, pair_of, lot_of_draw}
use Rattle.adm_types.specs.Limits.{code_cmp}
use Rattle.adm_round.specs.Lookups.{pair_cmp}
use Rattle.adm_round.specs.Outcomes.{is_fresh, HasListedSchool}
use Rattle.adm_register.specs.State.{State}
use Rattle.adm_register.specs.Draws.{DrawFits, is_due, is_next, are_in_order, no_draws, count_draws, is_choice, is_known_outcome, is_known_lot, draws_so_far}
use Rattle.adm_commands.specs.KeptByTypes.{KeptByRound}
use Rattle.adm_commands.specs.Commands.Round.{round_applicants, sites, round_pairs, round_lots}
use Rattle.adm_register.specs.WellFormed.{WellFormed, has_first_round}
use Rattle.adm_register.proofs.DrawLemmas.{next_number}
use Rattle.adm_register.proofs.RoundLemmas.{rises_by}
use Rattle.adm_register.proofs.RoundKeys.{from_values}
use Rattle.adm_commands.proofs.RoundEntrants.{entrant_is, site_is, school_there}
use Rattle.adm_commands.proofs.RoundOffers.{IsRound, of_outcome, is_given, lists_given, children_rise}

-- ---- the pairs of a round rise

by_school : (one other : Pair) → code_cmp one.school other.school ≡ Less → pair_cmp one other ≡ Less
by_school one other less = ap (λ r. ordering_then r (nat_cmp one.child other.child)) less

by_child : (code : Code) (one other : Applicant) → nat_cmp (number_of one) (number_of other) ≡ Less → pair_cmp (pair_at code one) (pair_at code other) ≡ Less
by_child code one other less = ap (λ r. ordering_then r (nat_cmp (number_of one) (number_of other))) (tied_itself nat_list_cmp_total code) ∙ less

at_one_rise : (code : Code) (p : Applicant → Bool) (applicants : List Applicant) → IsStrictlySortedBy nat_cmp (map number_of applicants)
    → IsStrictlySortedBy pair_cmp (map (pair_at code) (filter p applicants))
unfolding IsStrictlySortedBy
at_one_rise code p [] sorted = tt
at_one_rise code p (x ∷ xs) sorted = by (p x) (at_one_rise code p xs sorted.1)
  where
    by : (b : Bool) → IsStrictlySortedBy pair_cmp (map (pair_at code) (filter p xs)) → IsStrictlySortedBy pair_cmp (map (pair_at code) (cond b (x ∷ filter p xs) (filter p xs)))
    by false rest = rest
    by true rest = (
      in_all (λ q. pair_cmp (pair_at code x) q ≡ Less) (map (pair_at code) (filter p xs)) (λ q at.
          let found = from_map (pair_at code) (filter p xs) q at in
          let behind = (from_filter p xs found.0 found.1).0 in
          ap (pair_cmp (pair_at code x)) (sym found.2)
          ∙ by_child code x found.0 (all_in (λ k. nat_cmp (number_of x) k ≡ Less) (map number_of xs) (number_of found.0) sorted.0 (in_map number_of xs found.0 behind))),
      rest,
    )

-- a pair is of a site's school and of an applicant
of_pair : (ss : List Site) (applicants : List Applicant) (pair : Pair) → In pair (pairs ss applicants)
    → (site : Site) × In site ss × (applicant : Applicant) × In applicant applicants × (pair ≡ pair_at (code_of_site site) applicant)
of_pair ss applicants pair at =
    let here = from_flat_map (pairs_at applicants) ss pair at in
    let found = from_map (pair_at (code_of_site here.0)) (filter (wants (code_of_site here.0)) applicants) pair here.2 in
    (here.0, here.1, found.0, (from_filter (wants (code_of_site here.0)) applicants found.0 found.1).0, sym found.2)

pairs_rise : (ss : List Site) (applicants : List Applicant) → IsStrictlySortedBy code_cmp (map code_of_site ss) → IsStrictlySortedBy nat_cmp (map number_of applicants)
    → IsStrictlySortedBy pair_cmp (pairs ss applicants)
unfolding IsStrictlySortedBy
pairs_rise [] applicants codes numbers = tt
pairs_rise (s ∷ ss) applicants codes numbers =
    sorted_append pair_cmp (pairs_at applicants s) (pairs ss applicants) (at_one_rise (code_of_site s) (wants (code_of_site s)) applicants numbers) (pairs_rise ss applicants codes.1 numbers)
    (λ x y first second.
    let one = from_map (pair_at (code_of_site s)) (filter (wants (code_of_site s)) applicants) x first in
    let other = of_pair ss applicants y second in
    let less = all_in (λ k. code_cmp (code_of_site s) k ≡ Less) (map code_of_site ss) (code_of_site other.0) codes.0 (in_map code_of_site ss other.0 other.1) in
    by_school x y ((λ i. code_cmp (sym one.2 i).school (other.4 i).school) ∙ less))

length_pairs : (lots : List Lot) (them : List Pair) → map pair_of lots ≡ them → length lots ≡ length them
length_pairs lots them are = count lots ∙ ap length are
  where
    count : (ls : List Lot) → length ls ≡ length (map pair_of ls)
    count [] = refl
    count (l ∷ ls) = ap (λ n. suc n) (count ls)

-- ---- the draw

-- the draw of a round
abbrev pub round_draw : State → ℕ → ℕ → List ℕ → List Outcome → Draw
round_draw old draw day numbers outcomes =
    record { number = draw; round = (draws_so_far old).rounds + 1; school = None; day = day; outcomes = outcomes; lots = round_lots old numbers }

-- after the draw there was a round
pub round_after : (old : State) (draw : Draw) → WellFormed old → draw.number ≡ (draws_so_far old).draws + 1 → has_first_round (insert old.draws draw.number draw) ≡ true
round_after old draw well number =
    elim (values old.draws) as (λ ds. values old.draws ≡ ds → has_first_round (insert old.draws draw.number draw) ≡ true) [
      | [] ↦ λ none.
          let first : draw.number ≡ 1 = number ∙ ap (λ ds. (count_draws no_draws ds).draws + 1) none in
          ap is_some (get-insert nat_cmp_total old.draws draw.number draw 1 ∙ ap (λ b. cond b (Some draw) (get old.draws 1)) (ap (eq_by_cmp nat_cmp 1) first ∙ tied nat_cmp_total 1))
      | d ∷ ds ↦ λ some.
          let in_order = ap (are_in_order old.season no_draws) (sym some) ∙ well.draws.in_order in
          let first : d.number ≡ 1 = next_number old.season no_draws d (and_parts (is_next old.season no_draws d) _ in_order).0 in
          let there = from_values nat_cmp_total nat_cmp-IsAntisymmetric old.draws (λ (x : Draw). x.number) (λ n x here. (well.draws.each n x here).own_number) d (subst (In d) (sym some) (inl refl)) in
          contains_key-insert nat_cmp_total old.draws draw.number draw 1 (ap (contains_key old.draws) (sym first) ∙ ap is_some there)
    ] refl

has_form : (own place : Option Code) → (is_some place || not (is_fresh own place)) ≡ true
has_form own None = refl
has_form own (Some code) = refl

module _ {old : State} {numbers : List ℕ} {outcomes : List Outcome} (facts : IsRound old numbers outcomes) (draw day : ℕ) (kept : KeptByRound day numbers) where
  abbrev lots : List Lot
  lots = round_lots old numbers

  abbrev it : Draw
  it = round_draw old draw day numbers outcomes

  lots_rise : rises lot_cmp lots ≡ true
  lots_rise = rises_by pair_cmp pair_of lots (subst (IsStrictlySortedBy pair_cmp) (sym facts.posed.lots_drawn)
      (pairs_rise (sites old) (round_applicants old) facts.posed.codes_rise facts.posed.numbers_rise))

  outcomes_rise : rises outcome_cmp outcomes ≡ true
  outcomes_rise = rises_by nat_cmp (λ (o : Outcome). o.child) outcomes (children_rise facts)

  all_fresh : list_all fresh_has_school outcomes ≡ true
  all_fresh = list_all_in fresh_has_school outcomes (λ o at.
      let who = of_outcome facts o at in
      ap fresh_has_school (sym who.2) ∙ has_form who.0.own (facts.best.allocation (number_of who.0)))

  form : not (repeats_lot lots) ≡ true → is_draw it ≡ true
  form apart =
      let not_fill : not (nat_eq ((draws_so_far old).rounds + 1) 0) ≡ true = numbered ((draws_so_far old).rounds) in
      λ i. (outcomes_rise i && lots_rise i) && apart i && all_fresh i && not_fill i
    where
      numbered : (n : ℕ) → not (nat_eq (n + 1) 0) ≡ true
      numbered n = elim (nat_eq (n + 1) 0) as (λ b. nat_eq (n + 1) 0 ≡ b → not b ≡ true) [
        | true ↦ λ e. let zero_is = (unsigned_Decides (n + 1) 0).0 e in absurd (omega (arith, zero_is))
        | false ↦ λ e. refl
      ] refl

  known_outcomes : list_all (is_known_outcome old.schools old.children) outcomes ≡ true
  known_outcomes = list_all_in (is_known_outcome old.schools old.children) outcomes (λ o at.
      let who = of_outcome facts o at in
      let child = (entrant_is old facts.well who.0 who.1).child in
      let school = choice who.0 who.1 (facts.best.allocation (number_of who.0)) (is_given facts HasListedSchool (lists_given facts) who.0 who.1) in
      ap (is_known_outcome old.schools old.children) (sym who.2) ∙ (λ i. child i && school i))
    where
      choice : (applicant : Applicant) → In applicant (round_applicants old) → (place : Option Code) → IfSome place (λ s. is_listed (listed applicant) s ≡ true) → is_choice old.schools place ≡ true
      choice applicant at None lists = refl
      choice applicant at (Some code) lists = school_there old facts.well lots facts.posed applicant code at lists

  known_lots : list_all (is_known_lot old.schools old.children) lots ≡ true
  known_lots = list_all_in (is_known_lot old.schools old.children) lots (λ lot at.
      let drawn = from_map lot_of_draw (zip (round_pairs old) numbers) lot at in
      let both = from_zip (round_pairs old) numbers drawn.0 drawn.1 in
      let of = of_pair (sites old) (round_applicants old) drawn.0.0 both.0 in
      let school : contains_key old.schools drawn.0.0.school ≡ true = ap (λ (p : Pair). contains_key old.schools p.school) of.4 ∙ ap is_some (site_is old facts.well of.0 of.1).0 in
      let child : contains_key old.children drawn.0.0.child ≡ true = ap (λ (p : Pair). contains_key old.children p.child) of.4 ∙ (entrant_is old facts.well of.2 of.3).child in
      let number = passes_in (λ n. nat_lt n 4294967296) numbers drawn.0.1 kept.lots both.1 in
      ap (is_known_lot old.schools old.children) (sym drawn.2) ∙ (λ i. school i && child i && number i))

  -- the draw fits
  pub draw_fits : not (repeats_lot lots) ≡ true → DrawFits old.schools old.children draw it
  draw_fits apart = record {
    own_number = refl;
    form = form apart;
    day = (and_parts (nat_le first_day day) (nat_le day last_day) kept.is_day).0;
    school = refl;
    outcomes = known_outcomes;
    lots = known_lots;
  }

  -- and is the next
  pub draw_next : draw ≡ (draws_so_far old).draws + 1 → nat_le day (lists_end old.season) ≡ true → is_due old.season (draws_so_far old).day day ≡ true → length numbers ≡ length (round_pairs old)
      → (nat_lt (draws_so_far old).draws most_draws && nat_le ((draws_so_far old).lots + length numbers) (most_lots old.season.size)) ≡ true → is_next old.season (draws_so_far old) it ≡ true
  draw_next number in_time due count room =
      let so_far = draws_so_far old in
      let both = and_parts (nat_lt so_far.draws most_draws) (nat_le (so_far.lots + length numbers) (most_lots old.season.size)) room in
      let next : nat_eq draw (so_far.draws + 1) ≡ true = (unsigned_Decides draw (so_far.draws + 1)).1 number in
      let round : nat_lt 0 (so_far.rounds + 1) ≡ true = lt-ltb 0 (so_far.rounds + 1) (omega arith) in
      let round_next : nat_eq (so_far.rounds + 1) (so_far.rounds + 1) ≡ true = (unsigned_Decides (so_far.rounds + 1) (so_far.rounds + 1)).1 refl in
      let many : length numbers ≡ length lots = count ∙ sym (length_pairs lots (round_pairs old) facts.posed.lots_drawn) in
      let numbered : (nat_eq draw (so_far.draws + 1) && (if nat_lt 0 (so_far.rounds + 1) then nat_eq (so_far.rounds + 1) (so_far.rounds + 1) else nat_lt 0 so_far.rounds)) ≡ true =
      (λ i. next i && (if round i then round_next i else nat_lt 0 so_far.rounds)) in
      let few : nat_le (so_far.lots + length lots) (most_lots old.season.size) ≡ true = ap (λ n. nat_le (so_far.lots + n) (most_lots old.season.size)) (sym many) ∙ both.1 in
      λ i. numbered i && both.0 i && due i && in_time i && few i
