-- The draws of a register, their outcomes and their lots are such as are read.
use Rattle.std.proofs.Common.{◌≡◌, ℕ, ◌+◌, ◌≤◌, Bool, true, false, List, [], ◌∷◌, map, Option, Some, None, refl, sym, subst, arith}
use Rattle.std.specs.Prelude.{◌&&◌, nat_eq, nat_le, nat_lt, if◌then◌else◌}
use Rattle.std.specs.List.{AllByRecursion, list_all, flat_map}
use Rattle.std.specs.Cmp.{nat_cmp_total}
use Rattle.std.specs.FinMap.{values, contains_key, nat_cmp-IsAntisymmetric}
use Rattle.std.proofs.lemmas.Bool.{and_parts}
use Rattle.std.proofs.lemmas.Bool.Decides.{nat_tests}
use Rattle.sqlite_trees.proofs.ListLemmas.{all-flat_map}
use Rattle.adm_lists.proofs.Each.{each_weaker, each_both}
use Rattle.adm_types.specs.Limits.{most_draws}
use Rattle.adm_types.specs.Seasons.{SeasonFacts, lists_end}
use Rattle.adm_types.specs.declared.draws.Draw.{Draw}
use Rattle.adm_types.specs.declared.draws.Outcome.{Outcome}
use Rattle.adm_types.specs.declared.draws.Lot.{Lot}
use Rattle.adm_draws.specs.Draws.{row_of, offer_rows_of, lot_rows_of, offer_row_of, lot_row_of}
use Rattle.adm_register.specs.State.{State as Register}
use Rattle.adm_register.specs.Draws.{DrawFits, no_draws, count_draw, is_round, is_due, is_numbered, is_next, are_in_order, is_choice, is_known_outcome, is_known_lot}
use Rattle.adm_register.specs.WellFormed.{WellFormed}
use Rattle.adm_register.specs.declared.draws_so_far.DrawsSoFar.{DrawsSoFar}
use Rattle.adm_rows.specs.DrawForms.{IsDrawRow, IsOfferRow, IsLotRow, is_number}
use Rattle.adm_types.specs.Limits.{is_code_or_none}
use Rattle.adm_rows.proofs.KnownRows.{code_there, number_there}
use Rattle.adm_rows.proofs.MapRows.{each_value}

-- ---- numbers and days

-- no draw has a greater number than there may be draws, nor a round of a greater number, and none is after the last day of the lists
record IsInTurn (season : SeasonFacts) (d : Draw) : Type 0 where
  pub number : d.number ≤ most_draws
  pub round : d.round ≤ most_draws
  pub day : nat_le d.day (lists_end season) ≡ true

round_low : (before : DrawsSoFar) (d : Draw) → before.rounds ≤ before.draws → nat_lt before.draws most_draws ≡ true → is_numbered before d ≡ true
    → (d.round ≤ most_draws) × ((count_draw before d).rounds ≤ (count_draw before d).draws)
round_low before d few low is = go (is_round d) refl (and_parts (nat_eq d.number (before.draws + 1)) _ is).1
  where
    go : (b : Bool) → is_round d ≡ b → (if b then nat_eq d.round (before.rounds + 1) else nat_lt 0 before.rounds) ≡ true
        → (d.round ≤ most_draws) × ((if b then before.rounds + 1 else before.rounds) ≤ before.draws + 1)
    go true round numbered = (grind (arith, nat_tests), omega (arith, few))
    go false round numbered = (grind (arith, nat_tests), omega (arith, few))

each_in_turn : (season : SeasonFacts) (before : DrawsSoFar) (ds : List Draw) → before.rounds ≤ before.draws → are_in_order season before ds ≡ true → AllByRecursion (IsInTurn season) ds
each_in_turn season before [] few order = tt
each_in_turn season before (d ∷ ds) few order =
    let parts = and_parts (is_next season before d) _ order in
    let lots = and_parts (is_numbered before d && nat_lt before.draws most_draws && is_due season before.day d.day && nat_le d.day (lists_end season)) _ parts.0 in
    let day = and_parts (is_numbered before d && nat_lt before.draws most_draws && is_due season before.day d.day) _ lots.0 in
    let due = and_parts (is_numbered before d && nat_lt before.draws most_draws) _ day.0 in
    let low = and_parts (is_numbered before d) _ due.0 in
    let number = (and_parts (nat_eq d.number (before.draws + 1)) _ low.0).0 in
    let rounds = round_low before d few low.1 low.0 in
    (record { number = grind (arith, nat_tests); round = rounds.0; day = day.1 }, each_in_turn season (count_draw before d) ds rounds.1 parts.1)

low_number : (n : ℕ) → n ≤ most_draws → is_number n ≡ true
low_number n low = grind (arith, nat_tests)

-- ---- the draws of a register, and their rows

module _ (r : Register) (formed : WellFormed r) where
  choice_form : (school : Option (List ℕ)) → is_choice r.schools school ≡ true → is_code_or_none school ≡ true
  choice_form None there = refl
  choice_form (Some code) there = code_there r.schools formed.base.schools_fit code there

  outcomes_fit : (n : ℕ) → is_number n ≡ true → (outcomes : List Outcome) → list_all (is_known_outcome r.schools r.children) outcomes ≡ true → AllByRecursion IsOfferRow (map (offer_row_of n) outcomes)
  outcomes_fit n form [] known = tt
  outcomes_fit n form (o ∷ os) known =
      let parts = and_parts (is_known_outcome r.schools r.children o) _ known in
      let own = and_parts (contains_key r.children o.child) _ parts.0 in
      (record { draw_form = form; child_form = number_there r formed o.child own.0; school_form = choice_form o.school own.1 }, outcomes_fit n form os parts.1)

  drawn_fit : (n : ℕ) → is_number n ≡ true → (lots : List Lot) → list_all (is_known_lot r.schools r.children) lots ≡ true → AllByRecursion IsLotRow (map (lot_row_of n) lots)
  drawn_fit n form [] known = tt
  drawn_fit n form (l ∷ ls) known =
      let parts = and_parts (is_known_lot r.schools r.children l) _ known in
      let low = and_parts (contains_key r.schools l.school && contains_key r.children l.child) _ parts.0 in
      let own = and_parts (contains_key r.schools l.school) _ low.0 in (
        record {
          draw_form = form;
          school_form = code_there r.schools formed.base.schools_fit l.school own.0;
          child_form = number_there r formed l.child own.1;
          lot_form = low.1;
        },
        drawn_fit n form ls parts.1,
      )

  -- what a draw keeps by itself, and in its turn
  abbrev FitsInTurn : Draw → Type 0
  FitsInTurn d = ((number : ℕ) × DrawFits r.schools r.children number d) × IsInTurn r.season d

  each_draw : AllByRecursion FitsInTurn (values r.draws)
  each_draw = each_both _ _ (values r.draws)
      (each_value nat_cmp_total nat_cmp-IsAntisymmetric (λ d. (number : ℕ) × DrawFits r.schools r.children number d) r.draws (λ number d is. (number, formed.draws.each number d is)))
      (each_in_turn r.season no_draws (values r.draws) (omega arith) formed.draws.in_order)

  head_fits : (last : ℕ) → last ≡ lists_end r.season → (d : Draw) → FitsInTurn d → IsDrawRow last (row_of d)
  head_fits last same d it = record {
    draw_form = low_number d.number it.1.number;
    round_form = low_number d.round it.1.round;
    school_form = choice_form d.school it.0.1.school;
    day = λ k. it.0.1.day k && subst (λ (l : ℕ). nat_le d.day l ≡ true) (sym same) it.1.day k;
  }

  pub offers_fit : AllByRecursion IsOfferRow (flat_map offer_rows_of (values r.draws))
  offers_fit = all-flat_map IsOfferRow offer_rows_of (values r.draws)
      (each_weaker FitsInTurn _ (λ d it. outcomes_fit d.number (low_number d.number it.1.number) d.outcomes it.0.1.outcomes) (values r.draws) each_draw)

  pub lots_fit : AllByRecursion IsLotRow (flat_map lot_rows_of (values r.draws))
  lots_fit = all-flat_map IsLotRow lot_rows_of (values r.draws)
      (each_weaker FitsInTurn _ (λ d it. drawn_fit d.number (low_number d.number it.1.number) d.lots it.0.1.lots) (values r.draws) each_draw)

pub draws_fit : (r : Register) (last : ℕ) → WellFormed r → last ≡ lists_end r.season → AllByRecursion (IsDrawRow last) (map row_of (values r.draws))
draws_fit r last formed same = all_mapped (values r.draws) (each_weaker (FitsInTurn r formed) _ (head_fits r formed last same) (values r.draws) (each_draw r formed))
  where
    all_mapped : (ds : List Draw) → AllByRecursion (λ d. IsDrawRow last (row_of d)) ds → AllByRecursion (IsDrawRow last) (map row_of ds)
    all_mapped [] all = tt
    all_mapped (d ∷ ds) all = (all.0, all_mapped ds all.1)
