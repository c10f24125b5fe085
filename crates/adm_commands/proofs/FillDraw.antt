-- The draw of a fill is one of a register, and the next.
use Rattle.std.proofs.Common.{◌≡◌, ◌∙◌, ap, sym, subst, refl, Bool, true, false, ℕ, ◌+◌, ◌≤◌, ◌<◌, List, [], ◌∷◌, map, length, suc, Some, None, arith, inl}
use Rattle.std.specs.Prelude.{is_some, ◌&&◌, nat_eq, nat_le, nat_lt, if◌then◌else◌}
use Rattle.std.specs.declared.cmp.Ordering.TheVariants.{Less}
use Rattle.std.specs.Ordering.{nat_cmp, ordering_then}
use Rattle.std.specs.Cmp.{nat_cmp_total, unsigned_Decides}
use Rattle.std.specs.Cmp.Lexicographic.{nat_list_cmp_total, pointwise, bytes_decides}
use Rattle.std.specs.List.{list_all, zip}
use Rattle.std.specs.List.Sorted.{IsStrictlySortedBy}
use Rattle.std.specs.FinMap.{get, values, contains_key, nat_cmp-IsAntisymmetric}
use Rattle.std.proofs.lemmas.Bool.{false≢true, le-leb, leb-true, lt-ltb, and_parts}
use Rattle.std.proofs.lemmas.Cmp.{tied_itself}
use Rattle.adm_lists.proofs.Members.{In, all_in, in_all, in_map, list_all_in, passes_in, from_map, from_zip, from_filter_map}
use Rattle.adm_lists.proofs.Maps.{in_values}
use Rattle.adm_types.specs.Limits.{first_day, last_day, most_draws, most_lots}
use Rattle.adm_types.specs.Seasons.{SeasonFacts}
use Rattle.adm_types.specs.declared.rows.Child.{Child}
use Rattle.adm_types.specs.declared.draws.Draw.{Draw}
use Rattle.adm_types.specs.declared.draws.Lot.{Lot}
use Rattle.adm_draws.specs.Draws.{rises, lot_cmp, is_draw}
use Rattle.adm_match.specs.Market.{Code}
use Rattle.adm_round.specs.declared.applicants.Pair.{Pair}
use Rattle.adm_round.specs.Round.{pair_of, lot_of_draw}
use Rattle.adm_round.specs.Lookups.{pair_cmp}
use Rattle.adm_register.specs.declared.draws_so_far.DrawsSoFar.{DrawsSoFar}
use Rattle.adm_register.specs.State.{State}
use Rattle.adm_register.specs.Draws.{DrawFits, no_draws, count_draw, count_draws, is_round, is_next, are_in_order, is_known_lot, draws_so_far}
use Rattle.adm_commands.specs.KeptByTypes.{KeptByRound}
use Rattle.adm_types.specs.declared.commands.Refusal.TheVariants as refusal
use Rattle.adm_commands.proofs.Passed.{passed}
use Rattle.adm_commands.specs.Tests.{first_failing}
use Rattle.adm_register.specs.WellFormed.{WellFormed, has_first_round}
use Rattle.adm_register.specs.Waits.{waits, waiting_child, waiting_at}
use Rattle.adm_commands.specs.Commands.Fill as fill
use Rattle.adm_commands.specs.Commands.Fill.{fill_pairs, fill_lots, filled_draw}
use Rattle.adm_commands.proofs.Posed.{pairs_again}
use Rattle.adm_commands.proofs.RoundNext.{lots-few}
use Rattle.adm_register.proofs.RoundLemmas.{rises_by}
use Rattle.adm_register.proofs.WaitLemmas.{chosen, waiter_is, waiters_rise}

-- ---- there was a round

more_rounds : (before : DrawsSoFar) (draws : List Draw) → before.rounds ≤ (count_draws before draws).rounds
more_rounds before [] = omega arith
more_rounds before (draw ∷ draws) =
    let rest = more_rounds (count_draw before draw) draws in
    let one = one_more (is_round draw) before.rounds in
    omega (arith, rest, one)
  where
    one_more : (b : Bool) (rounds : ℕ) → rounds ≤ (if b then rounds + 1 else rounds)
    one_more true rounds = omega arith
    one_more false rounds = omega arith

-- the first draw is a round's
first_round : (season : SeasonFacts) (draw : Draw) → is_next season no_draws draw ≡ true → (count_draw no_draws draw).rounds ≡ 1
first_round season draw next =
    let a = and_parts _ _ next in
    let b = and_parts _ _ a.0 in
    let c = and_parts _ _ b.0 in
    let d = and_parts _ _ c.0 in
    let e = and_parts _ _ d.0 in
    by (is_round draw) (nat_eq draw.round (no_draws.rounds + 1)) e.1
  where
    by : (round first : Bool) → (if round then first else nat_lt 0 0) ≡ true → (if round then 0 + 1 else 0) ≡ 1
    by true first is = refl
    by false first is = absurd (false≢true is)

some_round : (s : State) → are_in_order s.season no_draws (values s.draws) ≡ true → has_first_round s.draws ≡ true → 0 < (draws_so_far s).rounds
some_round s ordered held =
    elim (get s.draws 1) as (λ o. get s.draws 1 ≡ o → is_some o ≡ true → 0 < (draws_so_far s).rounds) [
      | None ↦ λ there some. absurd (false≢true some)
      | Some draw ↦ λ there some. by draw (values s.draws) (in_values nat_cmp_total nat_cmp-IsAntisymmetric s.draws 1 draw there) ordered
    ] refl held
  where
    by : (draw : Draw) (draws : List Draw) → In draw draws → are_in_order s.season no_draws draws ≡ true → 0 < (count_draws no_draws draws).rounds
    by draw [] at ordered = absurd at
    by draw (first ∷ draws) at ordered =
        let one = first_round s.season first (and_parts (is_next s.season no_draws first) _ ordered).0 in
        let more = more_rounds (count_draw no_draws first) draws in
        omega (arith, one, more)

-- ---- the lots of a fill rise

pair_for : Code → Child → Pair
pair_for code child = record { school = code; child = child.no }

by_child : (code : Code) (one other : Child) → nat_cmp one.no other.no ≡ Less → pair_cmp (pair_for code one) (pair_for code other) ≡ Less
unfolding pair_for
by_child code one other less = ap (λ r. ordering_then r (nat_cmp one.no other.no)) (tied_itself nat_list_cmp_total code) ∙ less

pairs_rise : (code : Code) (children : List Child) → IsStrictlySortedBy nat_cmp (map (λ (c : Child). c.no) children) → IsStrictlySortedBy pair_cmp (map (pair_for code) children)
unfolding IsStrictlySortedBy
pairs_rise code [] sorted = tt
pairs_rise code (child ∷ children) sorted = (
  in_all (λ q. pair_cmp (pair_for code child) q ≡ Less) (map (pair_for code) children) (λ q at.
      let found = from_map (pair_for code) children q at in
      let less = all_in (λ k. nat_cmp child.no k ≡ Less) (map (λ (c : Child). c.no) children) found.0.no sorted.0 (in_map (λ (c : Child). c.no) children found.0 found.1) in
      ap (pair_cmp (pair_for code child)) (sym found.2) ∙ by_child code child found.0 less),
  pairs_rise code children sorted.1,
)

length-map : {X Y : Type 0} (f : X → Y) (xs : List X) → length (map f xs) ≡ length xs
length-map f [] = refl
length-map f (x ∷ xs) = ap suc (length-map f xs)

-- ---- the draw

module _ (old : State) (draw : ℕ) (school : List ℕ) (day : ℕ) (numbers : List ℕ) (passes : first_failing (fill.tests old draw school day numbers) ≡ None) where
  -- someone waits, so there was a round
  pub was_round : has_first_round old.draws ≡ true
  unfolding fill.tests
  was_round =
      let pass = passed (fill.tests old draw school day numbers) passes in
      by (waiting_at old school) (pass refusal.EmptyList) refl
    where
      by : (children : List Child) → nat_lt 0 (length children) ≡ true → waiting_at old school ≡ children → has_first_round old.draws ≡ true
      by [] some are = absurd (false≢true some)
      by (child ∷ children) some are =
          let found = from_filter_map (waiting_child old school) (values old.applications) child (subst (In child) (sym are) (inl refl)) in
          (and_parts (has_first_round old.draws) _ (chosen (waits old found.0 school) (get old.children found.0.child) child found.2).0).0

  -- it is the next
  pub fill-next : (child : ℕ) → are_in_order old.season no_draws (values old.draws) ≡ true → are_in_order old.season (draws_so_far old) (filled_draw old draw school day numbers child ∷ []) ≡ true
  unfolding fill.tests
  fill-next child ordered =
      let so_far = draws_so_far old in
      let pass = passed (fill.tests old draw school day numbers) passes in
      let room = and_parts (nat_lt so_far.draws most_draws) _ (pass refusal.RegisterFull) in
      let few = lots-few (fill_pairs old school) numbers in
      let most = leb-true _ _ room.1 in
      let fits : nat_le (so_far.lots + length (fill_lots old school numbers)) (most_lots old.season.size) ≡ true = le-leb _ _ (omega (arith, few, most)) in
      let held : nat_lt 0 so_far.rounds ≡ true = lt-ltb 0 so_far.rounds (some_round old ordered was_round) in
      λ i. (pass refusal.WrongDraw) i && held i && room.0 i && (pass refusal.TooSoon) i && (pass refusal.ListClosed) i && fits i && true

  module _ (well : WellFormed old) (kept : KeptByRound day numbers) (child : ℕ) (there : contains_key old.children child ≡ true) where
    abbrev lots : List Lot
    lots = fill_lots old school numbers

    lots_rise : rises lot_cmp lots ≡ true
    unfolding fill.tests pair_for
    lots_rise =
        let pass = passed (fill.tests old draw school day numbers) passes in
        let waiting = waiting_at old school in
        let count : length numbers ≡ length (fill_pairs old school) = (unsigned_Decides (length numbers) (length waiting)).0 (pass refusal.LotCount) ∙ sym (length-map (pair_for school) waiting) in
        rises_by pair_cmp pair_of lots (subst (IsStrictlySortedBy pair_cmp) (sym (pairs_again (fill_pairs old school) numbers count)) (pairs_rise school waiting (waiters_rise old well school)))

    form : is_draw (filled_draw old draw school day numbers child) ≡ true
    unfolding fill.tests
    form =
        let pass = passed (fill.tests old draw school day numbers) passes in
        let same : pointwise nat_eq school school ≡ true = (bytes_decides school school).1 refl in
        λ i. (true && lots_rise i) && (pass refusal.LotsRepeated) i && true && (true && same i)

    known_lots : (here : contains_key old.schools school ≡ true) → list_all (is_known_lot old.schools old.children) lots ≡ true
    known_lots here = list_all_in (is_known_lot old.schools old.children) lots (λ lot at.
        let drawn = from_map lot_of_draw (zip (fill_pairs old school) numbers) lot at in
        let both = from_zip (fill_pairs old school) numbers drawn.0 drawn.1 in
        let of = from_map (λ (c : Child). record { school = school; child = c.no }) (waiting_at old school) drawn.0.0 both.0 in
        let known : contains_key old.children drawn.0.0.child ≡ true = ap (λ (p : Pair). contains_key old.children p.child) (sym of.2) ∙ ap is_some (waiter_is old well school of.0 of.1).there in
        let at_school : contains_key old.schools drawn.0.0.school ≡ true = ap (λ (p : Pair). contains_key old.schools p.school) (sym of.2) ∙ here in
        let number = passes_in (λ n. nat_lt n 4294967296) numbers drawn.0.1 kept.lots both.1 in
        ap (is_known_lot old.schools old.children) (sym drawn.2) ∙ (λ i. at_school i && known i && number i))

    -- and fits
    pub filled_fits : DrawFits old.schools old.children draw (filled_draw old draw school day numbers child)
    unfolding fill.tests
    filled_fits =
        let pass = passed (fill.tests old draw school day numbers) passes in
        record {
          own_number = refl;
          form = form;
          day = (and_parts (nat_le first_day day) (nat_le day last_day) kept.is_day).0;
          school = (pass refusal.UnknownSchool);
          outcomes = λ i. there i && (pass refusal.UnknownSchool) i && true;
          lots = known_lots (pass refusal.UnknownSchool);
        }
