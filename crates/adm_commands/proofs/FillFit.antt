-- What a fill changes fits the register, and its draw is not repeated.
use Rattle.std.proofs.Common.{◌≡◌, ◌∙◌, ap, sym, subst, refl, cond, Bool, true, false, ℕ, ◌+◌, ◌<◌, map, length, List, [], ◌∷◌, Option, Some, None, arith, inl, inr}
use Rattle.std.specs.Prelude.{is_some, not, ◌&&◌, ◌||◌, nat_eq, find, option_map}
use Rattle.std.specs.Cmp.{nat_cmp_total, unsigned_Decides}
use Rattle.std.specs.Cmp.Lexicographic.{pointwise, bytes_decides}
use Rattle.std.specs.List.{zip, list_any}
use Rattle.std.specs.FinMap.{get, insert, values, contains_key}
use Rattle.std.proofs.lemmas.Bool.{ltb-true, not-true}
use Rattle.std.proofs.lemmas.Option.{same_Some, none-some}
use Rattle.adm_lists.proofs.Members.{In, from_zip}
use Rattle.adm_lists.proofs.Maps.{contains_key-insert}
use Rattle.adm_types.specs.Lots.{repeats_lot, is_same_lot}
use Rattle.adm_types.specs.declared.rows.School.{School}
use Rattle.adm_types.specs.declared.rows.Child.{Child}
use Rattle.adm_types.specs.declared.rows.PlaceRow.{PlaceRow}
use Rattle.adm_types.specs.declared.rows.PlaceState.TheVariants.{Offered}
use Rattle.adm_types.specs.declared.draws.Draw.{Draw}
use Rattle.adm_round.specs.Round.{lots_of}
use Rattle.adm_waiting.specs.Waiting.{first_by_lot, is_first, repeats}
use Rattle.adm_register.specs.declared.draws_so_far.DrawsSoFar.{DrawsSoFar}
use Rattle.adm_register.specs.State.{State}
use Rattle.adm_register.specs.Change.{after}
use Rattle.adm_commands.specs.KeptByTypes.{KeptByRound}
use Rattle.adm_types.specs.declared.commands.Refusal.TheVariants as refusal
use Rattle.adm_commands.proofs.Passed.{passed}
use Rattle.adm_register.specs.Draws.{no_draws, count_draws}
use Rattle.adm_commands.specs.Tests.{first_failing}
use Rattle.adm_register.specs.WellFormed.{WellFormed, has_first_round, lists_school}
use Rattle.adm_register.specs.Wanted.{has_left}
use Rattle.adm_register.specs.Waits.{waiting_at}
use Rattle.adm_commands.specs.Commands.Fill as fill
use Rattle.adm_commands.specs.Commands.Fill.{filled_draw}
use Rattle.adm_register.specs.Fits.{Fit}
use Rattle.adm_register.proofs.Tidy.{tidy_none, tidy_put}
use Rattle.adm_register.proofs.DrawLemmas.{values_put, with_draws-append}
use Rattle.adm_register.proofs.WaitLemmas.{waits_is, waiter_is}
use Rattle.adm_commands.proofs.FillRoom.{room_filled}
use Rattle.adm_commands.proofs.FillDraw.{was_round, fill-next, filled_fits}

find_in : {X : Type 0} (p : X → Bool) (xs : List X) (x : X) → find p xs ≡ Some x → In x xs
find_in p [] x is = absurd (none-some x is)
find_in p (y ∷ ys) x is = by (p y) (find_in p ys x) is
  where
    by : (b : Bool) → (find p ys ≡ Some x → In x ys) → cond b (Some y) (find p ys) ≡ Some x → In x (y ∷ ys)
    by true later is = inl (same_Some y x is)
    by false later is = inr (later is)

-- who comes first is one of those that wait
pub first_in : (school : School) (children : List Child) (lots : List ℕ) (number : ℕ) → first_by_lot school children lots ≡ Some number → (child : Child) × In child children × (child.no ≡ number)
unfolding first_by_lot
first_in school children lots number is = by (find (is_first school (zip children lots)) (zip children lots)) refl is
  where
    by : (o : Option (Child × ℕ)) → find (is_first school (zip children lots)) (zip children lots) ≡ o → option_map (λ (one : Child × ℕ). one.0.no) o ≡ Some number
        → (child : Child) × In child children × (child.no ≡ number)
    by None found is = absurd (none-some number is)
    by (Some one) found is = (one.0, (from_zip children lots one (find_in (is_first school (zip children lots)) (zip children lots) one found)).0, same_Some one.0.no number is)

-- ---- the child is found

any_same : (code : List ℕ) (child number : ℕ) (children : List Child) (numbers : List ℕ) → length numbers ≡ length children
    → list_any (is_same_lot (record { school = code; child = child; lot = number }))
    (lots_of (map (λ (c : Child). record { school = code; child = c.no }) children) numbers) ≡ list_any (nat_eq number) numbers
any_same code child number [] [] many = refl
any_same code child number [] (n ∷ numbers) many = absurd (omega (arith, many))
any_same code child number (c ∷ children) [] many = absurd (omega (arith, many))
any_same code child number (c ∷ children) (n ∷ numbers) many =
    let same : pointwise nat_eq code code ≡ true = (bytes_decides code code).1 refl in
    λ i. (same i && nat_eq number n) || any_same code child number children numbers (omega (arith, many)) i

-- the lots repeat where the numbers do
same_repeats : (code : List ℕ) (children : List Child) (numbers : List ℕ) → length numbers ≡ length children
    → repeats_lot (lots_of (map (λ (c : Child). record { school = code; child = c.no }) children) numbers) ≡ repeats numbers
same_repeats code [] [] many = refl
same_repeats code [] (n ∷ numbers) many = absurd (omega (arith, many))
same_repeats code (c ∷ children) [] many = absurd (omega (arith, many))
same_repeats code (c ∷ children) (n ∷ numbers) many =
    let fewer : length numbers ≡ length children = omega (arith, many) in
    λ i. any_same code c.no n children numbers fewer i || same_repeats code children numbers fewer i

-- where the tests pass the school is there
pub school_there : (old : State) (draw : ℕ) (school : List ℕ) (day : ℕ) (numbers : List ℕ) → first_failing (fill.tests old draw school day numbers) ≡ None → contains_key old.schools school ≡ true
unfolding fill.tests
school_there old draw school day numbers passes = (passed (fill.tests old draw school day numbers) passes refusal.UnknownSchool)

-- someone waits, and each has a lot of its own
pub each_has_lot : (old : State) (draw : ℕ) (school : List ℕ) (day : ℕ) (numbers : List ℕ) → first_failing (fill.tests old draw school day numbers) ≡ None
    → (children : List Child) (lots : List ℕ) → children ≡ waiting_at old school → lots ≡ numbers → (0 < length children) × (length lots ≡ length children) × (repeats lots ≡ false)
unfolding fill.tests
each_has_lot old draw school day numbers passes children lots are drawn =
    let pass = passed (fill.tests old draw school day numbers) passes in
    let some = ltb-true 0 (length (waiting_at old school)) (pass refusal.EmptyList) in
    let many = (unsigned_Decides (length numbers) (length (waiting_at old school))).0 (pass refusal.LotCount) in
    let apart = sym (same_repeats school (waiting_at old school) numbers many) ∙ not-true _ (pass refusal.LotsRepeated) in
    (subst (λ xs. 0 < length xs) (sym are) some, ap length drawn ∙ many ∙ ap length (sym are), ap repeats drawn ∙ apart)

-- ---- the change fits

pub fill-fit : (old : State) (draw : ℕ) (school : List ℕ) (day : ℕ) (numbers : List ℕ) (row : School) (child : ℕ) → WellFormed old → KeptByRound day numbers
    → first_failing (fill.tests old draw school day numbers) ≡ None → first_by_lot row (waiting_at old school) numbers ≡ Some child → Fit old (fill.change_of old draw school day numbers child)
unfolding fill.tests fill.change_of
fill-fit old draw school day numbers row child well kept passes first =
    let pass = passed (fill.tests old draw school day numbers) passes in
    let found = first_in row (waiting_at old school) numbers child first in
    let waiter = waiter_is old well school found.0 found.1 in
    let waiting = waits_is old well waiter.application school waiter.waiting in
    let number : waiter.application.child ≡ child = waiter.numbered ∙ found.2 in
    let known : contains_key old.children child ≡ true = ap (contains_key old.children) (sym found.2) ∙ ap is_some waiter.there in
    let applied : get old.applications child ≡ Some waiter.application = ap (get old.applications) (sym found.2) ∙ waiter.applied in
    let it : Draw = filled_draw old draw school day numbers child in
    let place : PlaceRow = record { child = child; place = record { school = school; state = Offered day None } } in
    let held : has_first_round (insert old.draws draw it) ≡ true = contains_key-insert nat_cmp_total old.draws draw it 1 (was_round old draw school day numbers passes) in
    let next = fill-next old draw school day numbers passes child well.draws.in_order in
    record {
      base = record { schools = tt; kept_schools = tt; few_schools = tt; children = tt; few_children = tt; applications = tt };
      places = record {
        places = (
          record {
            own_number = refl;
            child = known;
            school = (pass refusal.UnknownSchool);
            state = kept.is_day;
            entitled = (λ i. held i && lists_school (applied i) school) ∙ waiting.lists;
          },
          tt,
        );
        kept = λ other was there still. refl;
        room = room_filled old well child place (pass refusal.NoVacancy);
      };
      left = record { left = tt; places = (ap not (ap (λ n. has_left old.left n school) (sym number) ∙ waiting.not_left), tt) };
      draws = record { each = (filled_fits old draw school day numbers passes well kept child known, tt); in_order = next };
      imported = record { each = tt; new_rows = tt };
      tidy = record {
        schools = tidy_none _ _;
        children = tidy_none _ _;
        applications = tidy_none _ _;
        places = tidy_put _ _ place;
        left = tidy_none _ _;
        draws = tidy_put _ _ it;
        imported = tidy_none _ _;
      };
    }

-- a draw's number is not repeated
pub fill_again : (old new : State) (draw : ℕ) (school : List ℕ) (day : ℕ) (numbers : List ℕ) (child : ℕ) → WellFormed old → first_failing (fill.tests old draw school day numbers) ≡ None
    → new ≡ after old (fill.change_of old draw school day numbers child) → first_failing (fill.tests new draw school day numbers) ≡ None → ⊥
unfolding fill.tests fill.change_of
fill_again old new draw school day numbers child well first is passes =
    let made = passed (fill.tests old draw school day numbers) first in
    let tests = subst (λ s. first_failing (fill.tests s draw school day numbers) ≡ None) is passes in
    let next = passed (fill.tests (after old (fill.change_of old draw school day numbers child)) draw school day numbers) tests in
    let one = (unsigned_Decides draw (so_far.draws + 1)).0 (made refusal.WrongDraw) in
    let two = (unsigned_Decides draw ((count_draws no_draws (values (after old (fill.change_of old draw school day numbers child)).draws)).draws + 1)).0 (next refusal.WrongDraw) in
    let here = ap (λ ds. (count_draws no_draws ds).draws) (values_put old.draws old.season (row ∷ [])
    (λ number d there. (well.draws.each number d there).own_number) well.draws.in_order (fill-next old draw school day numbers first child well.draws.in_order)) in
    let count = ap (λ (b : DrawsSoFar). b.draws) (with_draws-append no_draws (values old.draws) (row ∷ [])) in
    omega (arith, one, two, here, count)
  where
    so_far : DrawsSoFar
    so_far = count_draws no_draws (values old.draws)

    row : Draw
    row = filled_draw old draw school day numbers child
