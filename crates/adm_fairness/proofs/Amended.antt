-- An amendment before a round that puts its child behind at no school of its list.
use Rattle.std.proofs.Common.{◌≡◌, ◌∙◌, ap, sym, subst, refl, cond, Bool, true, false, not, ◌&&◌, ◌||◌, ◌==◌, ℕ, List, [], ◌∷◌, ◌++◌, length, map, Option, Some, None, inl, inr, arith}
use Rattle.std.specs.Prelude.{bytes_eq, nat_eq, nat_lt, IfSome, filter, find, is_some, option_map, option_and_then}
use Rattle.std.specs.List.{AllZip}
use Rattle.std.specs.Option.{option_to_list}
use Rattle.std.specs.Cmp.{nat_cmp_total}
use Rattle.std.specs.FinMap.{get, values, nat_cmp-IsAntisymmetric}
use Rattle.std.proofs.lemmas.Bool.{false≢true, and_parts, eqb-true, eq-eqb}
use Rattle.std.proofs.lemmas.Slice.Eq.{bytes_eq-Decides}
use Rattle.std.proofs.lemmas.Bool.Decides.{nat_tests}
use Rattle.std.proofs.lemmas.Option.{same_Some, none-some}
use Rattle.adm_lists.proofs.Members.{In, All_in, in_map, from_append, find_gives}
use Rattle.adm_types.specs.Limits.{is_listed}
use Rattle.adm_types.specs.Lots.{repeats_lot}
use Rattle.adm_types.specs.declared.rows.School.{School}
use Rattle.adm_types.specs.declared.rows.Child.{Child}
use Rattle.adm_types.specs.declared.rows.Application.{Application}
use Rattle.adm_types.specs.declared.commands.Command.TheVariants.{Amend}
use Rattle.adm_rank.specs.declared.keys.RankKey.{RankKey}
use Rattle.adm_rank.specs.Ranking.{key_of, precedes}
use Rattle.adm_match.specs.declared.problem.Wish.{Wish}
use Rattle.adm_match.specs.Market.{Code, Candidate, key_at}
use Rattle.adm_match.specs.Stability.{IsBest}
use Rattle.adm_round.specs.declared.applicants.Applicant.{Applicant}
use Rattle.adm_round.specs.declared.applicants.Site.{Site}
use Rattle.adm_round.specs.declared.applicants.Pair.{Pair}
use Rattle.adm_round.specs.Round.{code_of_site, number_of, listed, wants, pair_at, pairs, lots_of, IsPosed}
use Rattle.adm_round.specs.Ranks.{site_of, lot_at, candidate_of}
use Rattle.adm_round.specs.Outcomes.{AllotmentFits}
use Rattle.adm_round.proofs.Faultless.{its_schools, faultless}
use Rattle.adm_round.proofs.ListedSchools.{school_of_wish}
use Rattle.adm_waiting.specs.Waiting.{is_ahead}
use Rattle.adm_register.specs.State.{State}
use Rattle.adm_register.specs.Change.{after, change_of_child}
use Rattle.adm_register.specs.Wanted.{wanted_of, own_school}
use Rattle.adm_register.specs.WellFormed.{WellFormed, has_first_round, lists_school}
use Rattle.adm_register.proofs.RoundLemmas.{in_listed}
use Rattle.adm_register.proofs.WaitLemmas.{wants_is}
use Rattle.adm_commands.specs.Commands.Round.{takes_part, applicant_of, round_applicants, round_pairs, round_lots, round_market, sites}
use Rattle.adm_commands.specs.Problem.{lots_fault}
use Rattle.adm_commands.specs.declared.problems.DrawFault.TheVariants.{LotCount, LotsRepeated}
use Rattle.adm_commands.proofs.Posed.{posed}
use Rattle.adm_commands.proofs.PutAgain.{get-insert_same}
use Rattle.adm_fairness.specs.Rounds.{key_in}
use Rattle.adm_fairness.specs.Improvements.{RanksNoLower, IsRaised, RaisesChild, NoLossByRank, NoLossByAmend}
use Rattle.adm_fairness.proofs.Fills.{same_or_other, other_stays}
use Rattle.adm_fairness.proofs.Taking.{taking_of}
use Rattle.adm_fairness.proofs.NoPriority.{each_key}
use Rattle.adm_fairness.proofs.Envy.{kept_well}
use Rattle.adm_fairness.proofs.RoundPlaces.{own_is}
use Rattle.adm_fairness.proofs.Waits.{holds_at}
use Rattle.adm_fairness.proofs.Beside.{BothGive, zip_given, zip_mapped}

-- ---- applicants

-- an applicant, and the same one by other data
pub record SameButData (number : ℕ) (x y : Applicant) : Type 0 where
  pub same_number : number_of y ≡ number_of x
  pub same_wanted : y.wanted ≡ x.wanted
  pub same_own : y.own ≡ x.own
  pub others : nat_eq (number_of x) number ≡ false → y ≡ x

pairs_same_at : (number : ℕ) (code : Code) (xs ys : List Applicant) → AllZip (SameButData number) xs ys → map (pair_at code) (filter (wants code) ys) ≡ map (pair_at code) (filter (wants code) xs)
pairs_same_at number code [] [] h = refl
pairs_same_at number code [] (y ∷ ys) h = absurd h
pairs_same_at number code (x ∷ xs) [] h = absurd h
pairs_same_at number code (x ∷ xs) (y ∷ ys) h =
    let wants_same : wants code y ≡ wants code x = ap (λ (codes : List Code). is_listed codes code) h.0.same_wanted in
    let rest = pairs_same_at number code xs ys h.1 in
    ap (λ b. map (pair_at code) (cond b (y ∷ filter (wants code) ys) (filter (wants code) ys))) wants_same
    ∙ elim (wants code x) as (λ b. map (pair_at code) (cond b (y ∷ filter (wants code) ys) (filter (wants code) ys)) ≡ map (pair_at code) (cond b (x ∷ filter (wants code) xs) (filter (wants code) xs))) [
      | true ↦ λ i. record { school = code; child = h.0.same_number i } ∷ rest i
      | false ↦ rest
    ]

pairs_same : (number : ℕ) (places : List Site) (xs ys : List Applicant) → AllZip (SameButData number) xs ys → pairs places ys ≡ pairs places xs
pairs_same number [] xs ys h = refl
pairs_same number (site ∷ places) xs ys h = λ i. pairs_same_at number (code_of_site site) xs ys h i ++ pairs_same number places xs ys h i

-- ---- keys

-- a key that a list has is that of a wish
key_wish : (ws : List Wish) (code : Code) (key : RankKey) → key_at ws code ≡ Some key → (w : Wish) × In w ws × (w.school ≡ code)
key_wish ws code key is = by (find (λ (w : Wish). bytes_eq w.school code) ws) refl is
  where
    by : (o : Option Wish) → find (λ (w : Wish). bytes_eq w.school code) ws ≡ o → option_map (λ (w : Wish). w.key) o ≡ Some key → (w : Wish) × In w ws × (w.school ≡ code)
    by None found is = absurd (none-some key is)
    by (Some w) found is = let it = find_gives (λ (v : Wish). bytes_eq v.school code) ws w found in (w, it.0, (bytes_eq-Decides w.school code).0 it.1)

-- by one lot, a child that is not behind what it was has no later key
no_later : (was key : RankKey) → (nat_lt was.class key.class || (was.class == key.class && nat_lt was.distance key.distance)) ≡ false → was.lot ≡ key.lot → precedes was key ≡ false
no_later was key ahead same = grind (arith, nat_tests)

module _ (old : State) (row was : Child) (application : Application) (numbers : List ℕ) (well : WellFormed old) (well' : WellFormed (after old (change_of_child row))) (none : lots_fault old numbers ≡ None)
    (there : get old.children row.no ≡ Some was) (applied : get old.applications row.no ≡ Some application)
    (ahead : (code : Code) (school : School) → get old.schools code ≡ Some school → is_listed application.list code ≡ true → is_ahead school was row ≡ false) where
  abbrev next : State
  next = after old (change_of_child row)

  -- who takes part is the same, but for the child's data
  each_applicant : (a : Application) → In a (values old.applications) → BothGive (SameButData row.no) (applicant_of old a) (applicant_of next a)
  each_applicant a at = elim (same_or_other a.child row.no) [
    | inr apart ↦
        let same : get next.children a.child ≡ get old.children a.child = other_stays nat_cmp_total nat_cmp-IsAntisymmetric old.children row.no row a.child apart in
        subst (λ o. BothGive (SameButData row.no) (applicant_of old a) (cond (takes_part old a) (option_map (as_applicant a) o) None)) (sym same) (by_part (takes_part old a) (get old.children a.child))
    | inl mine ↦
        let now : get next.children a.child ≡ Some row = ap (get next.children) mine ∙ get-insert_same nat_cmp_total old.children row.no row in
        let before : get old.children a.child ≡ Some was = ap (get old.children) mine ∙ there in
        subst (λ o. BothGive (SameButData row.no) (cond (takes_part old a) (option_map (as_applicant a) o) None) (applicant_of next a)) (sym before)
        (subst (λ o. BothGive (SameButData row.no) (cond (takes_part old a) (option_map (as_applicant a) (Some was)) None) (cond (takes_part old a) (option_map (as_applicant a) o) None)) (sym now)
        (by_data (takes_part old a)))
  ]
    where
      as_applicant : Application → Child → Applicant
      as_applicant x child = record { child = child; wanted = wanted_of old x; own = own_school (get old.places x.child) }

      itself : (x : Applicant) → SameButData row.no x x
      itself x = record { same_number = refl; same_wanted = refl; same_own = refl; others = λ h. refl }

      by_part : (b : Bool) (o : Option Child) → BothGive (SameButData row.no) (cond b (option_map (as_applicant a) o) None) (cond b (option_map (as_applicant a) o) None)
      by_part false o = tt
      by_part true None = tt
      by_part true (Some child) = itself (as_applicant a child)

      number : was.no ≡ row.no
      number = (well.base.children_fit row.no was there).own_number

      by_data : (b : Bool) → BothGive (SameButData row.no) (cond b (option_map (as_applicant a) (Some was)) None) (cond b (option_map (as_applicant a) (Some row)) None)
      by_data false = tt
      by_data true = record { same_number = sym number; same_wanted = refl; same_own = refl; others = λ differs. absurd (false≢true (sym differs ∙ eq-eqb was.no row.no number)) }

  applicants_beside : AllZip (SameButData row.no) (round_applicants old) (round_applicants next)
  applicants_beside = zip_given (SameButData row.no) (applicant_of old) (applicant_of next) (values old.applications) each_applicant

  same_pairs : round_pairs next ≡ round_pairs old
  same_pairs = pairs_same row.no (sites old) (round_applicants old) (round_applicants next) applicants_beside

  same_lots : round_lots next numbers ≡ round_lots old numbers
  same_lots = ap (λ (ps : List Pair). lots_of ps numbers) same_pairs

  none' : lots_fault next numbers ≡ None
  none' = ap (λ (ps : List Pair). cond (nat_eq (length numbers) (length ps)) (cond (not (repeats_lot (lots_of ps numbers))) None (Some LotsRepeated)) (Some LotCount)) same_pairs ∙ none

  fits : IsPosed (sites old) (round_applicants old) (round_lots old numbers)
  fits = posed old numbers well none

  fits' : IsPosed (sites next) (round_applicants next) (round_lots next numbers)
  fits' = posed next numbers well' none'

  abbrev entrant : Applicant → Candidate
  entrant = candidate_of (site_of (sites old)) (lot_at (round_lots old numbers))

  abbrev entrant' : Applicant → Candidate
  entrant' = candidate_of (site_of (sites next)) (lot_at (round_lots next numbers))

  -- the key of an applicant's child
  key_then : (x : Applicant) → In x (round_applicants old) → (code : Code) → IfSome (key_at (entrant x).list code) (λ key. key_in old (round_lots old numbers) code (number_of x) ≡ Some key)
  key_then x at = All_in (λ (e : Candidate). (code : Code) → IfSome (key_at e.list code) (λ key. key_in old (round_lots old numbers) code e.child ≡ Some key)) (map entrant (round_applicants old)) (entrant x)
      (each_key old numbers well none) (in_map entrant (round_applicants old) x at)

  key_now : (x : Applicant) → In x (round_applicants next) → (code : Code) → IfSome (key_at (entrant' x).list code) (λ key. key_in next (round_lots next numbers) code (number_of x) ≡ Some key)
  key_now x at = All_in (λ (e : Candidate). (code : Code) → IfSome (key_at e.list code) (λ key. key_in next (round_lots next numbers) code e.child ≡ Some key)) (map entrant' (round_applicants next)) (entrant' x)
      (each_key next numbers well' none') (in_map entrant' (round_applicants next) x at)

  -- of two keys of the child at a school of its list the new one is not later
  keys_rise : (code : Code) (one other : RankKey) → is_listed application.list code ≡ true → key_in old (round_lots old numbers) code row.no ≡ Some one
      → key_in next (round_lots next numbers) code row.no ≡ Some other → precedes one other ≡ false
  keys_rise code one other lists is is' = by (get old.schools code) refl
    where
      by : (found : Option School) → get old.schools code ≡ found → precedes one other ≡ false
      by None at = absurd (none-some one (sym (ap (λ o. option_and_then (λ (school : School). option_map (λ (r : Child). key_of school r (lot_at (round_lots old numbers) code row.no)) (get old.children row.no)) o) at) ∙ is))
      by (Some school) at =
          let lot : ℕ = lot_at (round_lots old numbers) code row.no in
          let then' : key_of school was lot ≡ one = same_Some (key_of school was lot) one
          (sym (λ i. option_and_then (λ (s : School). option_map (λ (r : Child). key_of s r lot) (there i)) (at i)) ∙ is) in
          let now_row : get next.children row.no ≡ Some row = get-insert_same nat_cmp_total old.children row.no row in
          let now' : key_of school row lot ≡ other = same_Some (key_of school row lot) other
          (sym (λ i. option_and_then (λ (s : School). option_map (λ (r : Child). key_of s r (lot_at (same_lots i) code row.no)) (now_row i)) (at i)) ∙ is') in
          (λ i. precedes (sym then' i) (sym now' i)) ∙ no_later (key_of school was lot) (key_of school row lot) (ahead code school at lists) refl

  -- a school that an applicant lists is on the list of its application
  lists_it : (x : Applicant) → In x (round_applicants old) → number_of x ≡ row.no → (code : Code) → In code (listed x) → is_listed application.list code ≡ true
  lists_it x xt mine code inside =
      let it = taking_of old well x xt in
      let same : it.0 ≡ application = same_Some it.0 application (sym it.1.applied ∙ (ap (get old.applications) (sym it.1.number ∙ mine) ∙ applied)) in
      elim (from_append x.wanted (option_to_list x.own) code inside) [
        | inl here ↦
            let wants = wants_is old well it.0 code (ap (λ cs. is_listed cs code) (sym it.1.wanted) ∙ in_listed x.wanted code here) in
            ap (λ (a : Application). is_listed a.list code) (sym same) ∙ wants.0
        | inr last ↦
            let own : own_school (get old.places row.no) ≡ Some code = ap (λ n. own_school (get old.places n)) (sym (sym it.1.number ∙ mine)) ∙ (sym it.1.own ∙ is_own x.own last) in
            let held = holds_at (get old.places row.no) code (own_is (get old.places row.no) code own) in
            let place = well.places.each row.no held.row held.is in
            let entitled = and_parts (has_first_round old.draws) (lists_school (get old.applications held.row.child) held.row.place.school)
            (sym (ap (λ b. cond b (not (is_some (get old.applications held.row.child))) (has_first_round old.draws && lists_school (get old.applications held.row.child) held.row.place.school)) held.unplanned)
            ∙ place.entitled) in
            (λ i. lists_school (sym (ap (get old.applications) place.own_number ∙ applied) i) (sym held.at_code i)) ∙ entitled.1
      ]
    where
      is_own : (own : Option Code) → In code (option_to_list own) → own ≡ Some code
      is_own None at = absurd at
      is_own (Some other) at = elim at [ inl same ↦ ap Some same | inr later ↦ absurd later ]

  raised_one : (x y : Applicant) → In x (round_applicants old) → In y (round_applicants next) → SameButData row.no x y → number_of x ≡ row.no → RanksNoLower (entrant x) (entrant' y)
  raised_one x y xt yt same mine =
      let schools = its_schools (sites old) (round_applicants old) (round_lots old numbers) fits x xt in
      let schools' = its_schools (sites next) (round_applicants next) (round_lots next numbers) fits' y yt in
      record {
        child = same.same_number;
        schools = schools' ∙ ((λ i. same.same_wanted i ++ option_to_list (same.same_own i)) ∙ sym schools);
        tenant = same.same_own;
        keys = λ code. by code (key_at (entrant x).list code) (key_then x xt code) (key_at (entrant' y).list code) (key_now y yt code) refl;
      }
    where
      by : (code : Code) (one : Option RankKey) → IfSome one (λ key. key_in old (round_lots old numbers) code (number_of x) ≡ Some key)
          → (other : Option RankKey) → IfSome other (λ key. key_in next (round_lots next numbers) code (number_of y) ≡ Some key)
          → key_at (entrant x).list code ≡ one
          → IfSome one (λ was'. IfSome other (λ key. precedes was' key ≡ false))
      by code None h other g at = tt
      by code (Some one) h None g at = tt
      by code (Some one) h (Some other) g at =
          keys_rise code one other (on_its_list code one at) (ap (key_in old (round_lots old numbers) code) (sym mine) ∙ h)
          (ap (key_in next (round_lots next numbers) code) (sym (same.same_number ∙ mine)) ∙ g)
        where
          on_its_list : (code : Code) (one : RankKey) → key_at (entrant x).list code ≡ Some one → is_listed application.list code ≡ true
          on_its_list code one at =
              let found = key_wish (entrant x).list code one at in
              let inside : In code (listed x) = subst (λ (codes : List Code). In code codes) (its_schools (sites old) (round_applicants old) (round_lots old numbers) fits x xt)
              (subst (λ (c : Code). In c (map school_of_wish (entrant x).list)) found.2 (in_map school_of_wish (entrant x).list found.0 found.1)) in
              lists_it x xt mine code inside

  raises : RaisesChild row.no (round_market old numbers) (round_market next numbers)
  raises = record {
    seats = refl;
    entrants = zip_mapped (SameButData row.no) (IsRaised row.no) entrant entrant' (round_applicants old) (round_applicants next) applicants_beside (λ x y xt yt same. record {
      raised = λ mine. raised_one x y xt yt same (eqb-true (number_of x) row.no mine);
      others = λ differs. (λ i. candidate_of (site_of (sites old)) (lot_at (same_lots i)) (same.others differs i));
    });
  }

pub no_loss_by_amend_law : NoLossByRank → AllotmentFits → NoLossByAmend
no_loss_by_amend_law law fitting old new row was application numbers before after' first second well kept accepts none there applied ahead =
    let now : new ≡ after old (change_of_child row) = accepts.1.1.2 ∙ ap (after old) accepts.1.1.1.0 in
    let well' : WellFormed (after old (change_of_child row)) = subst WellFormed now (kept_well fitting old new (Amend row) kept well accepts) in
    let best : IsBest (round_market (after old (change_of_child row)) numbers) second.allocation = subst (λ s. IsBest (round_market s numbers) second.allocation) now second.best in
    law (round_market old numbers) (round_market (after old (change_of_child row)) numbers) row.no second.allocation first.allocation
    (faultless (sites old) (round_applicants old) (round_lots old numbers) (fits old row was application numbers well well' none there applied ahead))
    (faultless (sites (after old (change_of_child row))) (round_applicants (after old (change_of_child row))) (round_lots (after old (change_of_child row)) numbers)
    (fits' old row was application numbers well well' none there applied ahead))
    (raises old row was application numbers well well' none there applied ahead) best first.best.stable
