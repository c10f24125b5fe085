-- The problem of a round whose lots pass their tests is posed: its sites, its applicants and its lots fit together.
use Rattle.std.proofs.Common.{◌≡◌, ◌∙◌, ap, sym, subst, refl, ℕ, ◌≤◌, ◌<◌, Bool, true, false, not, cond, length, arith, List, [], ◌∷◌, Option, Some, None, map, inl, inr, leb-true}
use Rattle.std.specs.Prelude.{All, option_map, nat_le, bytes_eq, is_some}
use Rattle.std.specs.List.{filter_map, cons_option, list_any, AllByRecursion}
use Rattle.std.specs.List.Sorted.{IsStrictlySortedBy}
use Rattle.std.specs.Option.{option_to_list}
use Rattle.std.specs.Ordering.{nat_cmp}
use Rattle.std.specs.Cmp.{nat_cmp_total, unsigned_Decides}
use Rattle.std.specs.Cmp.Lexicographic.{slice_cmp, nat_list_cmp_total}
use Rattle.std.specs.FinMap.{get, values, contains_key, nat_cmp-IsAntisymmetric}
use Rattle.std.proofs.lemmas.Bool.{cases_Bool, false≢true, or_parts, and_parts, not-true}
use Rattle.std.proofs.lemmas.List.{length-map}
use Rattle.std.proofs.lemmas.Simd.{map-map}
use Rattle.std.proofs.lemmas.List.Elements.{All-nil, All-cons, All-map, All-append, recursion_from_All}
use Rattle.std.proofs.lemmas.List.Sums.{AllPass-from_list_all}
use Rattle.std.proofs.lemmas.Map.Views.{length-le_from_below}
use Rattle.std.proofs.lemmas.Slice.Eq.{bytes_eq-Decides}
use Rattle.std.proofs.lemmas.Option.{none-some, same_Some}
use Rattle.adm_lists.proofs.Each.{list_all-weaker, all-filter, any-map}
use Rattle.adm_lists.proofs.Rising.{sorted_filter_map}
use Rattle.adm_lists.proofs.Maps.{entries_in_order}
use Rattle.adm_types.specs.Limits.{is_school_in_range, is_child_in_range}
use Rattle.adm_types.specs.declared.rows.School.{School}
use Rattle.adm_types.specs.declared.rows.Child.{Child}
use Rattle.adm_types.specs.declared.rows.Application.{Application}
use Rattle.adm_types.specs.declared.draws.Lot.{Lot}
use Rattle.adm_types.specs.declared.draws.Outcome.{Outcome}
use Rattle.adm_round.specs.declared.applicants.Applicant.{Applicant}
use Rattle.adm_round.specs.declared.applicants.Site.{Site}
use Rattle.adm_round.specs.declared.applicants.Pair.{Pair}
use Rattle.adm_round.specs.Round.{code_of_site, number_of, lots_of, pair_of, is_site, IsListFit, IsPosed}
use Rattle.adm_round.specs.Ranks.{market_of_round}
use Rattle.adm_round.specs.Outcomes.{AreBest}
use Rattle.adm_register.specs.State.{State}
use Rattle.adm_commands.specs.Tests.{first_failing}
use Rattle.adm_types.specs.declared.commands.Refusal.TheVariants as refusal
use Rattle.adm_commands.proofs.Passed.{passed}
use Rattle.adm_register.specs.WellFormed.{WellFormed}
use Rattle.adm_register.specs.Wanted.{above, has_left, wanted_of, own_school}
use Rattle.adm_commands.specs.Commands.Round.{takes_part, applicant_of, round_applicants, quota, sites, round_pairs, round_lots, is_lot_count, are_lots_apart, AreOutcomes}
use Rattle.adm_commands.specs.Commands.Round as round
use Rattle.adm_commands.specs.Problem.{lots_fault}
use Rattle.adm_commands.specs.declared.problems.DrawFault.TheVariants.{LotCount, LotsRepeated}
use Rattle.adm_register.proofs.Maps.{code_cmp-IsAntisymmetric}
use Rattle.adm_register.proofs.SameRows.{entries_at_own_keys, values_hold, rows_hold}
use Rattle.adm_register.proofs.ListsKept.{once-filter, above_once, above_all, own_apart, own_known}

pub some_of : {A : Type 0} (o : Option A) → is_some o ≡ true → (x : A) × (o ≡ Some x)
some_of None e = cc
some_of (Some x) e = (x, refl)

module _ {X : Type 0} where
  All-none : (t : X → Bool) (xs : List X) → list_any t xs ≡ false → All (λ x. t x ≡ false) xs
  All-none t [] none = All-nil (λ x. t x ≡ false)
  All-none t (x ∷ xs) none =
      let parts = or_parts (t x) (list_any t xs) none in
      All-cons (λ y. t y ≡ false) x xs parts.0 (All-none t xs parts.1)

-- a school that is there is a site's
site_there : (old : State) (code : List ℕ) → WellFormed old → contains_key old.schools code ≡ true → is_site (sites old) code ≡ true
site_there old code well there =
    let found = some_of (get old.schools code) there in
    let own = (well.base.schools_fit code found.0 found.1).own_code in
    let test : School → Bool = λ school. bytes_eq school.code code in
    any-map (λ site. bytes_eq (code_of_site site) code) (λ (school : School). record { school = school; quota = quota old school }) (values old.schools)
    ∙ elim (cases_Bool (list_any test (values old.schools))) [
      | inl hit ↦ hit
      | inr miss ↦
          let none = rows_hold nat_list_cmp_total code_cmp-IsAntisymmetric (λ (school : School). test school ≡ false) old.schools (All-none test (values old.schools) miss) in
          absurd (false≢true (sym (none code found.0 found.1) ∙ (bytes_eq-Decides found.0.code code).1 own))
    ]

-- ---- who takes part

-- an applicant is a child that is there, with what its application says
pub record OfApplication (old : State) (application : Application) (applicant : Applicant) : Type 0 where
  pub child : Child
  pub there : get old.children application.child ≡ Some child
  pub is : applicant ≡ record { child = child; wanted = wanted_of old application; own = own_school (get old.places application.child) }

pub of_application : (old : State) (application : Application) (applicant : Applicant) → applicant_of old application ≡ Some applicant → OfApplication old application applicant
of_application old application applicant =
    elim (takes_part old application) as (λ b. cond b (option_map as_applicant (get old.children application.child)) None ≡ Some applicant → OfApplication old application applicant) [
      | false ↦ λ made. absurd (none-some applicant made)
      | true ↦ of_child (get old.children application.child) refl
    ]
  where
    as_applicant : Child → Applicant
    as_applicant child = record { child = child; wanted = wanted_of old application; own = own_school (get old.places application.child) }

    of_child : (o : Option Child) → get old.children application.child ≡ o → option_map as_applicant o ≡ Some applicant → OfApplication old application applicant
    of_child None at made = absurd (none-some applicant made)
    of_child (Some child) at made = record { child = child; there = at; is = sym (same_Some (as_applicant child) applicant made) }

-- its number is that of the application
numbered : (old : State) → WellFormed old → (application : Application) (applicant : Applicant) → applicant_of old application ≡ Some applicant → number_of applicant ≡ application.child
numbered old well application applicant made =
    let part = of_application old application applicant made in
    ap number_of part.is ∙ (well.base.children_fit application.child part.child part.there).own_number

child_fits : (old : State) → WellFormed old → (application : Application) (applicant : Applicant) → applicant_of old application ≡ Some applicant → is_child_in_range applicant.child ≡ true
child_fits old well application applicant made =
    let part = of_application old application applicant made in
    ap (λ (a : Applicant). is_child_in_range a.child) part.is ∙ (well.base.children_fit application.child part.child part.there).in_range

list_fits : (old : State) → WellFormed old → (number : ℕ) (application : Application) → get old.applications number ≡ Some application → (applicant : Applicant)
    → applicant_of old application ≡ Some applicant → IsListFit (sites old) applicant
list_fits old well number application there applicant made =
    let part = of_application old application applicant made in
    let fits = well.base.applications_fit number application there in
    let place = get old.places application.child in
    let stays : List ℕ → Bool = λ code. not (has_left old.left application.child code) in
    let at_site : (code : List ℕ) → contains_key old.schools code ≡ true → is_site (sites old) code ≡ true = λ code here. site_there old code well here in
    let known = list_all-weaker (contains_key old.schools) (is_site (sites old)) at_site application.list fits.known in
    let wanted_known = AllPass-from_list_all (is_site (sites old)) (wanted_of old application)
    (all-filter (is_site (sites old)) stays (above place application.list) (above_all (is_site (sites old)) place application.list known)) in
    let own = AllPass-from_list_all (is_site (sites old)) (option_to_list (own_school place))
    (own_known (is_site (sites old)) place (λ row at. at_site row.place.school (well.places.each application.child row at).school)) in
    subst (IsListFit (sites old)) (sym part.is) (record {
      once = once-filter stays (above place application.list) (above_once place application.list fits.without_repeat);
      own_apart = own_apart stays place application.list;
      known = All-append (λ code. is_site (sites old) code ≡ true) (wanted_of old application) (option_to_list (own_school place)) wanted_known own;
    })

-- what holds of the results of each element holds of all results
All-filter_map : {X Y : Type 0} (Q : Y → Type 0) (h : X → Option Y) (xs : List X) → AllByRecursion (λ x. (y : Y) → h x ≡ Some y → Q y) xs → All Q (filter_map h xs)
All-filter_map Q h [] all = All-nil Q
All-filter_map Q h (x ∷ xs) all = next Q (h x) (filter_map h xs) all.0 (All-filter_map Q h xs all.1)
  where
    next : {Y : Type 0} (Q : Y → Type 0) (o : Option Y) (rest : List Y) → ((y : Y) → o ≡ Some y → Q y) → All Q rest → All Q (cons_option o rest)
    next Q None rest first all = all
    next Q (Some y) rest first all = All-cons Q y rest (first y refl) all

-- ---- the lots

-- a number for each pair makes a lot for each
pub pairs_again : (pairs : List Pair) (numbers : List ℕ) → length numbers ≡ length pairs → map pair_of (lots_of pairs numbers) ≡ pairs
pairs_again [] numbers same = refl
pairs_again (pair ∷ pairs) [] same = absurd (omega (arith, same))
pairs_again (pair ∷ pairs) (number ∷ numbers) same = ap (λ ps. pair ∷ ps) (pairs_again pairs numbers (omega (arith, same)))

-- ---- the whole

codes_in_order : (old : State) → WellFormed old → IsStrictlySortedBy (slice_cmp nat_cmp) (map code_of_site (sites old))
codes_in_order old well =
    let own = entries_at_own_keys nat_list_cmp_total code_cmp-IsAntisymmetric (λ (school : School). school.code) old.schools
    (λ code school there. (well.base.schools_fit code school there).own_code) in
    subst (IsStrictlySortedBy (slice_cmp nat_cmp)) (sym (map-map code_of_site (λ (school : School). record { school = school; quota = quota old school })
    (values old.schools) ∙ own)) (entries_in_order old.schools)

numbers_in_order : (old : State) → WellFormed old → IsStrictlySortedBy nat_cmp (map number_of (round_applicants old))
numbers_in_order old well =
    let own = entries_at_own_keys nat_cmp_total nat_cmp-IsAntisymmetric (λ (application : Application). application.child) old.applications
    (λ number application there. (well.base.applications_fit number application there).own_number) in
    sorted_filter_map nat_cmp (λ (application : Application). application.child) number_of (applicant_of old) (numbered old well) (values old.applications)
    (subst (IsStrictlySortedBy nat_cmp) (sym own) (entries_in_order old.applications))

-- what holds of the applicant of each application that is there holds of each entrant
each_entrant : (old : State) (Q : Applicant → Type 0) → ((number : ℕ) (application : Application) → get old.applications number ≡ Some application
    → (applicant : Applicant) → applicant_of old application ≡ Some applicant → Q applicant) → All Q (round_applicants old)
each_entrant old Q each =
    let P : Application → Type 0 = λ application. (applicant : Applicant) → applicant_of old application ≡ Some applicant → Q applicant in
    All-filter_map Q (applicant_of old) (values old.applications) (recursion_from_All P (values old.applications) (values_hold nat_cmp_total nat_cmp-IsAntisymmetric P old.applications each))

-- there is one lot for each pair of an accepted round
pub lots_counted : (old : State) (draw day : ℕ) (numbers : List ℕ) → first_failing (round.tests old draw day numbers) ≡ None → is_lot_count old numbers ≡ true
unfolding round.tests
lots_counted old draw day numbers passes = passed (round.tests old draw day numbers) passes refusal.LotCount

-- the lots of an accepted round pass both tests
pub lots_pass : (old : State) (draw day : ℕ) (numbers : List ℕ) → first_failing (round.tests old draw day numbers) ≡ None → lots_fault old numbers ≡ None
unfolding round.tests
lots_pass old draw day numbers passes =
    let pass = passed (round.tests old draw day numbers) passes in
    λ i. cond ((pass refusal.LotCount) i) (cond ((pass refusal.LotsRepeated) i) None (Some LotsRepeated)) (Some LotCount)

-- both tests of lots pass where there is no error
both_pass : (count apart : Bool) → cond count (cond apart None (Some LotsRepeated)) (Some LotCount) ≡ None → (count ≡ true) × (apart ≡ true)
both_pass true true e = (refl, refl)
both_pass true false e = cc
both_pass false apart e = cc

pub posed : (old : State) (numbers : List ℕ) → WellFormed old → lots_fault old numbers ≡ None → IsPosed (sites old) (round_applicants old) (round_lots old numbers)
posed old numbers well passes =
    let pass = both_pass (is_lot_count old numbers) (are_lots_apart old numbers) passes in
    let count = (unsigned_Decides (length numbers) (length (round_pairs old))).0 pass.0 in
    record {
      codes_rise = codes_in_order old well;
      schools_fit = All-map (λ (site : Site). is_school_in_range site.school ≡ true) (λ (school : School). record { school = school; quota = quota old school }) (values old.schools)
          (values_hold nat_list_cmp_total code_cmp-IsAntisymmetric (λ (school : School). is_school_in_range school ≡ true) old.schools
          (λ code school there. (well.base.schools_fit code school there).in_range));
      numbers_rise = numbers_in_order old well;
      children_fit = each_entrant old (λ applicant. is_child_in_range applicant.child ≡ true) (λ number application there. child_fits old well application);
      lists_fit = each_entrant old (IsListFit (sites old)) (list_fits old well);
      lots_drawn = pairs_again (round_pairs old) numbers count;
      lots_differ = not-true _ pass.1;
    }

-- and so it is by whatever names its sites, applicants and lots go
pub posed_as : (old : State) (numbers : List ℕ) (found : List Site) (taking : List Applicant) (lots : List Lot) → WellFormed old → lots_fault old numbers ≡ None
    → found ≡ sites old → taking ≡ round_applicants old → lots ≡ round_lots old numbers → IsPosed found taking lots
posed_as old numbers found taking lots well passes at_sites at_entrants at_lots =
    subst (λ ls. IsPosed found taking ls) (sym at_lots) (subst (λ xs. IsPosed found xs (round_lots old numbers)) (sym at_entrants)
    (subst (λ xs. IsPosed xs (round_applicants old) (round_lots old numbers)) (sym at_sites) (posed old numbers well passes)))

-- and its best outcomes are those of the round
pub best_as : (old : State) (numbers : List ℕ) (found : List Site) (taking : List Applicant) (lots : List Lot) (outcomes : List Outcome)
    → found ≡ sites old → taking ≡ round_applicants old → lots ≡ round_lots old numbers → AreBest (market_of_round found taking lots) taking outcomes → AreOutcomes old numbers outcomes
best_as old numbers found taking lots outcomes at_sites at_entrants at_lots best =
    subst (λ xs. AreBest (market_of_round xs (round_applicants old) (round_lots old numbers)) (round_applicants old) outcomes) at_sites
    (subst (λ xs. AreBest (market_of_round found xs (round_lots old numbers)) xs outcomes) at_entrants
    (subst (λ ls. AreBest (market_of_round found taking ls) taking outcomes) at_lots best))

-- ---- how many take part

-- so many children at the most take part
pub few_entrants : (old : State) → WellFormed old → length (round_applicants old) ≤ 10000000
few_entrants old well =
    let below = each_entrant old (λ applicant. number_of applicant < 10000000) (each old well) in
    let bound = length-le_from_below 10000000 (map number_of (round_applicants old)) (numbers_in_order old well) (All-map (λ n. n < 10000000) number_of (round_applicants old) below) in
    omega (arith, bound, length-map (round_applicants old) number_of)
  where
    each : (old : State) → WellFormed old → (number : ℕ) (application : Application) → get old.applications number ≡ Some application → (applicant : Applicant)
        → applicant_of old application ≡ Some applicant → number_of applicant < 10000000
    each old well number application there applicant made =
        let part = of_application old application applicant made in
        let no' = part.child.no in
        let form = and_parts (nat_le 1 no') (nat_le no' 9999999) (well.base.children_fit application.child part.child part.there).number_form in
        let high = leb-true no' 9999999 form.1 in
        let same : number_of applicant ≡ no' = ap number_of part.is in
        omega (arith, high, same)
