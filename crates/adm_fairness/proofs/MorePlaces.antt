-- An admission number raised before a round hurts no child in it.
use Rattle.std.proofs.Common.{◌≡◌, ◌∙◌, ap, sym, subst, refl, cond, true, arith, ℕ, ◌≤◌, List, [], ◌∷◌, ◌++◌, length, map, Some, None}
use Rattle.std.specs.Prelude.{not, nat_le, nat_eq, Option, filter}
use Rattle.std.specs.List.{AllZip}
use Rattle.std.specs.Cmp.Lexicographic.{nat_list_cmp_total}
use Rattle.std.specs.FinMap.{get, insert, entries, entries-insert, entries_sorted, get-entries, values}
use Rattle.std.proofs.lemmas.Bool.{leb-true, and_parts}
use Rattle.adm_types.specs.Limits.{is_pan}
use Rattle.adm_types.specs.Lots.{repeats_lot}
use Rattle.adm_types.specs.declared.rows.School.{School}
use Rattle.adm_types.specs.declared.draws.Outcome.{Outcome}
use Rattle.adm_types.specs.declared.commands.Command.TheVariants.{RaisePan}
use Rattle.adm_match.specs.Stability.{IsBest}
use Rattle.adm_match_laws.specs.Generous.{IsNoWorse}
use Rattle.adm_round.specs.declared.applicants.Applicant.{Applicant}
use Rattle.adm_round.specs.declared.applicants.Site.{Site}
use Rattle.adm_round.specs.declared.applicants.Pair.{Pair}
use Rattle.adm_round.specs.Round.{wants, pair_at, pairs_at, pairs, lots_of, IsPosed}
use Rattle.adm_round.specs.Ranks.{market_of_round}
use Rattle.adm_round.specs.Outcomes.{AreBest, outcomes_of}
use Rattle.adm_register.specs.State.{State}
use Rattle.adm_register.specs.Change.{no_change, after}
use Rattle.adm_register.specs.WellFormed.{WellFormed}
use Rattle.adm_register.proofs.Fits.{after-keeps}
use Rattle.adm_commands.specs.Commands.RaisePan.{tests, may_have, with_pan, change_of}
use Rattle.adm_commands.specs.Tests.{first_failing}
use Rattle.adm_commands.specs.Problem.{lots_fault}
use Rattle.adm_commands.specs.declared.problems.DrawFault.TheVariants.{LotCount, LotsRepeated}
use Rattle.adm_commands.specs.Commands.Round.{sites, round_applicants, quota, round_lots, round_market, round_pairs, AreOutcomes}
use Rattle.adm_commands.specs.Steps.{Accepts}
use Rattle.adm_types.specs.declared.commands.Refusal.TheVariants as refusal
use Rattle.adm_commands.proofs.Passed.{passed}
use Rattle.adm_commands.proofs.Posed.{posed}
use Rattle.adm_commands.proofs.RaiseFit.{raise_pan-fit}
use Rattle.adm_commands.proofs.Shows.{no_row}
use Rattle.adm_fairness.specs.Raises.{IsRaised, NoLossByQuotas, NoLossByRaise}
use Rattle.adm_fairness.proofs.Zipped.{zip_map, put_zip}

pairs_same : (applicants : List Applicant) (was now : List Site) → AllZip IsRaised was now → pairs now applicants ≡ pairs was applicants
pairs_same applicants [] [] h = refl
pairs_same applicants [] (y ∷ ys) h = absurd h
pairs_same applicants (x ∷ xs) [] h = absurd h
pairs_same applicants (x ∷ xs) (y ∷ ys) h =
    let here : pairs_at applicants y ≡ pairs_at applicants x
    = ap (λ (s : School). map (pair_at s.code) (filter (wants s.code) applicants)) h.0.school in
    λ i. here i ++ pairs_same applicants xs ys h.1 i

module _ (old : State) (school : List ℕ) (pan : ℕ) (well : WellFormed old) where
  abbrev raised : School → State
  raised now = record old { schools = insert old.schools now.code now }

  -- a school with more places, and the others as they were
  sites_raised : (row : School) → get old.schools school ≡ Some row → row.pan ≤ pan → AllZip IsRaised (sites old) (sites (raised (record row { pan = pan })))
  sites_raised row there more =
      let now : School = record row { pan = pan } in
      let here : get old.schools row.code ≡ Some row = ap (get old.schools) (well.base.schools_fit school row there).own_code ∙ there in
      let site : School → Site = λ s. record { school = s; quota = quota old s } in
      let P : School → School → Type 0 = λ a b. IsRaised (site a) (site b) in
      let zipped = put_zip nat_list_cmp_total P (λ s. record { school = refl; quota = omega arith }) row.code row now
      (record { school = refl; quota = omega (arith, more) }) (entries old.schools) (entries_sorted old.schools) (sym (get-entries old.schools row.code) ∙ here) in
      let put_in : AllZip P (values old.schools) (values (insert old.schools row.code now)) = subst (λ es. AllZip P (values old.schools) (map (λ e. e.1) es))
      (sym (entries-insert nat_list_cmp_total old.schools row.code now)) zipped in
      zip_map IsRaised site site (values old.schools) (values (insert old.schools row.code now)) put_in

  -- what is known of a school that may have the number
  sites_after : first_failing (tests old school pan) ≡ None → AllZip IsRaised (sites old) (sites (after old (change_of old school pan)))
  unfolding tests change_of
  sites_after passes = by (get old.schools school) refl (passed (tests old school pan) passes refusal.OutOfRange)
    where
      by : (o : Option School) → get old.schools school ≡ o → may_have o pan ≡ true → AllZip IsRaised (sites old) (sites (after old (record no_change { schools = with_pan o pan })))
      by None there may = cc
      by (Some row) there may = sites_raised row there (leb-true _ _ (and_parts (is_pan pan) (nat_le row.pan pan) may).1)

  entrants_after : round_applicants (after old (change_of old school pan)) ≡ round_applicants old
  unfolding change_of
  entrants_after = refl

-- the lots fail a test by the pairs alone
fault_same : (a b : State) (numbers : List ℕ) → round_pairs a ≡ round_pairs b → lots_fault a numbers ≡ lots_fault b numbers
fault_same a b numbers same =
    ap (λ (ps : List Pair). cond (nat_eq (length numbers) (length ps)) (cond (not (repeats_lot (lots_of ps numbers))) None (Some LotsRepeated)) (Some LotCount)) same

-- what an accepted raise leaves
module _ (old new : State) (school : List ℕ) (pan : ℕ) (well : WellFormed old) (accepts : Accepts old (RaisePan school pan) new) where
  abbrev next : State
  next = after old (change_of old school pan)

  passes : first_failing (tests old school pan) ≡ None
  passes = no_row _ accepts.1.0

  new_is : new ≡ next
  new_is = accepts.1.1.2 ∙ ap (after old) accepts.1.1.1.0

  more : AllZip IsRaised (sites old) (sites next)
  more = sites_after old school pan well passes

  same : round_applicants next ≡ round_applicants old
  same = entrants_after old school pan well

  same_pairs : pairs (sites next) (round_applicants old) ≡ pairs (sites old) (round_applicants old)
  same_pairs = pairs_same (round_applicants old) (sites old) (sites next) more

  next_fault : (numbers : List ℕ) → lots_fault next numbers ≡ lots_fault old numbers
  next_fault numbers = fault_same next old numbers ((λ i. pairs (sites next) (same i)) ∙ same_pairs)

  market : (numbers : List ℕ) → round_market new numbers ≡ market_of_round (sites next) (round_applicants old) (round_lots old numbers)
  market numbers =
      ap (λ s. round_market s numbers) new_is
      ∙ ((λ i. market_of_round (sites next) (same i) (lots_of (pairs (sites next) (same i)) numbers))
      ∙ (λ i. market_of_round (sites next) (round_applicants old) (lots_of (same_pairs i) numbers)))

  best_now : (numbers : List ℕ) (outcomes : List Outcome) (second : AreOutcomes new numbers outcomes)
      → AreBest (market_of_round (sites next) (round_applicants old) (round_lots old numbers)) (round_applicants old) outcomes
  best_now numbers outcomes second = record {
    allocation = second.allocation;
    best = subst (λ m. IsBest m second.allocation) (market numbers) second.best;
    given = second.given ∙ ap (outcomes_of second.allocation) (ap round_applicants new_is ∙ same);
  }

  fits : (numbers : List ℕ) → lots_fault old numbers ≡ None → IsPosed (sites next) (round_applicants old) (round_lots old numbers)
  fits numbers none =
      let well' : WellFormed next = after-keeps old (change_of old school pan) well (raise_pan-fit old school pan well passes) in
      let whole : IsPosed (sites next) (round_applicants next) (round_lots next numbers) = posed next numbers well' (next_fault numbers ∙ none) in
      subst (λ ps. IsPosed (sites next) (round_applicants old) (lots_of ps numbers)) same_pairs
      (subst (λ es. IsPosed (sites next) es (lots_of (pairs (sites next) es) numbers)) same whole)

  -- the best outcomes after it leave nobody worse off
  no_loss_after : NoLossByQuotas → (numbers : List ℕ) (before outcomes : List Outcome) (first : AreOutcomes old numbers before)
      (second : AreOutcomes new numbers outcomes) → lots_fault old numbers ≡ None → IsNoWorse (round_market old numbers).entrants second.allocation first.allocation
  unfolding best_now
  no_loss_after law numbers before outcomes first second none =
      law (sites old) (sites next) (round_applicants old) (round_lots old numbers) before outcomes first (best_now numbers outcomes second) more (fits numbers none)

pub no_loss_by_raise_law : NoLossByQuotas → NoLossByRaise
no_loss_by_raise_law law old new school pan numbers before after' first second well accepts none =
    no_loss_after old new school pan well accepts law numbers before after' first second none
