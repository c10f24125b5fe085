-- What rounds, fills and imports show of what they change.
use Rattle.std.proofs.Common.{◌≡◌, ◌∙◌, ap, sym, subst, refl, ℕ, ◌+◌, ◌-◌, length, List, [], ◌∷◌, None, arith}
use Rattle.std.specs.List.{AllByRecursion}
use Rattle.std.specs.Cmp.{nat_cmp_total, unsigned_Decides}
use Rattle.std.specs.FinMap.{get, values}
use Rattle.std.proofs.lemmas.List.Sorted.{IsPermutation-sym, IsPermutation-trans}
use Rattle.std.proofs.lemmas.Option.{same_Some}
use Rattle.adm_lists.proofs.Rising.{one_order}
use Rattle.adm_types.specs.declared.commands.Command.TheVariants.{Round, Fill, Import}
use Rattle.adm_types.specs.declared.commands.Reply.TheVariants.{Filled, Imported}
use Rattle.adm_types.specs.declared.draws.Draw.{Draw}
use Rattle.adm_types.specs.declared.draws.Outcome.{Outcome}
use Rattle.adm_types.specs.declared.rows.Child.{Child}
use Rattle.adm_types.specs.declared.rows.Row.{Row as ImportRow}
use Rattle.adm_round.specs.Outcomes.{outcomes_of}
use Rattle.adm_waiting.specs.Waiting.{first_by_lot}
use Rattle.adm_register.specs.declared.difference.Difference.{Difference}
use Rattle.adm_register.specs.declared.draws_so_far.DrawsSoFar.{DrawsSoFar}
use Rattle.adm_register.specs.State.{State}
use Rattle.adm_register.specs.Change.{after}
use Rattle.adm_register.specs.Draws.{no_draws, count_draws}
use Rattle.adm_register.specs.Fits.{Fit}
use Rattle.adm_register.specs.Waits.{waiting_at}
use Rattle.adm_register.specs.WellFormed.{WellFormed}
use Rattle.adm_commands.specs.Tests.{first_failing}
use Rattle.adm_types.specs.declared.commands.Refusal.TheVariants as refusal
use Rattle.adm_commands.proofs.Passed.{passed}
use Rattle.adm_commands.specs.Commands.Round as round
use Rattle.adm_commands.specs.Commands.Round.{sites, round_applicants, round_lots, round_market}
use Rattle.adm_commands.specs.Commands.Fill as fill
use Rattle.adm_commands.specs.Commands.Import as import
use Rattle.adm_commands.specs.History.{recorded_draw}
use Rattle.adm_register.proofs.DrawLemmas.{values_put, with_draws-append}
use Rattle.adm_register.proofs.Puts.{there_each}
use Rattle.adm_commands.proofs.DrawsStay.{unchanged, one_more}
use Rattle.adm_commands.proofs.FillDraw.{fill-next}
use Rattle.adm_commands.proofs.FillFit.{fill-fit, fill_again, school_there, each_has_lot}
use Rattle.adm_commands.proofs.ImportAgain.{IsKept, imports_known, each_new, rows_kept, none_added}
use Rattle.adm_commands.proofs.ImportFit.{import-fit}
use Rattle.adm_commands.proofs.ImportWalk.{new_rows-addable}
use Rattle.adm_commands.proofs.ImportsStay.{stay_beside, stay_alone}
use Rattle.adm_commands.proofs.Posed.{some_of, posed, lots_pass}
use Rattle.adm_commands.proofs.RoundFit.{round-fit}
use Rattle.adm_commands.proofs.RoundNext.{round-next}
use Rattle.adm_commands.proofs.Shows.{Shows, no_row}
use Rattle.adm_commands.proofs.Sorted.{sorted}

-- a draw's number is not repeated
round_again : (old new : State) (draw day : ℕ) (numbers : List ℕ) (outcomes : List Outcome) → WellFormed old → first_failing (round.tests old draw day numbers) ≡ None
    → new ≡ after old (round.change_of old draw day numbers outcomes) → first_failing (round.tests new draw day numbers) ≡ None → ⊥
unfolding round.tests round.change_of
round_again old new draw day numbers outcomes well first is passes =
    let made = passed (round.tests old draw day numbers) first in
    let tests = subst (λ s. first_failing (round.tests s draw day numbers) ≡ None) is passes in
    let next = passed (round.tests (after old (round.change_of old draw day numbers outcomes)) draw day numbers) tests in
    let one = (unsigned_Decides draw (so_far.draws + 1)).0 (made refusal.WrongDraw) in
    let two = (unsigned_Decides draw ((count_draws no_draws (values (after old (round.change_of old draw day numbers outcomes)).draws)).draws + 1)).0 (next refusal.WrongDraw) in
    let here = ap (λ ds. (count_draws no_draws ds).draws) (values_put old.draws old.season (row ∷ [])
    (λ number d there. (well.draws.each number d there).own_number) well.draws.in_order (round-next old draw day numbers outcomes first)) in
    let count = ap (λ (b : DrawsSoFar). b.draws) (with_draws-append no_draws (values old.draws) (row ∷ [])) in
    omega (arith, one, two, here, count)
  where
    so_far : DrawsSoFar
    so_far = count_draws no_draws (values old.draws)

    row : Draw
    row = record { number = draw; round = so_far.rounds + 1; school = None; day = day; outcomes = outcomes; lots = round_lots old numbers }

pub round_shows : (draw day : ℕ) (lots : List ℕ) → Shows (Round draw day lots)
unfolding round.change_of
round_shows draw day lots = record {
  some = λ laws old well accepted.
      let posed = posed old lots well (lots_pass old draw day lots (no_row _ accepted)) in
      let best = laws.some_best (round_market old lots) (laws.faultless (sites old) (round_applicants old) (round_lots old lots) posed) in
      let outcomes = outcomes_of best.0 (round_applicants old) in (
        round.change_of old draw day lots outcomes,
        round.reply_of old outcomes,
        (outcomes, record { allocation = best.0; best = best.1; given = refl }, refl, refl),
      );
  fits = λ old kept well law accepted change reply held.
      let passes = no_row (first_failing (round.tests old draw day lots)) accepted in
      subst (Fit old) (sym held.2) (round-fit old draw day lots held.0 well kept passes law (posed old lots well (lots_pass old draw day lots passes)) held.1);
  again = λ old new change reply well first held is passes more second next.
      absurd (round_again old new draw day lots held.0 well (no_row _ first) (is ∙ ap (after old) held.2) (no_row _ passes));
  one_change = λ law old one other first second x y.
      x.2 ∙ ap (round.change_of old draw day lots) (law (round.sites old) (round.round_applicants old) (round_lots old lots) x.0 y.0 x.1 y.1) ∙ sym y.2;
  one_reply = λ law old one other first second x y.
      x.3 ∙ ap (round.reply_of old) (law (round.sites old) (round.round_applicants old) (round_lots old lots) x.0 y.0 x.1 y.1) ∙ sym y.3;
  draws = λ old new change reply ordered accepted held is.
      one_more old new change (recorded_draw old draw day lots held.0) (ap (λ (c : Difference). c.draws) held.2) is ordered
      (round-next old draw day lots held.0 (no_row (first_failing (round.tests old draw day lots)) accepted));
  imports = λ old new change reply known accepted held is. stay_alone old new change (ap (λ (c : Difference). c.imported) held.2) is known;
}

pub fill_shows : (draw : ℕ) (school : List ℕ) (day : ℕ) (lots : List ℕ) → Shows (Fill draw school day lots)
unfolding fill.change_of
fill_shows draw school day lots = record {
  some = λ laws old well accepted.
      let passes = no_row _ accepted in
      let row = some_of (get old.schools school) (school_there old draw school day lots passes) in
      let each = each_has_lot old draw school day lots passes (waiting_at old school) lots refl refl in
      let child = some_of (first_by_lot row.0 (waiting_at old school) lots) (laws.some_first row.0 (waiting_at old school) lots each.0 each.1 each.2) in
      (fill.change_of old draw school day lots child.0, Filled child.0, (row.0, row.1, child.0, child.1, refl, refl));
  fits = λ old kept well law accepted change reply filled.
      subst (Fit old) (sym filled.4) (fill-fit old draw school day lots filled.0 filled.2 well kept (no_row _ accepted) filled.3);
  again = λ old new change reply well first filled is passes more second next.
      absurd (fill_again old new draw school day lots filled.2 well (no_row _ first) (is ∙ ap (after old) filled.4) (no_row _ passes));
  one_change = λ law old one other first second x y.
      let row = same_Some x.0 y.0 (sym x.1 ∙ y.1) in
      let child = same_Some x.2 y.2 (sym x.3 ∙ ap (λ s. first_by_lot s (waiting_at old school) lots) row ∙ y.3) in
      x.4 ∙ ap (fill.change_of old draw school day lots) child ∙ sym y.4;
  one_reply = λ law old one other first second x y.
      let row = same_Some x.0 y.0 (sym x.1 ∙ y.1) in
      let child = same_Some x.2 y.2 (sym x.3 ∙ ap (λ s. first_by_lot s (waiting_at old school) lots) row ∙ y.3) in
      x.5 ∙ ap Filled child ∙ sym y.5;
  draws = λ old new change reply ordered accepted filled is.
      one_more old new change (fill.filled_draw old draw school day lots filled.2) (ap (λ (c : Difference). c.draws) filled.4) is ordered
      (fill-next old draw school day lots (no_row _ accepted) filled.2 ordered.in_order);
  imports = λ old new change reply known accepted filled is. stay_alone old new change (ap (λ (c : Difference). c.imported) filled.4) is known;
}

pub import_shows : (rows : List ImportRow) → Shows (Import rows)
unfolding import.change_of
import_shows rows = record {
  some = λ laws old well accepted.
      let added = sorted (λ (r : ImportRow). r.child.no) (import.new_rows old rows) (new_rows-addable old 1 rows accepted).apart in
      (import.change_of added.0, Imported (length added.0) (length rows - length added.0), (added.0, added.1, added.2, refl, refl));
  fits = λ old kept well law accepted change reply done. subst (Fit old) (sym done.3) (import-fit old rows done.0 well kept accepted done.1 done.2);
  again = λ old new change reply well first done is passes more second next.
      let now = is ∙ ap (after old) done.3 in
      let kept = subst (λ s. AllByRecursion (IsKept s) rows) (sym now) (rows_kept old rows done.0 (imports_known old well) first done.1 done.2) in
      ap (after new) (next.3 ∙ ap import.change_of (none_added new rows next.0 kept next.1));
  one_change = λ law old one other first second x y.
      let key = λ (r : ImportRow). r.child.no in
      let permuted = IsPermutation-trans x.0 (import.new_rows old rows) y.0 (IsPermutation-sym (import.new_rows old rows) x.0 x.1) y.1 in
      x.3 ∙ ap import.change_of (one_order nat_cmp_total key x.0 y.0 permuted x.2 y.2) ∙ sym y.3;
  one_reply = λ law old one other first second x y.
      let key = λ (r : ImportRow). r.child.no in
      let permuted = IsPermutation-trans x.0 (import.new_rows old rows) y.0 (IsPermutation-sym (import.new_rows old rows) x.0 x.1) y.1 in
      x.4 ∙ ap (λ (added : List ImportRow). Imported (length added) (length rows - length added)) (one_order nat_cmp_total key x.0 y.0 permuted x.2 y.2) ∙ sym y.4;
  draws = λ old new change reply ordered accepted done is. unchanged old new change (ap (λ (c : Difference). c.draws) done.3) is ordered;
  imports = λ old new change reply known accepted done is.
      stay_beside old new (import.change_of done.0) (is ∙ ap (after old) done.3) known (each_new old rows done.0 known accepted done.1)
      (there_each nat_cmp_total (λ (c : Child). c.no) (λ (r : ImportRow). r.child) old.children done.0);
}
