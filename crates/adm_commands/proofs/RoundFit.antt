-- What a round changes fits the register.
use Rattle.std.proofs.Common.{◌≡◌, refl, true, ℕ, ◌+◌, List, None}
use Rattle.std.specs.Prelude.{◌&&◌}
use Rattle.std.specs.Cmp.{unsigned_Decides}
use Rattle.std.specs.List.Sorted.{IsStrictlySortedBy}
use Rattle.std.specs.FinMap.{insert}
use Rattle.adm_types.specs.declared.draws.Draw.{Draw}
use Rattle.adm_types.specs.declared.draws.Outcome.{Outcome}
use Rattle.adm_round.specs.Round.{IsPosed}
use Rattle.adm_round.specs.Outcomes.{AllotmentFits}
use Rattle.adm_register.specs.State.{State}
use Rattle.adm_commands.specs.KeptByTypes.{KeptByRound}
use Rattle.adm_types.specs.declared.commands.Refusal.TheVariants as refusal
use Rattle.adm_commands.proofs.Passed.{passed}
use Rattle.adm_commands.specs.Commands.Round.{round_applicants, sites, round_lots, AreOutcomes}
use Rattle.adm_register.specs.Draws.{draws_so_far}
use Rattle.adm_commands.specs.Commands.Round as round
use Rattle.adm_commands.specs.Tests.{first_failing}
use Rattle.adm_register.specs.WellFormed.{WellFormed, has_first_round}
use Rattle.adm_register.specs.Fits.{Fit}
use Rattle.adm_register.proofs.Tidy.{tidy_none, tidy_put}
use Rattle.adm_commands.proofs.RoundOffers.{IsRound, offers_fit, offers_apart, offers_rise}
use Rattle.adm_commands.proofs.RoundRoom.{room_after}
use Rattle.adm_commands.proofs.RoundDraw.{round_draw, round_after, draw_fits, draw_next}

pub round-fit : (old : State) (draw day : ℕ) (numbers : List ℕ) (outcomes : List Outcome) → WellFormed old → KeptByRound day numbers → first_failing (round.tests old draw day numbers) ≡ None
    → AllotmentFits → IsPosed (sites old) (round_applicants old) (round_lots old numbers) → AreOutcomes old numbers outcomes → Fit old (round.change_of old draw day numbers outcomes)
unfolding round.tests round.change_of IsStrictlySortedBy
round-fit old draw day numbers outcomes well kept passes law posed best =
    let pass = passed (round.tests old draw day numbers) passes in
    let it : Draw = round_draw old draw day numbers outcomes in
    let number : draw ≡ (draws_so_far old).draws + 1 = (unsigned_Decides draw ((draws_so_far old).draws + 1)).0 (pass refusal.WrongDraw) in
    let held : has_first_round (insert old.draws draw it) ≡ true = round_after old it well number in
    let facts : IsRound old numbers outcomes = record { well = well; posed = posed; best = best; law = law } in
    let next = draw_next facts draw day kept number (pass refusal.ListClosed) (pass refusal.TooSoon) ((unsigned_Decides _ _).0 (pass refusal.LotCount)) (pass refusal.RegisterFull) in
    record {
      base = record { schools = tt; kept_schools = tt; few_schools = tt; children = tt; few_children = tt; applications = tt };
      places = record {
        places = offers_fit facts day (has_first_round (insert old.draws draw it)) kept.is_day held;
        kept = λ child row there still. refl;
        room = room_after facts day;
      };
      left = record { left = tt; places = offers_apart facts day };
      draws = record { each = (draw_fits facts draw day kept (pass refusal.LotsRepeated), tt); in_order = λ i. next i && true };
      imported = record { each = tt; new_rows = tt };
      tidy = record {
        schools = tidy_none _ _;
        children = tidy_none _ _;
        applications = tidy_none _ _;
        places = record { put_sorted = offers_rise facts day; cut_sorted = tt; apart = tt };
        left = tidy_none _ _;
        draws = tidy_put _ _ it;
        imported = tidy_none _ _;
      };
    }
