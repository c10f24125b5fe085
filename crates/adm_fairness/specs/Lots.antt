-- Which lots decide alike: those of the same order within equal class and distance, whatever their numbers (this profile).
use Rattle.std.specs.Prelude.{◌≡◌, ◌&&◌, not, ℕ, Bool, true, false, nat_lt, List, Some, None, All}
use Rattle.std.specs.FinMap.{get}
use Rattle.adm_types.specs.declared.rows.Application.{Application}
use Rattle.adm_types.specs.declared.draws.Lot.{Lot}
use Rattle.adm_types.specs.declared.draws.Outcome.{Outcome}
use Rattle.adm_types.specs.declared.commands.Command.TheVariants.{Round}
use Rattle.adm_types.specs.Limits.{is_listed}
use Rattle.adm_match.specs.Market.{Code}
use Rattle.adm_round.specs.Round.{number_of}
use Rattle.adm_round.specs.Ranks.{lot_at}
use Rattle.adm_register.specs.State.{State}
use Rattle.adm_register.specs.Wanted.{own_school}
use Rattle.adm_register.specs.WellFormed.{WellFormed}
use Rattle.adm_commands.specs.Commands.{KeptByTypes}
use Rattle.adm_commands.specs.Commands.Round.{takes_part, round_applicants, round_lots, AreOutcomes}
use Rattle.adm_commands.specs.Problem.{lots_fault}
use Rattle.adm_commands.specs.Steps.{Accepts}
use Rattle.adm_fairness.specs.Code.{is_ahead_at}

-- whether neither of two children is ahead of the other at a school, by class and distance, so that a lot alone can part them there
abbrev pub are_level : State → Code → ℕ → ℕ → Bool
are_level s code one other = not (is_ahead_at s code one other) && not (is_ahead_at s code other one)

-- The second lots are in the order of the first: of two children of the round that want a school and are level there, the one has the
-- smaller lot by the second just where it has by the first.
abbrev pub KeepsOrder : State → List Lot → List Lot → Type 0
KeepsOrder s first second =
    All (λ x. All (λ y. (code : Code) → is_listed x.wanted code ≡ true → is_listed y.wanted code ≡ true → are_level s code (number_of x) (number_of y) ≡ true
    → nat_lt (lot_at second code (number_of x)) (lot_at second code (number_of y)) ≡ nat_lt (lot_at first code (number_of x)) (lot_at first code (number_of y)))
    (round_applicants s)) (round_applicants s)

-- Lots decide by their order alone: a round by other lots of the same order has the same outcomes. So it has by any lots where no two
-- children are level at a school that both want.
abbrev pub SameOrderSamePlaces : Type 0
SameOrderSamePlaces =
    (s : State) (numbers drawn : List ℕ) (outcomes others : List Outcome)
    → WellFormed s → lots_fault s numbers ≡ None
    → AreOutcomes s numbers outcomes → AreOutcomes s drawn others
    → KeepsOrder s (round_lots s numbers) (round_lots s drawn)
    → others ≡ outcomes

-- A round that is held again by lots of the same order, with nothing changed, gives nothing new: where each application took part in the
-- first, each child has in the second the school that it has by then, or none.
abbrev pub SameLotsSamePlaces : Type 0
SameLotsSamePlaces =
    (old new : State) (draw day : ℕ) (numbers drawn : List ℕ) (outcomes : List Outcome)
    → WellFormed old → KeptByTypes (Round draw day numbers) → Accepts old (Round draw day numbers) new
    → ((application : Application) → get old.applications application.child ≡ Some application → takes_part old application ≡ true)
    → lots_fault new drawn ≡ None → AreOutcomes new drawn outcomes
    → KeepsOrder new (round_lots old numbers) (round_lots new drawn)
    → All (λ outcome. (outcome.school ≡ own_school (get new.places outcome.child)) × (outcome.fresh ≡ false)) outcomes
