-- A list that ends earlier before a round leaves no child worse off in it (Gale and Shapley 1962; the register is this profile's).
use Rattle.std.specs.Prelude.{◌≡◌, ℕ, List, None, Some, All, take}
use Rattle.std.specs.FinMap.{get, insert}
use Rattle.adm_types.specs.declared.rows.Application.{Application}
use Rattle.adm_types.specs.declared.commands.Command.TheVariants.{Apply}
use Rattle.adm_types.specs.declared.draws.Outcome.{Outcome}
use Rattle.adm_types.specs.declared.draws.Lot.{Lot}
use Rattle.adm_match_laws.specs.Generous.{IsNoWorse}
use Rattle.adm_round.specs.Round.{number_of, listed}
use Rattle.adm_round.specs.Ranks.{lot_at}
use Rattle.adm_register.specs.State.{State}
use Rattle.adm_register.specs.WellFormed.{WellFormed}
use Rattle.adm_commands.specs.Commands.{KeptByTypes}
use Rattle.adm_commands.specs.Problem.{lots_fault}
use Rattle.adm_commands.specs.Commands.Round.{round_applicants, round_lots, round_market, AreOutcomes}
use Rattle.adm_commands.specs.Steps.{Accepts}

-- the application with the first schools of its list alone
abbrev pub first_listed : ℕ → Application → Application
first_listed count application = record application { list = take count application.list }

-- the register with this application in place of that of the same child
abbrev pub with_application : State → Application → State
with_application s application = record s { applications = insert s.applications application.child application }

-- each who takes part has at each school of its list the same lot by the second lots as by the first, or none by both
abbrev pub KeepsLots : State → List Lot → List Lot → Type 0
KeepsLots s first second =
    All (λ applicant. All (λ code. lot_at second code (number_of applicant) ≡ lot_at first code (number_of applicant)) (listed applicant)) (round_applicants s)

-- A list that ends earlier leaves no child worse off in the round: where a child without a place lists only the first schools
-- of its application, and each child that takes part keeps its lots, the outcomes give each entrant what it would have had, or
-- a school that it wants more, and the child itself too where it still lists what it had.
abbrev pub NoLossByShorterList : Type 0
NoLossByShorterList =
    (old : State) (application : Application) (count : ℕ) (numbers drawn : List ℕ) (before after : List Outcome)
    (first : AreOutcomes old numbers before) (second : AreOutcomes (with_application old (first_listed count application)) drawn after)
    → get old.applications application.child ≡ Some application → get old.places application.child ≡ None
    → WellFormed (with_application old (first_listed count application))
    → lots_fault (with_application old (first_listed count application)) drawn ≡ None
    → KeepsLots (with_application old (first_listed count application)) (round_lots old numbers) (round_lots (with_application old (first_listed count application)) drawn)
    → IsNoWorse (round_market (with_application old (first_listed count application)) drawn).entrants second.allocation first.allocation

-- Nor does an application for fewer schools: of one that a child may hand in, and of one for the first of its schools alone, the outcomes
-- by the second give each entrant what those by the first give it, or a school that it wants more, and the child itself too where it still
-- lists what it had, where each child that takes part keeps its lots.
abbrev pub NoLossByShorterApplication : Type 0
NoLossByShorterApplication =
    (old whole short : State) (application : Application) (count : ℕ) (numbers drawn : List ℕ) (before after : List Outcome)
    (first : AreOutcomes whole numbers before) (second : AreOutcomes short drawn after)
    → WellFormed old → KeptByTypes (Apply application)
    → Accepts old (Apply application) whole → Accepts old (Apply (first_listed count application)) short
    → lots_fault short drawn ≡ None
    → KeepsLots short (round_lots whole numbers) (round_lots short drawn)
    → IsNoWorse (round_market short drawn).entrants second.allocation first.allocation
