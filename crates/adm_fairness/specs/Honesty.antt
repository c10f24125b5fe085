-- What an application does before a round: another one does not help its child, and none helps another child.
-- Roth 1982; Dubins and Freedman 1981; Gale and Shapley 1962.
use Rattle.std.specs.Prelude.{◌≡◌, ◌<◌, ◌≤◌, ◌==◌, ℕ, Bool, true, List, length, map, None, All, Any}
use Rattle.std.specs.List.{AllZip, AllByRecursion, list_any}
use Rattle.adm_types.specs.Limits.{is_listed}
use Rattle.adm_types.specs.declared.rows.Application.{Application}
use Rattle.adm_types.specs.declared.draws.Lot.{Lot}
use Rattle.adm_types.specs.declared.draws.Outcome.{Outcome}
use Rattle.adm_types.specs.declared.commands.Command.TheVariants.{Apply, Decline}
use Rattle.adm_match.specs.Market.{Code, assigned_rank}
use Rattle.adm_match_laws.specs.Generous.{IsNoWorse}
use Rattle.adm_round.specs.Round.{number_of, listed}
use Rattle.adm_round.specs.Ranks.{lot_at}
use Rattle.adm_register.specs.State.{State}
use Rattle.adm_register.specs.WellFormed.{WellFormed}
use Rattle.adm_commands.specs.Commands.{KeptByTypes}
use Rattle.adm_commands.specs.Commands.Round.{takes_part, round_applicants, round_lots, round_market, AreOutcomes}
use Rattle.adm_commands.specs.Imports.{Reaches}
use Rattle.adm_commands.specs.Problem.{lots_fault}
use Rattle.adm_commands.specs.Steps.{Accepts}

-- each child that takes part in the next round of both registers has by the second lots the same lot as by the first, at each school
-- that it lists in both
abbrev pub KeepsCommonLots : State → State → List Lot → List Lot → Type 0
KeepsCommonLots one other first second =
    All (λ x. All (λ y. number_of y ≡ number_of x
    → (code : Code) → is_listed (listed x) code ≡ true → is_listed (listed y) code ≡ true
    → lot_at second code (number_of x) ≡ lot_at first code (number_of x)) (round_applicants other)) (round_applicants one)

-- No other application helps a child: of the one that it truly means and any other that it may hand in, of any schools in any order, by
-- which it takes part too, the other does not give it in the round a school that is before the one that the true one gives it, on the
-- true list, where all lots are the same. A school off the true list counts as none.
abbrev pub NoApplicationHelps : Type 0
NoApplicationHelps =
    (old honest stated : State) (one other : Application) (numbers drawn : List ℕ) (before after : List Outcome)
    (first : AreOutcomes honest numbers before) (second : AreOutcomes stated drawn after)
    → WellFormed old → KeptByTypes (Apply one) → KeptByTypes (Apply other) → other.child ≡ one.child
    → Accepts old (Apply one) honest → Accepts old (Apply other) stated
    → takes_part old one ≡ true → takes_part old other ≡ true
    → lots_fault honest numbers ≡ None → lots_fault stated drawn ≡ None
    → KeepsCommonLots honest stated (round_lots honest numbers) (round_lots stated drawn)
    → All (λ entrant. entrant.child ≡ one.child → assigned_rank entrant.list (first.allocation one.child) ≤ assigned_rank entrant.list (second.allocation one.child)) (round_market honest numbers).entrants

-- whether one of the applications is that of the child
abbrev pub is_of_some : List Application → ℕ → Bool
is_of_some applications child = list_any (λ application. application.child == child) applications

-- Nor do other applications help a group: of the ones that its children truly mean and any others that they may hand in, by which they
-- all take part too, the others do not give each of them in the round a school that is before the one that the true ones give it, on its
-- true list, where all lots are the same. (Dubins and Freedman 1981.)
abbrev pub NoApplicationsHelp : Type 0
NoApplicationsHelp =
    (old honest stated : State) (ones others : List Application) (numbers drawn : List ℕ) (before after : List Outcome)
    (first : AreOutcomes honest numbers before) (second : AreOutcomes stated drawn after)
    → WellFormed old → AllByRecursion KeptByTypes (map Apply ones) → AllByRecursion KeptByTypes (map Apply others)
    → AllZip (λ one other. other.child ≡ one.child) ones others
    → Reaches old (map Apply ones) honest → Reaches old (map Apply others) stated
    → All (λ one. takes_part old one ≡ true) ones → All (λ other. takes_part old other ≡ true) others
    → lots_fault honest numbers ≡ None → lots_fault stated drawn ≡ None
    → KeepsCommonLots honest stated (round_lots honest numbers) (round_lots stated drawn) → 0 < length ones
    → Any (λ entrant. (is_of_some ones entrant.child ≡ true) × (assigned_rank entrant.list (first.allocation entrant.child) ≤ assigned_rank entrant.list (second.allocation entrant.child))) (round_market honest numbers).entrants

-- No other child gains by an application: where a child applies, the next round gives each other child that takes part no school that is
-- before the one that it would have had without it, where all lots are the same. (Gale and Shapley 1962: fewer rivals never hurt.)
abbrev pub NoLossByNotApplying : Type 0
NoLossByNotApplying =
    (old new : State) (application : Application) (numbers drawn : List ℕ) (before after : List Outcome)
    (first : AreOutcomes old numbers before) (second : AreOutcomes new drawn after)
    → WellFormed old → KeptByTypes (Apply application) → Accepts old (Apply application) new
    → lots_fault old numbers ≡ None → lots_fault new drawn ≡ None
    → KeepsCommonLots old new (round_lots old numbers) (round_lots new drawn)
    → IsNoWorse (round_market old numbers).entrants first.allocation second.allocation

-- A child gains nothing in the next round by declining its place: what the round gives it then is not before what the round gives it
-- where it keeps the place, on the list of the schools that it wants above the place and then the place, where all lots are the same.
abbrev pub NoGainByDeclining : Type 0
NoGainByDeclining =
    (old new : State) (child : ℕ) (code : Code) (numbers drawn : List ℕ) (before after : List Outcome)
    (first : AreOutcomes old numbers before) (second : AreOutcomes new drawn after)
    → WellFormed old → Accepts old (Decline child code) new
    → lots_fault old numbers ≡ None → lots_fault new drawn ≡ None
    → KeepsCommonLots old new (round_lots old numbers) (round_lots new drawn)
    → All (λ entrant. entrant.child ≡ child → assigned_rank entrant.list (first.allocation child) ≤ assigned_rank entrant.list (second.allocation child)) (round_market old numbers).entrants
