-- What the rounds of a run leave: recorded outcomes stay, also after a crash.
use Rattle.std.proofs.Common.{◌≡◌, ◌∙◌, refl, ap, sym, subst, ℕ, ◌+◌, ◌≤◌, Bool, true, false, List, [], ◌∷◌, ◌++◌, arith}
use Rattle.std.specs.Prelude.{Option, Some, None}
use Rattle.std.specs.Cmp.{nat_cmp_total, unsigned_Decides}
use Rattle.std.specs.FinMap.{get, values, nat_cmp-IsAntisymmetric}
use Rattle.std.proofs.lemmas.Bool.{and_parts}
use Rattle.std.proofs.lemmas.Option.{none-some, same_Some}
use mathlib.Core.Logic.{inl, inr}
use Rattle.adm_lists.proofs.Members.{In}
use Rattle.adm_lists.proofs.Maps.{in_values}
use Rattle.adm_types.specs.Seasons.{SeasonFacts}
use Rattle.adm_types.specs.declared.commands.Refusal.{Refusal}
use Rattle.adm_types.specs.declared.draws.Draw.{Draw}
use Rattle.adm_types.specs.declared.commands.Command.{Command}
use Rattle.adm_types.specs.declared.commands.Command.TheVariants.{Round}
use Rattle.adm_register.specs.State.{State as Register}
use Rattle.adm_register.specs.Draws.{no_draws, count_draw, count_draws, draws_so_far, is_next, are_in_order}
use Rattle.adm_register.specs.declared.draws_so_far.DrawsSoFar.{DrawsSoFar}
use Rattle.adm_register.proofs.DrawLemmas.{next_number}
use Rattle.adm_commands.specs.Steps.{Accepts}
use Rattle.adm_commands.specs.Rules.{without_row}
use Rattle.adm_commands.specs.Tests.{first_failing}
use Rattle.adm_commands.specs.Commands.Round as round
use Rattle.adm_commands.specs.History.{DrawsInOrder, DrawsStay}
use Rattle.adm_command_laws.specs.History.{DrawsKept, RoundIsRecorded, RecordsRound}
use Rattle.sqlite.specs.State.{State as Disk}
use Rattle.adm_commands.specs.Imports.{Reaches}
use Rattle.adm_desk.specs.Acknowledged.{FindsAgain, LeavesAcknowledged}
use Rattle.adm_crashes.specs.Rounds.{EachRoundRecorded, RoundRecordedOrNot, RoundsAreRecorded, RoundsStay}

-- draws stay over accepted commands
pub stay : DrawsKept → (commands : List Command) (old new : Register) → DrawsInOrder old → Reaches old commands new → DrawsInOrder new × DrawsStay old new
stay law [] old new ordered run = subst (λ s. DrawsInOrder s × DrawsStay old s) (sym run) (ordered, λ number draw there. there)
stay law (command ∷ commands) old new ordered run =
    let one = law old run.0 command ordered run.1 in
    let rest = stay law commands run.0 new one.0 run.2 in
    (rest.0, λ number draw there. rest.1 number draw (one.1 number draw there))

module _ (law : DrawsKept) (held : RoundIsRecorded) (draw day : ℕ) (numbers : List ℕ) (later : List Command) (new : Register) where
  began : (before : List Command) (old : Register) → DrawsInOrder old → Reaches old (before ++ Round draw day numbers ∷ later) new
      → (mid : Register) × Reaches old before mid × RecordsRound mid draw day numbers new
  began [] old ordered run =
      let one = law old run.0 (Round draw day numbers) ordered run.1 in
      let rest = stay law later run.0 new one.0 run.2 in
      let first = held old run.0 draw day numbers run.1 in
      (old, refl, (first.0, first.1, rest.1 draw _ first.2))
  began (command ∷ before) old ordered run =
      let one = law old run.0 command ordered run.1 in
      let rest = began before run.0 one.0 run.2 in
      (rest.0, (run.0, run.1, rest.1), rest.2)

pub rounds_are_recorded_lem : DrawsKept → RoundIsRecorded → RoundsAreRecorded
rounds_are_recorded_lem law held old new commands ordered run = (
  λ before later draw day numbers is. began law held draw day numbers later new before old ordered (subst (λ cs. Reaches old cs new) is run),
  (stay law commands old new ordered run).0,
)

pub rounds_stay_lem : DrawsKept → RoundsStay
rounds_stay_lem law old mid new commands command ordered held step before later draw day numbers is =
    let was = held before later draw day numbers is in
    let one = law mid new command ordered step in
    (was.0, was.1, (was.2.0, was.2.1, one.1 draw _ was.2.2))

-- the register that is found again holds them too
pub found_rounds : RoundsAreRecorded → RoundsStay → (old kept found : Register) (commands : List Command) (work : Option Command) → DrawsInOrder old → Reaches old commands kept → FindsAgain kept work found
    → EachRoundRecorded old commands found
found_rounds law more old kept found commands None ordered run finds = subst (EachRoundRecorded old commands) (sym finds) (law old kept commands ordered run).0
found_rounds law more old kept found commands (Some command) ordered run finds =
    let first = law old kept commands ordered run in
    elim finds [
      | inl same ↦ subst (EachRoundRecorded old commands) (sym same) first.0
      | inr step ↦ more old kept found commands command first.1 first.0 step
    ]

-- ---- the round in flight

more_draws : (before : DrawsSoFar) (draws : List Draw) → before.draws ≤ (count_draws before draws).draws
more_draws before [] = omega arith
more_draws before (draw ∷ draws) = let rest = more_draws (count_draw before draw) draws in omega (arith, rest)

-- draws in their order are numbered up to their count
number_within : (season : SeasonFacts) (before : DrawsSoFar) (draws : List Draw) (draw : Draw) → are_in_order season before draws ≡ true → In draw draws → draw.number ≤ (count_draws before draws).draws
number_within season before [] draw in_order at = absurd at
number_within season before (first ∷ draws) draw in_order at =
    let both = and_parts (is_next season before first) _ in_order in
    elim at [
      | inl same ↦
          let number = ap (λ (d : Draw). d.number) (sym same) ∙ next_number season before first both.0 in
          let more = more_draws (count_draw before first) draws in
          omega (arith, number, more)
      | inr later ↦ number_within season (count_draw before first) draws draw both.1 later
    ]

-- so the next number is free
next_is_free : (s : Register) (number : ℕ) → DrawsInOrder s → number ≡ (draws_so_far s).draws + 1 → get s.draws number ≡ None
next_is_free s number ordered next =
    elim (get s.draws number) as (λ o. get s.draws number ≡ o → o ≡ None) [
      | None ↦ λ none. refl
      | Some draw ↦ λ there.
          let within = number_within s.season no_draws (values s.draws) draw ordered.in_order (in_values nat_cmp_total nat_cmp-IsAntisymmetric s.draws number draw there) in
          let own = ordered.own number draw there in
          absurd (omega (arith, within, own, next))
    ] refl

abbrev FirstPasses : List (Bool × Refusal) → Type 0
FirstPasses [] = Unit {0}
FirstPasses (test ∷ tests) = test.0 ≡ true

first_passes : (tests : List (Bool × Refusal)) → without_row (first_failing tests) ≡ None → FirstPasses tests
first_passes [] passes = tt
first_passes ((true, refusal) ∷ tests) passes = refl
first_passes ((false, refusal) ∷ tests) passes = cc

-- an accepted round has the next number
round_number : (old new : Register) (draw day : ℕ) (numbers : List ℕ) → Accepts old (Round draw day numbers) new → draw ≡ (draws_so_far old).draws + 1
unfolding round.tests
round_number old new draw day numbers step = (unsigned_Decides draw ((draws_so_far old).draws + 1)).0 (first_passes (round.tests old draw day numbers) step.1.0)

-- with the round in flight the register has no draw of its number, or the whole round
pub held_or_not : RoundIsRecorded → (kept found : Register) (work : Option Command) (disk : Disk) → DrawsInOrder kept → LeavesAcknowledged kept work disk → FindsAgain kept work found
    → RoundRecordedOrNot kept work found
held_or_not law kept found None disk ordered left finds draw day numbers is = absurd (none-some _ is)
held_or_not law kept found (Some command) disk ordered left finds draw day numbers is =
    let same = same_Some command (Round draw day numbers) is in
    elim finds [
      | inl stays ↦
          let number = round_number kept left.next draw day numbers (subst (λ (c : Command). Accepts kept c left.next) same left.accepted) in
          inl (stays, ap (λ (s : Register). get s.draws draw) stays ∙ next_is_free kept draw ordered number)
      | inr step ↦ inr (law kept found draw day numbers (subst (λ (c : Command). Accepts kept c found) same step))
    ]
