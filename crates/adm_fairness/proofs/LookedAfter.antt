-- A looked-after child is passed over only for looked-after children.
use Rattle.std.proofs.Common.{◌≡◌, ◌∙◌, ap, sym, true, ℕ, List, inl, inr}
use Rattle.adm_types.specs.declared.commands.Command.TheVariants.{Fill}
use Rattle.adm_match.specs.Market.{Code}
use Rattle.adm_register.specs.State.{State}
use Rattle.adm_register.specs.WellFormed.{WellFormed, is_unplanned_at}
use Rattle.adm_register.specs.Waits.{is_waiting}
use Rattle.adm_register.proofs.WaitLemmas.{waiter_is}
use Rattle.adm_commands.specs.Commands.Round.{round_lots}
use Rattle.adm_commands.specs.Steps.{Accepts}
use Rattle.adm_fairness.specs.Rounds.{RoundIsFair}
use Rattle.adm_fairness.specs.Code.{is_looked_after, OnlyForLookedAfter, LookedAfterFirst}
use Rattle.adm_fairness.proofs.Ranks.{looked_after_is, looked_after_before, looked_after_ranked}
use Rattle.adm_fairness.proofs.Waiters.{waiter_there}
use Rattle.adm_fairness.proofs.Fills.{same_or_other, is_fill, filled_other}

in_fill : (old new : State) (draw : ℕ) (code : Code) (day : ℕ) (numbers : List ℕ) (child : ℕ) → WellFormed old → Accepts old (Fill draw code day numbers) new
    → is_waiting old child code ≡ true → is_looked_after old child ≡ true → OnlyForLookedAfter old new code
in_fill old new draw code day numbers child well accepts waiting looked other held =
    let it = is_fill old new draw code day numbers accepts in
    elim (same_or_other other it.child) [
      | inr apart ↦ inl (ap (λ p. is_unplanned_at p code) (sym (filled_other old new draw code day numbers it other apart)) ∙ held)
      | inl filled ↦
          let row = waiter_there old well code child waiting in
          let first = it.first in
          let looked_row = sym (looked_after_is old child row.0 row.3) ∙ looked in
          elim (first.before row.0 row.1) [
            | inl same ↦ inr (ap (is_looked_after old) (filled ∙ (sym same ∙ row.2)) ∙ looked)
            | inr less ↦
                let there = (waiter_is old well code first.first first.among).there in
                inr (ap (is_looked_after old) (filled ∙ sym first.numbered) ∙ (looked_after_is old first.first.no first.first there
                ∙ looked_after_before it.school first.first row.0 less.0 less.1 less.2 looked_row))
          ]
    ]

pub looked_after_first_law : RoundIsFair → LookedAfterFirst
looked_after_first_law fair = record {
  rounds = λ old new draw day numbers application code well accepts applied part looked wanted other held.
      elim ((fair old new draw day numbers application code well accepts applied part wanted).others other held) [
        | inl before ↦ inl before
        | inr first ↦ inr (looked_after_ranked old (round_lots old numbers) code other application.child first looked)
      ];
  fills = in_fill;
}
