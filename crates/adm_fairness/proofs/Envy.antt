-- No command makes a child envy another, but those that may cause it.
use Rattle.std.proofs.Common.{◌≡◌, ◌∙◌, ap, sym, subst, refl, ℕ, Bool, true, false, [], ◌∷◌, inl, inr}
use Rattle.std.specs.Prelude.{◌⊎◌}
use Rattle.std.proofs.lemmas.Bool.{false≢true}
use Rattle.adm_types.specs.declared.commands.Command.{Command}
use Rattle.adm_types.specs.declared.commands.Command.TheVariants as command
use Rattle.adm_match.specs.Market.{Code}
use Rattle.adm_round.specs.Outcomes.{AllotmentFits}
use Rattle.adm_register.specs.State.{State}
use Rattle.adm_register.specs.Waits.{is_waiting}
use Rattle.adm_register.specs.Change.{after}
use Rattle.adm_register.specs.WellFormed.{WellFormed}
use Rattle.adm_register.proofs.Fits.{after-keeps}
use Rattle.adm_commands.specs.Commands.{KeptByTypes}
use Rattle.adm_commands.specs.Steps.{Accepts}
use Rattle.adm_commands.proofs.EachCommand.{shows}
use Rattle.adm_commands.proofs.Shows.{no_row}
use Rattle.adm_fairness.specs.Rounds.{has_place_at}
use Rattle.adm_fairness.specs.Code.{is_ahead_at}
use Rattle.adm_fairness.specs.Season.{Envies, MayCauseEnvy, NoNewEnvy, EnvyHasCause}
use Rattle.adm_fairness.proofs.Fills.{is_fill}
use Rattle.adm_fairness.proofs.EnvyRows.{add_school_case, raise_case, add_child_case, amend_case, apply_case, accept_case, remind_case, end_case, leave_case, plan_case}
use Rattle.adm_fairness.proofs.EnvyDraws.{fill_case, round_case, import_case}

module _ (law : AllotmentFits) (old new : State) (child other : ℕ) (code : Code) (well : WellFormed old) where
  abbrev Caused : Command → Type 0
  Caused asked = Envies old child other code ⊎ MayCauseEnvy old child other asked

  pub no_new_envy_at : (asked : Command) → Accepts old asked new → Envies new child other code → Caused asked
  no_new_envy_at (command.AddSchool school) accepts e =
      let effect = accepts.1.1 in
      inl (add_school_case old well child other code school (no_row _ accepts.1.0) (subst (λ s. Envies s child other code) (effect.2 ∙ ap (after old) effect.1.0) e))
  no_new_envy_at (command.RaisePan school pan) accepts e =
      let effect = accepts.1.1 in
      inl (raise_case old well child other code school pan (no_row _ accepts.1.0) (subst (λ s. Envies s child other code) (effect.2 ∙ ap (after old) effect.1.0) e))
  no_new_envy_at (command.AddChild row) accepts e =
      let effect = accepts.1.1 in
      inl (add_child_case old well child other code row (no_row _ accepts.1.0) (subst (λ s. Envies s child other code) (effect.2 ∙ ap (after old) effect.1.0) e))
  no_new_envy_at (command.Amend row) accepts e =
      let effect = accepts.1.1 in
      amend_case old well child other code row (subst (λ s. Envies s child other code) (effect.2 ∙ ap (after old) effect.1.0) e)
  no_new_envy_at (command.NamePlan number school) accepts e =
      let effect = accepts.1.1 in
      inl (plan_case old well child other code number school (subst (λ s. Envies s child other code) (effect.2 ∙ ap (after old) effect.1.0) e))
  no_new_envy_at (command.Apply application) accepts e =
      let effect = accepts.1.1 in
      apply_case old well child other code application (subst (λ s. Envies s child other code) (effect.2 ∙ ap (after old) effect.1.0) e)
  no_new_envy_at (command.Round draw day lots) accepts e = round_case old well child other code law new draw day lots accepts e
  no_new_envy_at (command.Accept number school) accepts e =
      let effect = accepts.1.1 in
      inl (accept_case old well child other code number school (no_row _ accepts.1.0) (subst (λ s. Envies s child other code) (effect.2 ∙ ap (after old) effect.1.0) e))
  no_new_envy_at (command.Decline number school) accepts e =
      let effect = accepts.1.1 in
      end_case old well child other code number school (subst (λ s. Envies s child other code) (effect.2 ∙ ap (after old) effect.1.0) e)
  no_new_envy_at (command.Remind number school day) accepts e =
      let effect = accepts.1.1 in
      inl (remind_case old well child other code number school day (no_row _ accepts.1.0) (subst (λ s. Envies s child other code) (effect.2 ∙ ap (after old) effect.1.0) e))
  no_new_envy_at (command.Lapse number school day) accepts e =
      let effect = accepts.1.1 in
      end_case old well child other code number school (subst (λ s. Envies s child other code) (effect.2 ∙ ap (after old) effect.1.0) e)
  no_new_envy_at (command.LeaveList number school) accepts e =
      let effect = accepts.1.1 in
      inl (leave_case old well child other code number school (subst (λ s. Envies s child other code) (effect.2 ∙ ap (after old) effect.1.0) e))
  no_new_envy_at (command.Fill draw school day lots) accepts e =
      let it = is_fill old new draw school day lots accepts in
      inl (fill_case old well child other code new draw school day lots it (subst (λ s. Envies s child other code) it.now e))
  no_new_envy_at (command.Import rows) accepts e =
      let effect = accepts.1.1 in
      let done = effect.1 in
      import_case old well child other code rows done.0 accepts.1.0 done.1 (subst (λ s. Envies s child other code) (effect.2 ∙ ap (after old) done.3) e)

pub no_new_envy_law : AllotmentFits → NoNewEnvy
no_new_envy_law law old new asked child other code well accepts e = no_new_envy_at law old new child other code well asked accepts e

-- ---- several commands

pub kept_well : AllotmentFits → (old new : State) (asked : Command) → KeptByTypes asked → WellFormed old → Accepts old asked new → WellFormed new
kept_well law old new asked kept well accepts =
    let effect = accepts.1.1 in
    subst WellFormed (sym effect.2) (after-keeps old effect.0 well ((shows asked).fits old kept well law accepts.1.0 effect.0 accepts.0 effect.1))

-- whether a child envies another is decided by three tests
decided : (s : State) (child other : ℕ) (code : Code) → Envies s child other code ⊎ (Envies s child other code → ⊥)
decided s child other code = by (is_waiting s child code) (has_place_at s code other) (is_ahead_at s code child other) refl refl refl
  where
    by : (w h a : Bool) → is_waiting s child code ≡ w → has_place_at s code other ≡ h → is_ahead_at s code child other ≡ a
        → Envies s child other code ⊎ (Envies s child other code → ⊥)
    by true true true w h a = inl (record { waits = w; held = h; ahead = a })
    by true true false w h a = inr (λ e. false≢true (sym a ∙ e.ahead))
    by true false a w h is = inr (λ e. false≢true (sym h ∙ e.held))
    by false h a w held is = inr (λ e. false≢true (sym w ∙ e.waits))

caused : (s : State) (child other : ℕ) (code : Code) (asked : Command) → (Envies s child other code → ⊥) → Envies s child other code ⊎ MayCauseEnvy s child other asked
    → MayCauseEnvy s child other asked
caused s child other code asked none (inl first) = absurd (none first)
caused s child other code asked none (inr causes) = causes

pub envy_has_cause_law : AllotmentFits → EnvyHasCause
envy_has_cause_law law old new [] child other code well kept reaches e = inl (subst (λ s. Envies s child other code) reaches e)
envy_has_cause_law law old new (asked ∷ commands) child other code well kept reaches e =
    let mid = reaches.0 in
    elim (envy_has_cause_law law mid new commands child other code (kept_well law old mid asked kept.0 well reaches.1) kept.1 reaches.2 e) [
      | inl before ↦ elim (decided old child other code) [
        | inl first ↦ inl first
        | inr none ↦ inr (record {
          before = [];
          command = asked;
          later = commands;
          are = refl;
          mid = old;
          reached = refl;
          next = mid;
          accepted = reaches.1;
          not_yet = none;
          begins = before;
          causes = caused old child other code asked none (no_new_envy_at law old mid child other code well asked reaches.1 before);
        })
      ]
      | inr later ↦ inr (record {
        before = asked ∷ later.before;
        command = later.command;
        later = later.later;
        are = ap (λ cs. asked ∷ cs) later.are;
        mid = later.mid;
        reached = (mid, reaches.1, later.reached);
        next = later.next;
        accepted = later.accepted;
        not_yet = later.not_yet;
        begins = later.begins;
        causes = later.causes;
      })
    ]
