-- An application for fewer schools, on a register where the child has none: it leaves the register of the whole one, cut.
use Rattle.std.proofs.Common.{◌≡◌, ◌∙◌, ap, sym, subst, refl, cond, true, false, ℕ, Some, None}
use Rattle.std.specs.Prelude.{not}
use Rattle.std.specs.Cmp.{nat_cmp_total}
use Rattle.std.specs.Ordering.{nat_cmp, eq_by_cmp}
use Rattle.std.specs.FinMap.{FinMap, get, insert, get-insert, same_map, nat_cmp-IsAntisymmetric}
use Rattle.std.proofs.lemmas.Bool.{not-true}
use Rattle.adm_lists.proofs.Options.{none_of}
use Rattle.adm_types.specs.declared.rows.Application.{Application}
use Rattle.adm_types.specs.declared.commands.Command.TheVariants.{Apply}
use Rattle.adm_match.specs.Stability.{IsBest}
use Rattle.adm_match_laws.specs.Generous.{IsNoWorse}
use Rattle.adm_round.specs.Outcomes.{AllotmentFits, outcomes_of}
use Rattle.adm_register.specs.State.{State}
use Rattle.adm_register.specs.Change.{after}
use Rattle.adm_register.specs.WellFormed.{WellFormed}
use Rattle.adm_commands.specs.Commands.Apply as apply
use Rattle.adm_commands.specs.Commands.Round.{round_applicants, round_lots, round_market, AreOutcomes}
use Rattle.adm_commands.specs.Problem.{lots_fault}
use Rattle.adm_commands.specs.Steps.{Accepts}
use Rattle.adm_commands.proofs.Accepted.{no_place}
use Rattle.adm_types.specs.declared.commands.Refusal.TheVariants as refusal
use Rattle.adm_commands.proofs.Passed.{passed}
use Rattle.adm_commands.proofs.PutAgain.{get-insert_same}
use Rattle.adm_commands.proofs.Shows.{no_row}
use Rattle.adm_fairness.specs.ShorterLists.{first_listed, with_application, KeepsLots, NoLossByShorterList, NoLossByShorterApplication}
use Rattle.adm_fairness.proofs.Envy.{kept_well}

-- an accepted application is written, and nothing else changes
application_put : (old new : State) (application : Application) → Accepts old (Apply application) new → new ≡ with_application old application
unfolding apply.change_of
application_put old new application accepts = accepts.1.1.2 ∙ ap (after old) accepts.1.1.1.0

-- a child that may apply has no place
no_place_yet : (old new : State) (application : Application) → WellFormed old → Accepts old (Apply application) new → get old.places application.child ≡ None
unfolding apply.tests
no_place_yet old new application well accepts =
    let pass = passed (apply.tests old application) (no_row _ accepts.1.0) in
    none_of (get old.places application.child) (ap not (no_place old application.child well (not-true _ (pass refusal.HasPlan)) (not-true _ (pass refusal.AlreadyApplied))))

-- of two applications of a child that are written, the second takes the place of the first
put_over : (rows : FinMap nat_cmp Application) (child : ℕ) (one other : Application) → insert (insert rows child one) child other ≡ insert rows child other
put_over rows child one other = same_map nat_cmp_total nat_cmp-IsAntisymmetric _ _ (λ q.
    get-insert nat_cmp_total (insert rows child one) child other q ∙ ap (cond (eq_by_cmp nat_cmp q child) (Some other)) (get-insert nat_cmp_total rows child one q)
    ∙ elim (eq_by_cmp nat_cmp q child) as (λ b. cond b (Some other) (cond b (Some one) (get rows q)) ≡ cond b (Some other) (get rows q)) [ true ↦ refl | false ↦ refl ]
    ∙ sym (get-insert nat_cmp_total rows child other q))

pub no_loss_by_shorter_application_law : NoLossByShorterList → AllotmentFits → NoLossByShorterApplication
no_loss_by_shorter_application_law law fits old whole short application count numbers drawn before after' first second well kept accepts accepts_cut none keeps =
    let cut : Application = first_listed count application in
    let whole_is : whole ≡ with_application old application = application_put old whole application accepts in
    let over : with_application whole cut ≡ with_application old cut
    = ap (λ (s : State). with_application s cut) whole_is ∙ ap (λ rows. record old { applications = rows }) (put_over old.applications application.child application cut) in
    let short_is : short ≡ with_application whole cut = application_put old short cut accepts_cut ∙ sym over in
    let there : get whole.applications application.child ≡ Some application
    = ap (λ (s : State). get s.applications application.child) whole_is ∙ get-insert_same nat_cmp_total old.applications application.child application in
    let free : get whole.places application.child ≡ None
    = ap (λ (s : State). get s.places application.child) whole_is ∙ no_place_yet old whole application well accepts in
    let given : AreOutcomes (with_application whole cut) drawn (outcomes_of second.allocation (round_applicants (with_application whole cut))) = record {
      allocation = second.allocation;
      best = subst (λ s. IsBest (round_market s drawn) second.allocation) short_is second.best;
      given = refl;
    } in
    subst (λ s. IsNoWorse (round_market s drawn).entrants second.allocation first.allocation) (sym short_is)
    (law whole application count numbers drawn before (outcomes_of second.allocation (round_applicants (with_application whole cut))) first given there free
    (subst WellFormed short_is (kept_well fits old short (Apply cut) kept well accepts_cut)) (sym (ap (λ s. lots_fault s drawn) short_is) ∙ none)
    (subst (λ s. KeepsLots s (round_lots whole numbers) (round_lots s drawn)) short_is keeps))
