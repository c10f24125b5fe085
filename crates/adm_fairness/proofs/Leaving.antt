-- A child that does not apply gives no other child a worse school.
use Rattle.std.proofs.Common.{◌≡◌, ◌∙◌, ap, sym, subst, refl, true, ℕ, List, Some, None, arith}
use Rattle.std.specs.Prelude.{All, Any}
use Rattle.std.specs.Cmp.{nat_cmp_total}
use Rattle.std.specs.FinMap.{get, insert, values, nat_cmp-IsAntisymmetric}
use Rattle.std.proofs.lemmas.Option.{none-some}
use Rattle.adm_lists.proofs.Maps.{in_values}
use Rattle.adm_lists.proofs.Members.{In, All_in, in_All, in_map, from_map, in_filter_map, from_filter_map}
use Rattle.adm_lists.proofs.Options.{none_of}
use Rattle.adm_types.specs.Limits.{is_listed}
use Rattle.adm_types.specs.declared.rows.Application.{Application}
use Rattle.adm_types.specs.declared.draws.Lot.{Lot}
use Rattle.adm_types.specs.declared.commands.Refusal.TheVariants as refusal
use Rattle.adm_match.specs.Market.{Code, Candidate}
use Rattle.adm_match.specs.Stability.{Allocation, IsBest, IsStable}
use Rattle.adm_match_laws.specs.Generous.{IsCutFrom, IsAsGenerous, IsNoWorse, NoLoss, KindsOfGenerosity}
use Rattle.adm_round.specs.declared.applicants.Applicant.{Applicant}
use Rattle.adm_round.specs.Round.{number_of, listed, is_site, IsListFit, IsPosed}
use Rattle.adm_round.specs.Ranks.{site_of, lot_at, candidate_of}
use Rattle.adm_round.proofs.Faultless.{faultless}
use Rattle.adm_register.specs.State.{State}
use Rattle.adm_register.specs.Change.{after}
use Rattle.adm_register.specs.WellFormed.{WellFormed}
use Rattle.adm_register.proofs.RoundKeys.{from_values}
use Rattle.adm_register.proofs.RoundLemmas.{in_listed}
use Rattle.adm_commands.specs.Commands.Apply as apply
use Rattle.adm_commands.specs.Commands.Round.{applicant_of, round_applicants, round_lots, round_market, sites}
use Rattle.adm_commands.specs.Problem.{lots_fault}
use Rattle.adm_commands.specs.Tests.{first_failing}
use Rattle.adm_commands.proofs.Passed.{passed}
use Rattle.adm_commands.proofs.Posed.{posed}
use Rattle.adm_commands.proofs.Shows.{no_row}
use Rattle.adm_fairness.specs.Honesty.{KeepsCommonLots, NoLossByNotApplying}
use Rattle.adm_fairness.proofs.Fills.{other_stays}
use Rattle.adm_fairness.proofs.Taking.{same_wishes}

module _ (old : State) (application : Application) (numbers drawn : List ℕ) (well : WellFormed old) (unapplied : get old.applications application.child ≡ None)
    (none : lots_fault old numbers ≡ None) where
  abbrev next : State
  next = record old { applications = insert old.applications application.child application }

  module _ (lots_same : KeepsCommonLots old next (round_lots old numbers) (round_lots next drawn)) where
    abbrev first_lots : List Lot
    first_lots = round_lots old numbers

    abbrev second_lots : List Lot
    second_lots = round_lots next drawn

    fits : IsPosed (sites old) (round_applicants old) first_lots
    fits = posed old numbers well none

    abbrev entrant : Applicant → Candidate
    entrant = candidate_of (site_of (sites old)) (lot_at first_lots)

    abbrev entrant' : Applicant → Candidate
    entrant' = candidate_of (site_of (sites next)) (lot_at second_lots)

    -- who takes part without the application takes part with it
    still_takes : (x : Applicant) → In x (round_applicants old) → In x (round_applicants next)
    still_takes x at =
        let found = from_filter_map (applicant_of old) (values old.applications) x at in
        let there = from_values nat_cmp_total nat_cmp-IsAntisymmetric old.applications (λ (a : Application). a.child)
        (λ number row here. (well.base.applications_fit number row here).own_number) found.0 found.1 in
        let still : get next.applications found.0.child ≡ Some found.0 =
        other_stays nat_cmp_total nat_cmp-IsAntisymmetric old.applications application.child application found.0.child
        (λ same. none-some found.0 (sym unapplied ∙ (ap (get old.applications) (sym same) ∙ there))) ∙ there in
        in_filter_map (applicant_of next) (values next.applications) found.0 x
        (in_values nat_cmp_total nat_cmp-IsAntisymmetric next.applications found.0.child found.0 still) found.2

    -- and is the same entrant
    same_entrant : (x : Applicant) → In x (round_applicants old) → entrant' x ≡ entrant x
    same_entrant x at =
        let lots : (code : Code) → is_listed (listed x) code ≡ true → lot_at second_lots code (number_of x) ≡ lot_at first_lots code (number_of x) =
        λ code lists. All_in (λ (z : Applicant). number_of z ≡ number_of x → (c : Code) → is_listed (listed x) c ≡ true → is_listed (listed z) c ≡ true
        → lot_at second_lots c (number_of x) ≡ lot_at first_lots c (number_of x)) (round_applicants next) x
        (All_in (λ (w : Applicant). All (λ (z : Applicant). number_of z ≡ number_of w → (c : Code) → is_listed (listed w) c ≡ true → is_listed (listed z) c ≡ true
        → lot_at second_lots c (number_of w) ≡ lot_at first_lots c (number_of w)) (round_applicants next)) (round_applicants old) x lots_same at)
        (still_takes x at) refl code lists lists in
        λ i. record {
          child = number_of x;
          list = same_wishes (sites old) (lot_at first_lots) (lot_at second_lots) x.child (listed x)
              (λ code here. All_in (λ c. is_site (sites old) c ≡ true) (listed x) code (All_in (IsListFit (sites old)) (round_applicants old) x fits.lists_fit at).known here)
              (λ code here. lots code (in_listed (listed x) code here)) i;
          tenant = x.own;
        }

    generous : KindsOfGenerosity → IsAsGenerous (round_market old numbers) (round_market next drawn)
    generous kinds = record {
      entrants = in_All (λ (e : Candidate). Any (IsCutFrom e) (round_market next drawn).entrants) (round_market old numbers).entrants (λ e at.
          let from = from_map entrant (round_applicants old) e at in
          let there : In (entrant' from.0) (round_market next drawn).entrants = in_map entrant' (round_applicants next) from.0 (still_takes from.0 from.1) in
          subst (λ (c : Candidate). Any (IsCutFrom c) (round_market next drawn).entrants) (same_entrant from.0 from.1 ∙ from.2)
          (All_in (λ (c : Candidate). Any (IsCutFrom c) (round_market next drawn).entrants) (round_market next drawn).entrants (entrant' from.0)
          (kinds.itself (round_market next drawn)).entrants there));
      places = λ school. omega arith;
    }

    not_worse : KindsOfGenerosity → NoLoss → (first second : Allocation) → IsBest (round_market old numbers) first → IsStable (round_market next drawn) second
        → IsNoWorse (round_market old numbers).entrants first second
    not_worse kinds law first second best stable =
        law (round_market old numbers) (round_market next drawn) first second (faultless (sites old) (round_applicants old) first_lots fits) (generous kinds) best stable

pub not_applied : (old : State) (application : Application) → first_failing (apply.tests old application) ≡ None → get old.applications application.child ≡ None
unfolding apply.tests
not_applied old application passes = none_of (get old.applications application.child) (passed (apply.tests old application) passes refusal.AlreadyApplied)

pub no_loss_by_not_applying_law : KindsOfGenerosity → NoLoss → NoLossByNotApplying
unfolding apply.change_of
no_loss_by_not_applying_law kinds law old new application numbers drawn before after' first second well kept accepts none none' lots =
    let now : new ≡ after old (apply.change_of application) = accepts.1.1.2 ∙ ap (after old) accepts.1.1.1.0 in
    not_worse old application numbers drawn well (not_applied old application (no_row _ accepts.1.0)) none
    (subst (λ t. KeepsCommonLots old t (round_lots old numbers) (round_lots t drawn)) now lots) kinds law first.allocation second.allocation first.best
    (subst (λ s. IsStable (round_market s drawn) second.allocation) now second.best.stable)
