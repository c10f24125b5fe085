-- The register after a round that gave the best allocation of the problem anew, and after the first round.
use Rattle.std.proofs.Common.{◌≡◌, ap, sym, subst, refl, Bool, true, false, ℕ, List, [], map, Some}
use Rattle.std.specs.List.{AllZip}
use Rattle.std.specs.FinMap.{get}
use Rattle.adm_types.specs.declared.rows.Child.{Child}
use Rattle.adm_types.specs.declared.rows.Application.{Application}
use Rattle.adm_types.specs.declared.commands.Command.TheVariants.{Round}
use Rattle.adm_match.specs.Stability.{Allocation, IsBest}
use Rattle.adm_round.specs.declared.applicants.Applicant.{Applicant}
use Rattle.adm_round.specs.Round.{number_of, listed}
use Rattle.adm_round.specs.Ranks.{seats_of}
use Rattle.adm_round.specs.Outcomes.{AllotmentFits}
use Rattle.adm_register.specs.State.{State}
use Rattle.adm_register.specs.WellFormed.{WellFormed, has_first_round}
use Rattle.adm_commands.specs.Commands.{KeptByTypes}
use Rattle.adm_commands.specs.Commands.Round as round_command
use Rattle.adm_commands.specs.Commands.Round.{takes_part, round_applicants, round_market, sites}
use Rattle.adm_commands.specs.Steps.{Accepts}
use Rattle.adm_commands.proofs.RoundOffers.{IsRound}
use Rattle.adm_commands.proofs.Shows.{no_row}
use Rattle.adm_fairness.specs.Anew.{remaining}
use Rattle.adm_fairness.proofs.Again.{IsAgain, next, same_plans, same_sites, applicants_again, held_after}
use Rattle.adm_fairness.proofs.Built.{IsBuilt, built_itself}
use Rattle.adm_fairness.proofs.Envy.{kept_well}
use Rattle.adm_fairness.proofs.FairRound.{round_facts}
use Rattle.adm_fairness.proofs.Zipped.{zip_step, all_left}

-- an applicant of the first round, and the same one after a later round: as tenant of what it was given, or with no school on its list where
-- it has withdrawn
pub record IsLater (here : ℕ → Bool) (a : Allocation) (x y : Applicant) : Type 0 where
  pub child : y.child ≡ x.child
  pub stays : here (number_of x) ≡ true → IsAgain a x y
  pub gone : here (number_of x) ≡ false → listed y ≡ []

-- a register after a round that gave those who stay the best allocation of the problem anew
pub record IsGoing (old : State) (numbers : List ℕ) (here : ℕ → Bool) (a : Allocation) (s : State) : Type 0 where
  pub well : WellFormed s
  pub held : has_first_round s.draws ≡ true
  pub built : IsBuilt old s
  pub best : IsBest (remaining here (map seats_of (sites s)) (round_market old numbers)) a
  pub later : AllZip (IsLater here a) (round_applicants old) (round_applicants s)

pub same_number : (x y : Applicant) → y.child ≡ x.child → number_of y ≡ number_of x
same_number x y same = ap (λ (child : Child). child.no) same

pub round_built : {old : State} {numbers : List ℕ} {outcomes : _} (facts : IsRound old numbers outcomes) (draw day : ℕ) → IsBuilt old (next facts draw day)
round_built {old = old} facts draw day = record { children = refl; applications = refl; plans = same_plans facts draw day; schools = (built_itself old).schools }

-- ---- the first round

pub begins : AllotmentFits → (old new : State) (draw day : ℕ) (numbers : List ℕ) → WellFormed old → KeptByTypes (Round draw day numbers) → Accepts old (Round draw day numbers) new
    → ((application : Application) → get old.applications application.child ≡ Some application → takes_part old application ≡ true) → (a : Allocation) × IsGoing old numbers (λ child. true) a new
unfolding round_command.change_of
begins law old new draw day numbers well kept accepts all =
    let it = round_facts law old new draw day numbers well accepts in
    let s = next it.facts draw day in
    let now : new ≡ s = it.now in
    let a = it.facts.best.allocation in
    let m = round_market old numbers in
    let held = held_after old draw day numbers it.outcomes well (no_row _ accepts.1.0) in
    let same : remaining (λ child. true) (map seats_of (sites s)) m ≡ m = λ i. record { entrants = all_left m.entrants i; seats = map seats_of (same_sites it.facts draw day i) } in (
      a,
      subst (IsGoing old numbers (λ child. true) a) (sym now) (record {
        well = subst WellFormed now (kept_well law old new (Round draw day numbers) kept well accepts);
        held = held;
        built = round_built it.facts draw day;
        best = subst (λ p. IsBest p a) (sym same) it.facts.best.best;
        later = zip_step (IsAgain a) (IsLater (λ child. true) a) (round_applicants old) (round_applicants s) (applicants_again it.facts draw day all held)
            (λ x y again. record { child = again.child; stays = λ _. again; gone = λ gone. cc });
      }),
    )
