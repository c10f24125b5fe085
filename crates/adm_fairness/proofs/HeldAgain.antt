-- A round that is held again by lots of the same order gives each child what it has.
use Rattle.std.proofs.Common.{◌≡◌, ◌∙◌, ap, sym, subst, refl, false, not, ℕ, map, Option, Some, None}
use Rattle.std.specs.Prelude.{All, Any}
use Rattle.std.specs.List.{AllZip}
use Rattle.std.specs.FinMap.{get}
use Rattle.std.proofs.lemmas.Option.{same_Some, slice_get-get_or}
use Rattle.adm_fairness.proofs.Zipped.{zip_any}
use Rattle.adm_lists.proofs.Members.{In, in_All, in_map, from_map}
use Rattle.adm_types.specs.declared.rows.Child.{Child}
use Rattle.adm_types.specs.declared.draws.Outcome.{Outcome}
use Rattle.adm_types.specs.declared.commands.Command.TheVariants.{Round}
use Rattle.adm_rank.specs.Ranking.{key_of}
use Rattle.adm_match.specs.Market.{Code, Candidate, Market}
use Rattle.adm_match.specs.Stability.{IsStable, IsBest}
use Rattle.adm_match.proofs.RanksAndBlocks.{at_All, has_true}
use Rattle.adm_round.specs.declared.applicants.Applicant.{Applicant}
use Rattle.adm_round.specs.declared.applicants.Site.{Site}
use Rattle.adm_round.specs.Round.{number_of, IsListFit}
use Rattle.adm_round.specs.Ranks.{site_of, lot_at, candidate_of}
use Rattle.adm_round.specs.Outcomes.{is_fresh, outcome_of, AllotmentFits}
use Rattle.adm_register.specs.Wanted.{own_school}
use Rattle.adm_register.specs.WellFormed.{WellFormed}
use Rattle.adm_commands.specs.Commands.Round as round
use Rattle.adm_commands.specs.Commands.Round.{round_applicants, round_lots, round_market, sites}
use Rattle.adm_commands.specs.Problem.{lots_fault}
use Rattle.adm_commands.proofs.Posed.{posed}
use Rattle.adm_commands.proofs.Shows.{no_row}
use Rattle.adm_fairness.specs.Lots.{KeepsOrder, SameLotsSamePlaces}
use Rattle.adm_fairness.proofs.Again.{IsAgain, next, same_sites, applicants_again, held_after}
use Rattle.adm_fairness.proofs.Beside.{zip_mapped}
use Rattle.adm_fairness.proofs.Codes.{at_index, in_index}
use Rattle.adm_fairness.proofs.Envy.{kept_well}
use Rattle.adm_fairness.proofs.FairRound.{round_facts}
use Rattle.adm_fairness.proofs.Reordered.{stable_reordered}
use Rattle.adm_fairness.proofs.SameLots.{KeepsKeys, settled}
use Rattle.adm_fairness.proofs.SameOrder.{market_by, reordered, kept_order}
use Rattle.adm_fairness.proofs.Settled.{IsSettled, keeps_all}
use Rattle.adm_fairness.proofs.Taking.{taking_of}

pub same_lots_same_places_law : AllotmentFits → SameLotsSamePlaces
unfolding round.change_of
same_lots_same_places_law law old new draw day numbers drawn outcomes well kept accepts all none best keeps =
    let it = round_facts law old new draw day numbers well accepts in
    let s = next it.facts draw day in
    let now : new ≡ s = it.now in
    let well' : WellFormed s = subst WellFormed now (kept_well law old new (Round draw day numbers) kept well accepts) in
    let held = held_after old draw day numbers it.outcomes well (no_row _ accepts.1.0) in
    let none' = subst (λ x. lots_fault x drawn ≡ None) now none in
    let keeps' = subst (λ x. KeepsOrder x (round_lots old numbers) (round_lots x drawn)) now keeps in
    let a = it.facts.best.allocation in
    let b = best.allocation in
    let best' : IsBest (round_market s drawn) b = subst (λ x. IsBest (round_market x drawn) b) now best.best in
    let first : Code → ℕ → ℕ = lot_at (round_lots old numbers) in
    let fit_s : All (IsListFit (sites s)) (round_applicants s) = (posed s drawn well' none').lists_fit in
    let order = kept_order s well' (round_lots old numbers) (round_lots s drawn) keeps' in
    let back = reordered (sites s) (round_applicants s) fit_s (lot_at (round_lots s drawn)) first
    (λ x y xt yt code x_wants y_wants site found. sym (order x y xt yt code x_wants y_wants site found)) in
    let by_first : IsStable (market_by (sites s) (round_applicants s) first) b =
    stable_reordered (round_market s drawn) (market_by (sites s) (round_applicants s) first) back b best'.stable in
    let same : sites s ≡ sites old = same_sites it.facts draw day in
    let later : Market = market_by (sites old) (round_applicants s) first in
    let stable : IsStable later b = subst (λ places. IsStable (market_by places (round_applicants s) first) b) same by_first in
    let fit' : All (IsListFit (sites old)) (round_applicants s) = subst (λ places. All (IsListFit places) (round_applicants s)) same fit_s in
    let keys_kept : KeepsKeys (sites old) (sites old) = λ child lot code site now' at at'. ap (λ (z : Site). key_of z.school child lot) (same_Some now' site (sym at' ∙ at)) in
    let entrant : Applicant → Candidate = candidate_of (site_of (sites old)) first in
    let zip = applicants_again it.facts draw day all held in
    let entrants : AllZip (IsSettled a) (round_market old numbers).entrants later.entrants =
    zip_mapped (IsAgain a) (IsSettled a) entrant entrant (round_applicants old) (round_applicants s) zip
    (λ x y xt yt again. settled (sites old) (sites old) keys_kept (round_applicants old) (round_applicants s) it.facts.posed.lists_fit fit' first a x y xt yt again) in
    let kept_again : (y : Applicant) → In y (round_applicants s) → b (number_of y) ≡ y.own =
    λ y yt. (
    let j = at_index (round_applicants s) y yt in
    let x = at_All (λ (z : Applicant). Any (λ x. IsAgain a x z) (round_applicants old)) (round_applicants s) j.0 y (zip_any (IsAgain a) (round_applicants old) (round_applicants s) zip) j.1 in
    let xt = in_index (round_applicants old) x.0 x.1 (slice_get-get_or (round_applicants old) x.0 x.1 x.2 ∙ ap Some x.3) in
    let k = at_index (round_market old numbers).entrants (entrant x.1) (in_map entrant (round_applicants old) x.1 xt) in
    ap b (ap (λ (child : Child). child.no) x.4.child)
    ∙ (keeps_all (round_market old numbers) later a b it.facts.best.best refl entrants stable k.0 (entrant x.1) k.1
    ∙ sym x.4.own)) in
    let each : All (λ (o : Outcome). (o.school ≡ own_school (get new.places o.child)) × (o.fresh ≡ false)) (map (λ (y : Applicant). outcome_of y (b (number_of y))) (round_applicants new)) =
    in_All (λ (o : Outcome). (o.school ≡ own_school (get new.places o.child)) × (o.fresh ≡ false)) (map (λ (y : Applicant). outcome_of y (b (number_of y))) (round_applicants new)) (λ o at.
    let y = from_map (λ (y : Applicant). outcome_of y (b (number_of y))) (round_applicants new) o at in
    let given : b (number_of y.0) ≡ y.0.own = kept_again y.0 (subst (λ x. In y.0 (round_applicants x)) now y.1) in
    let taken = taking_of new (subst WellFormed (sym now) well') y.0 y.1 in
    let own : y.0.own ≡ own_school (get new.places (number_of y.0)) = taken.1.own ∙ ap (λ n. own_school (get new.places n)) (sym taken.1.number) in
    subst (λ (x : Outcome). (x.school ≡ own_school (get new.places x.child)) × (x.fresh ≡ false)) y.2 (given ∙ own, ap (is_fresh y.0.own) given ∙ not_fresh y.0.own)) in
    subst (All (λ (o : Outcome). (o.school ≡ own_school (get new.places o.child)) × (o.fresh ≡ false))) (sym best.given) each
  where
    not_fresh : (own : Option Code) → is_fresh own own ≡ false
    not_fresh None = refl
    not_fresh (Some s) = ap not (has_true (Some s) s refl)
