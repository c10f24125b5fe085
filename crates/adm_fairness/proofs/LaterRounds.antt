-- Rounds by lots of one order, with withdrawals and raised numbers between them, give what one round anew would give.
use Rattle.std.proofs.Common.{◌≡◌, ◌∙◌, ap, sym, subst, Bool, true, ℕ, List, [], ◌∷◌, map, Some, None}
use Rattle.std.specs.Prelude.{filter}
use Rattle.std.specs.List.{slice_get}
use Rattle.std.specs.FinMap.{get}
use Rattle.adm_lists.proofs.Members.{from_map}
use Rattle.adm_match.specs.Market.{Candidate}
use Rattle.adm_match.specs.Stability.{Allocation}
use Rattle.adm_round.specs.declared.applicants.Applicant.{Applicant}
use Rattle.adm_round.specs.Round.{number_of}
use Rattle.adm_round.specs.Ranks.{site_of, lot_at, candidate_of, seats_of}
use Rattle.adm_round.specs.Outcomes.{AllotmentFits}
use Rattle.adm_register.specs.State.{State}
use Rattle.adm_register.specs.Wanted.{own_school}
use Rattle.adm_register.specs.WellFormed.{WellFormed}
use Rattle.adm_commands.specs.Commands.Round.{round_applicants, round_lots, round_market, sites}
use Rattle.adm_commands.specs.Problem.{lots_fault}
use Rattle.adm_commands.proofs.Posed.{lots_pass}
use Rattle.adm_commands.proofs.Shows.{no_row}
use Rattle.adm_fairness.specs.Anew.{remaining}
use Rattle.adm_fairness.specs.LaterRounds.{FirstRound, LaterRound, AreHeldInTurn, RoundsLead, stays_last, stays_to_end, LaterRoundsAnew}
use Rattle.adm_fairness.proofs.Alike.{best_alike}
use Rattle.adm_fairness.proofs.Beside.{zip_there}
use Rattle.adm_fairness.proofs.Codes.{at_index, in_index}
use Rattle.adm_fairness.proofs.Taking.{taking_of}
use Rattle.adm_fairness.proofs.Zipped.{left_at}
use Rattle.adm_fairness.proofs.Going.{IsLater, IsGoing, same_number, begins}
use Rattle.adm_fairness.proofs.NextRound.{goes_on}

module _ (law : AllotmentFits) (begun : FirstRound) (well : WellFormed begun.register) (none : lots_fault begun.register begun.numbers ≡ None) where
  ends : (later : List LaterRound) (here : ℕ → Bool) (a : Allocation) (s end : State) → IsGoing begun.register begun.numbers here a s → AreHeldInTurn begun here s later end
      → (b : Allocation) × IsGoing begun.register begun.numbers (stays_last here later) b end
  ends [] here a s end going held = (a, subst (IsGoing begun.register begun.numbers here a) (sym held) going)
  ends (round ∷ later) here a s end going held =
      let step = goes_on law begun well none here a s going round held.0 held.1 in
      ends later round.stays step.0 held.0 end step.1 held.2

-- what those who stay have is what they were given
has_given : (old : State) (numbers : List ℕ) (here : ℕ → Bool) (a : Allocation) (s : State) → IsGoing old numbers here a s → (k : ℕ) (e : Candidate)
    → slice_get (filter (λ (x : Candidate). here x.child) (round_market old numbers).entrants) k ≡ Some e → own_school (get s.places e.child) ≡ a e.child
has_given old numbers here a s going k e ek =
    let entrant : Applicant → Candidate = candidate_of (site_of (sites old)) (lot_at (round_lots old numbers)) in
    let found = left_at (λ (x : Candidate). here x.child) (round_market old numbers).entrants k e ek in
    let from = from_map entrant (round_applicants old) e (in_index (round_market old numbers).entrants found.0 e found.1) in
    let x = from.0 in
    let child : number_of x ≡ e.child = ap (λ (c : Candidate). c.child) from.2 in
    let j = at_index (round_applicants old) x from.1 in
    let y = zip_there (IsLater here a) (round_applicants old) (round_applicants s) j.0 x going.later j.1 in
    let taken = taking_of s going.well y.0 (in_index (round_applicants s) j.0 y.0 y.1) in
    let number : taken.0.child ≡ e.child = sym taken.1.number ∙ (same_number x y.0 y.2.child ∙ child) in
    ap (λ n. own_school (get s.places n)) (sym number) ∙ (sym taken.1.own ∙ ((y.2.stays (ap here child ∙ found.2)).own ∙ ap a child))

-- the register of the end
pub going_last : AllotmentFits → (begun : FirstRound) (later : List LaterRound) (end : State) → RoundsLead begun later end
    → (a : Allocation) × IsGoing begun.register begun.numbers (stays_to_end later) a end
going_last law begun later end lead =
    let none = lots_pass begun.register begun.draw begun.day begun.numbers (no_row _ lead.accepted.1.0) in
    let first = begins law begun.register lead.new begun.draw begun.day begun.numbers lead.well lead.kept lead.accepted lead.all in
    ends law begun lead.well none later (λ child. true) first.0 lead.new end first.1 lead.held

pub later_rounds_anew_law : AllotmentFits → LaterRoundsAnew
later_rounds_anew_law law begun later end lead =
    let last = going_last law begun later end lead in
    best_alike (remaining (stays_to_end later) (map seats_of (sites end)) (round_market begun.register begun.numbers)) last.0 (λ child. own_school (get end.places child))
    (has_given begun.register begun.numbers (stays_to_end later) last.0 end last.1) last.1.best
