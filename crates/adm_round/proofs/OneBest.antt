-- A problem has one best allocation of its entrants, whatever the problem.
use Rattle.std.proofs.Common.{◌≡◌, ◌∙◌, ap, sym, refl, cond, not, ◌<◌, ◌≤◌, ◌+◌, List, [], ◌∷◌, length, Option, None, Some, Bool, true, false, inl, inr, arith}
use Rattle.std.specs.Prelude.{bytes_eq, IfSome, map}
use Rattle.std.proofs.lemmas.Slice.Eq.{bytes_eq-Decides}
use Rattle.adm_lists.proofs.Members.{In, in_map, All_in}
use Rattle.adm_match.specs.declared.problem.Wish.{Wish}
use Rattle.adm_match.specs.Market.{Code, Candidate, preference_rank, assigned_rank}
use Rattle.adm_match.specs.Stability.{Allocation}
use Rattle.adm_round.specs.declared.applicants.Applicant.{Applicant}
use Rattle.adm_round.specs.Round.{number_of}
use Rattle.adm_round.specs.Ranks.{site_of, lot_at, candidate_of}
use Rattle.adm_round.specs.Outcomes.{outcome_of, outcomes_of, OneAllotment}

rank-first : (w : Wish) (ws : List Wish) (s : Code) → bytes_eq w.school s ≡ true → preference_rank (w ∷ ws) s ≡ 0
rank-first w ws s e = ap (λ b. cond (not b) (1 + preference_rank ws s) 0) e

rank-later : (w : Wish) (ws : List Wish) (s : Code) → bytes_eq w.school s ≡ false → preference_rank (w ∷ ws) s ≡ 1 + preference_rank ws s
rank-later w ws s e = ap (λ b. cond (not b) (1 + preference_rank ws s) 0) e

-- two schools of one list at one rank are one
same_rank : (ws : List Wish) (s t : Code) → preference_rank ws s < length ws → preference_rank ws t < length ws → preference_rank ws s ≡ preference_rank ws t → s ≡ t
same_rank [] s t one other same = absurd (omega (arith, one))
same_rank (w ∷ ws) s t one other same = by (same_rank ws s t) (bytes_eq w.school s) (bytes_eq w.school t) refl refl
  where
    by : (preference_rank ws s < length ws → preference_rank ws t < length ws → preference_rank ws s ≡ preference_rank ws t → s ≡ t) → (b c : Bool)
        → bytes_eq w.school s ≡ b → bytes_eq w.school t ≡ c → s ≡ t
    by later true true is too = sym ((bytes_eq-Decides w.school s).0 is) ∙ (bytes_eq-Decides w.school t).0 too
    by later true false is too = absurd (omega (arith, same, rank-first w ws s is, rank-later w ws t too))
    by later false true is too = absurd (omega (arith, same, rank-later w ws s is, rank-first w ws t too))
    by later false false is too =
        let first = rank-later w ws s is in
        let second = rank-later w ws t too in
        later (omega (arith, one, first)) (omega (arith, other, second)) (omega (arith, same, first, second))

-- so what two acceptable assignments of one rank give is the same
same_assigned : (ws : List Wish) (x y : Option Code) → IfSome x (λ s. preference_rank ws s < length ws) → IfSome y (λ s. preference_rank ws s < length ws)
    → assigned_rank ws x ≡ assigned_rank ws y → x ≡ y
same_assigned ws None None one other same = refl
same_assigned ws None (Some t) one other same = absurd (omega (arith, other, same))
same_assigned ws (Some s) None one other same = absurd (omega (arith, one, same))
same_assigned ws (Some s) (Some t) one other same = ap Some (same_rank ws s t one other same)

same_outcomes : (a b : Allocation) (xs : List Applicant) → ((x : Applicant) → In x xs → a (number_of x) ≡ b (number_of x)) → outcomes_of a xs ≡ outcomes_of b xs
same_outcomes a b [] h = refl
same_outcomes a b (x ∷ xs) h = λ i. outcome_of x (h x (inl refl) i) ∷ same_outcomes a b xs (λ y l. h y (inr l)) i

pub one_allotment_law : OneAllotment
one_allotment_law sites applicants lots one other first second =
    first.given ∙ same_outcomes first.allocation second.allocation applicants same ∙ sym second.given
  where
    entrant : Applicant → Candidate
    entrant = candidate_of (site_of sites) (lot_at lots)

    same : (x : Applicant) → In x applicants → first.allocation (number_of x) ≡ second.allocation (number_of x)
    same x i =
        let a = first.allocation in
        let b = second.allocation in
        let there = in_map entrant applicants x i in
        let ws = (entrant x).list in
        let one_fits = All_in (λ (e : Candidate). IfSome (a e.child) (λ s. preference_rank e.list s < length e.list)) (map entrant applicants) (entrant x) first.best.stable.acceptable there in
        let other_fits = All_in (λ (e : Candidate). IfSome (b e.child) (λ s. preference_rank e.list s < length e.list)) (map entrant applicants) (entrant x) second.best.stable.acceptable there in
        let not_later = All_in (λ (e : Candidate). assigned_rank e.list (a e.child) ≤ assigned_rank e.list (b e.child)) (map entrant applicants) (entrant x)
        (first.best.none_better b second.best.stable) there in
        let not_before = All_in (λ (e : Candidate). assigned_rank e.list (b e.child) ≤ assigned_rank e.list (a e.child)) (map entrant applicants) (entrant x)
        (second.best.none_better a first.best.stable) there in
        same_assigned ws (a (number_of x)) (b (number_of x)) one_fits other_fits (omega (arith, not_later, not_before))
