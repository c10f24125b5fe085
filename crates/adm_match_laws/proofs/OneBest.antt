-- Each problem has one best allocation.
use Rattle.std.proofs.Common.{◌≡◌, ℕ, ◌≤◌, Option, None, Some, refl, sym, ap, ◌∙◌, arith}
use Rattle.std.specs.List.{slice_get}
use Rattle.adm_match.specs.Market.{Code, Candidate, Market, preference_rank, assigned_rank}
use Rattle.adm_match.specs.Stability.{Allocation, IsStable}
use Rattle.adm_match.specs.Relisting.{OneBest}
use Rattle.adm_match.proofs.RanksAndBlocks.{at_All, All_at, same_rank, wish_at_rank}
use Rattle.adm_match.proofs.Posed.{posed}
use Rattle.adm_match.proofs.Distinct.{distinct}
use Rattle.adm_match.proofs.Existence.{best_exists}
use Rattle.adm_match.proofs.Placed.{on_list}

pub one_best_law : OneBest
one_best_law m ok =
    let best = best_exists m (distinct m (posed m ok)) in (
      best.0,
      best.1,
      λ other o. All_at (λ e. best.0 e.child ≡ other e.child) m.entrants (λ k e ek.
          let there = at_All (λ e. assigned_rank e.list (best.0 e.child) ≤ assigned_rank e.list (other e.child)) m.entrants k e (best.1.none_better other o.stable) ek in
          let back = at_All (λ e. assigned_rank e.list (other e.child) ≤ assigned_rank e.list (best.0 e.child)) m.entrants k e (o.none_better best.0 best.1.stable) ek in
          let same : assigned_rank e.list (other e.child) ≡ assigned_rank e.list (best.0 e.child) = omega (arith, there, back) in
          same_thing m best.0 other k e (best.0 e.child) (other e.child) refl refl best.1.stable o.stable ek same),
    )
  where
    same_thing : (m : Market) (a b : Allocation) (k : ℕ) (e : Candidate) (o p : Option Code) → a e.child ≡ o → b e.child ≡ p → IsStable m a → IsStable m b
        → slice_get m.entrants k ≡ Some e → assigned_rank e.list p ≡ assigned_rank e.list o → o ≡ p
    same_thing m a b k e None None ao bp h g ek same = refl
    same_thing m a b k e None (Some t) ao bp h g ek same = absurd (omega (arith, same, on_list m b k e t g.acceptable ek bp))
    same_thing m a b k e (Some s) p ao bp h g ek same =
        let w = wish_at_rank e.list s (on_list m a k e s h.acceptable ek ao) in
        ap Some (sym w.2) ∙ sym (same_rank e.list p (preference_rank e.list s) w.0 w.1 same)
