-- Allocations that give each entrant the same school are stable, and best, alike.
use Rattle.std.proofs.Common.{◌≡◌, ◌∙◌, ap, sym, subst, refl, Bool, ◌&&◌, ◌||◌, not, ◌<◌, ◌≤◌, ℕ, suc, List, [], ◌∷◌, length, Some, arith}
use Rattle.std.specs.Prelude.{IfSome, nat_lt}
use Rattle.std.specs.List.{list_any, slice_get}
use Rattle.adm_types.specs.Code.{has}
use Rattle.adm_match.specs.Market.{Code, Candidate, Market, preference_rank, assigned_rank, is_tenant, ranks_before, quota_of}
use Rattle.adm_match.specs.Stability.{Allocation, count_at, is_guest, ranks_after, IsContent, IsStable, IsBest}
use Rattle.adm_match.proofs.RanksAndBlocks.{at_All, All_at}
use Rattle.adm_match.proofs.SideBySide.{count_beside}
use Rattle.std.proofs.lemmas.Option.{same_Some}

any_alike : {X : Type 0} (p q : X → Bool) (xs : List X) → ((k : ℕ) (x : X) → slice_get xs k ≡ Some x → p x ≡ q x) → list_any p xs ≡ list_any q xs
any_alike p q [] same = refl
any_alike p q (x ∷ xs) same = λ i. same 0 x refl i || any_alike p q xs (λ k y yk. same (suc k) y yk) i

module _ (m : Market) (a b : Allocation) (same : (k : ℕ) (e : Candidate) → slice_get m.entrants k ≡ Some e → b e.child ≡ a e.child) where
  counted : (s : Code) → count_at m b s ≡ count_at m a s
  counted s = count_beside (λ (e : Candidate). has (b e.child) s) (λ (e : Candidate). has (a e.child) s) m.entrants m.entrants refl
      (λ k x y xk yk. ap (λ o. has o s) (same k x xk) ∙ ap (λ (e : Candidate). has (a e.child) s) (same_Some x y (sym xk ∙ yk)))

  guests : (s : Code) → list_any (is_guest b s) m.entrants ≡ list_any (is_guest a s) m.entrants
  guests s = any_alike (is_guest b s) (is_guest a s) m.entrants (λ k e ek. ap (λ o. has o s && not (is_tenant e s)) (same k e ek))

  behind : (e : Candidate) (s : Code) → list_any (ranks_after b s e) m.entrants ≡ list_any (ranks_after a s e) m.entrants
  behind e s = any_alike (ranks_after b s e) (ranks_after a s e) m.entrants (λ k g gk. ap (λ o. (has o s && not (is_tenant g s)) && ranks_before s e g) (same k g gk))

  stable_alike : IsStable m a → IsStable m b
  stable_alike stable = record {
    acceptable = All_at (λ (e : Candidate). IfSome (b e.child) (λ s. preference_rank e.list s < length e.list)) m.entrants (λ k e ek.
        subst (λ o. IfSome o (λ s. preference_rank e.list s < length e.list)) (sym (same k e ek))
        (at_All (λ (x : Candidate). IfSome (a x.child) (λ s. preference_rank x.list s < length x.list)) m.entrants k e stable.acceptable ek));
    feasible = λ s some. omega (arith, stable.feasible s (sym (guests s) ∙ some), counted s);
    unblocked = All_at (IsContent m b) m.entrants (λ k e ek s.
        (λ i. nat_lt (preference_rank e.list s) (assigned_rank e.list (same k e ek i))
        && (is_tenant e s || (nat_lt (counted s i) (quota_of m.seats s) || behind e s i)))
        ∙ at_All (IsContent m a) m.entrants k e stable.unblocked ek s);
  }

  pub best_alike : IsBest m a → IsBest m b
  best_alike best = record {
    stable = stable_alike best.stable;
    none_better = λ z stable. All_at (λ (e : Candidate). assigned_rank e.list (b e.child) ≤ assigned_rank e.list (z e.child)) m.entrants (λ k e ek.
        omega (arith, at_All (λ (x : Candidate). assigned_rank x.list (a x.child) ≤ assigned_rank x.list (z x.child)) m.entrants k e (best.none_better z stable) ek, ap (assigned_rank e.list) (same k e ek)));
  }
