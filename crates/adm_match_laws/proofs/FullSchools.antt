-- All stable allocations place the same children. In each of them a school has equally many entrants, and one with room has the same ones.
use Rattle.std.proofs.Common.{◌≡◌, ℕ, zero, suc, ◌<◌, ◌≤◌, List, [], ◌∷◌, Some, true, inl, inr, refl, sym, ap, ◌∙◌, subst, arith}
use Rattle.std.specs.Prelude.{bytes_eq, is_some}
use Rattle.std.specs.List.{slice_get, count_by, sum_by}
use Rattle.std.proofs.lemmas.Bool.{cases_Bool, cases_lt}
use Rattle.std.proofs.lemmas.Option.{none-some, same_Some}
use Rattle.std.proofs.lemmas.List.Sums.{sum_by-cons}
use Rattle.std.proofs.lemmas.Slice.Eq.{bytes_eq-Decides}
use Rattle.adm_types.specs.Code.{has}
use Rattle.adm_match.specs.declared.problem.Seats.{Seats}
use Rattle.adm_match.specs.Market.{Code, Candidate, Market, quota_of}
use Rattle.adm_match.specs.Stability.{Allocation, count_at, IsContent, IsStable, IsBest}
use Rattle.adm_match.specs.Distinct.{Seated}
use Rattle.adm_match_laws.specs.FullSchools.{SamePlaced, SameSchoolsFill}
use Rattle.adm_match.proofs.SideBySide.{more_pass}
use Rattle.adm_match.proofs.RanksAndBlocks.{has_tells, not_has, at_All, All_at, list_any_gives, wish_at_rank}
use Rattle.adm_match.proofs.Placed.{on_list, same_placed, full_if_unblocked, prefers_best, no_more, sum_upto, swap_sums, placed, placed_from, placed_upto, count_less, placed_in_best}
use Rattle.adm_match.proofs.Posed.{posed}
use Rattle.adm_match.proofs.Distinct.{distinct}
use Rattle.adm_match.proofs.Existence.{best_exists}
use Rattle.adm_match_laws.proofs.Generous.{count_upto}
use Rattle.adm_match.proofs.Relisted.{seated}

pub same_placed_law : SamePlaced
same_placed_law m a other ok h g =
    let p = posed m ok in
    let best = best_exists m (distinct m p) in
    All_at (λ e. is_some (a e.child) ≡ true → is_some (other e.child) ≡ true) m.entrants
    (λ k e ek t. same_placed m best.0 a other (seated m p) best.1 h g k e ek t)

-- a sum with no larger terms, of which one is smaller, is smaller
sum_less : {X : Type 0} (f g : X → ℕ) (xs : List X) (k : ℕ) (x : X) → ((y : X) → f y ≤ g y) → slice_get xs k ≡ Some x → f x < g x → sum_by f xs < sum_by g xs
sum_less f g [] k x h at less = absurd (none-some x at)
sum_less f g (y ∷ ys) zero x h at less =
    let same : y ≡ x = same_Some y x at in
    omega (arith, sum_by-cons f y ys, sum_by-cons g y ys, sum_upto f g ys h, less, ap f same, ap g same)
sum_less f g (y ∷ ys) (suc k) x h at less = omega (arith, sum_by-cons f y ys, sum_by-cons g y ys, h y, sum_less f g ys k x h at less)

-- where a stable allocation put more entrants at one school than the best does, it would place more of them in all
equal_numbers : (m : Market) (best a : Allocation) → Seated m → IsBest m best → IsStable m a → (s : Code) → count_at m best s ≡ count_at m a s
equal_numbers m best a d b h s = elim (cases_lt (count_at m best s) (count_at m a s)) [
  | inr most ↦ omega (arith, most, no_more m best a s b h)
  | inl less ↦ absurd (
      let one = more_pass (λ (e : Candidate). has (a e.child) s) (λ (e : Candidate). has (best e.child) s) m.entrants m.entrants refl less in
      let e = one.1 in
      let w = wish_at_rank e.list s (on_list m a one.0 e s h.acceptable one.3 ((has_tells (a e.child) s).0 one.5)) in
      let seat = list_any_gives (λ (seat : Seats). bytes_eq seat.code w.0.school) m.seats (d.known one.0 e _ w.0 one.3 w.1) in
      let code : seat.1.code ≡ s = (bytes_eq-Decides seat.1.code w.0.school).0 seat.3 ∙ w.2 in
      let here : count_at m best seat.1.code < count_at m a seat.1.code = subst (λ (t : Code). count_at m best t < count_at m a t) (sym code) less in
      let fewer = sum_less (λ (x : Seats). count_at m best x.code) (λ (x : Seats). count_at m a x.code) m.seats seat.0 seat.1 (λ x. no_more m best a x.code b h) seat.2 here in
      let all : count_by (placed a) m.entrants ≤ count_by (placed best) m.entrants = count_upto (placed best) (placed a) m.entrants (λ k x xk t. placed_in_best m best a b h k x xk t) in
      omega (arith, fewer, all, swap_sums best m.seats m.entrants, swap_sums a m.seats m.entrants, placed_upto m a d, placed_from m best d b.stable.acceptable))
]

-- who is at a school with room has it in the best allocation, and the other way round
same_children : (m : Market) (best a : Allocation) → Seated m → IsBest m best → IsStable m a → (s : Code) → count_at m a s < quota_of m.seats s → (k : ℕ) (e : Candidate)
    → slice_get m.entrants k ≡ Some e → has (best e.child) s ≡ has (a e.child) s
same_children m best a d b h s room k e ek =
    let kept : (j : ℕ) (x : Candidate) → slice_get m.entrants j ≡ Some x → has (best x.child) s ≡ true → has (a x.child) s ≡ true
    = λ j x jx there. elim (cases_Bool (has (a x.child) s)) [
      | inl here ↦ here
      | inr out ↦ absurd (
          let wants = prefers_best m best a j x s b h jx ((has_tells (best x.child) s).0 there) (not_has (a x.child) s out) in
          let full = full_if_unblocked m a x s wants (at_All (IsContent m a) m.entrants j x h.unblocked jx s) in
          omega (arith, full.1, room))
    ] in
    elim (cases_Bool (has (best e.child) s)) [
      | inl there ↦ there ∙ sym (kept k e ek there)
      | inr away ↦ elim (cases_Bool (has (a e.child) s)) [
        | inr out ↦ away ∙ sym out
        | inl here ↦ absurd (
            let less = count_less (λ (x : Candidate). has (a x.child) s) (λ (x : Candidate). has (best x.child) s) m.entrants k e kept ek here away in
            omega (arith, less, equal_numbers m best a d b h s))
      ]
    ]

pub same_schools_fill_law : SameSchoolsFill
same_schools_fill_law m a other ok h g s =
    let p = posed m ok in
    let d = seated m p in
    let best = best_exists m (distinct m p) in
    let equal : count_at m a s ≡ count_at m other s = sym (equal_numbers m best.0 a d best.1 h s) ∙ equal_numbers m best.0 other d best.1 g s in
    record {
      numbers = equal;
      children = λ room. All_at (λ e. has (a e.child) s ≡ has (other e.child) s) m.entrants (λ k e ek.
          sym (same_children m best.0 a d best.1 h s room k e ek) ∙ same_children m best.0 other d best.1 g s (omega (arith, room, equal)) k e ek);
    }
