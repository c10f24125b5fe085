-- What is found on a list, and at which ranks wishes are.
use Rattle.std.proofs.Common.{◌≡◌, ℕ, zero, suc, ◌+◌, ◌<◌, ◌≤◌, List, [], ◌∷◌, length, Option, None, Some, Bool, true, false, cond, not, inl, inr, sym, ap, ◌∙◌, arith}
use Rattle.std.specs.Prelude.{bytes_eq, find}
use Rattle.std.specs.List.{slice_get}
use Rattle.std.proofs.lemmas.Bool.{cases_Bool}
use Rattle.std.proofs.lemmas.Slice.Eq.{bytes_eq-Decides}
use Rattle.std.proofs.lemmas.List.Sums.{prefix_len-le-length}
use Rattle.std.proofs.lemmas.Option.{none-some, same_Some}
use Rattle.adm_match.specs.declared.problem.Wish.{Wish}
use Rattle.adm_match.specs.Market.{Code, preference_rank, assigned_rank}

-- what `find` says
pub found_at : {X : Type 0} (p : X → Bool) (xs : List X) (x : X) → find p xs ≡ Some x
    → (k : ℕ) × (slice_get xs k ≡ Some x) × (p x ≡ true) × ((j : ℕ) (y : X) → j < k → slice_get xs j ≡ Some y → p y ≡ false)
found_at p [] x e = absurd (none-some x e)
found_at p (y ∷ ys) x e = elim (cases_Bool (p y)) [
  | inl hit ↦
      let same : y ≡ x = same_Some y x (ap (λ b. cond b (Some y) (find p ys)) (sym hit) ∙ e) in
      (0, ap Some same, ap p (sym same) ∙ hit, λ j z l a. absurd (omega arith))
  | inr miss ↦
      let rest = found_at p ys x (ap (λ b. cond b (Some y) (find p ys)) (sym miss) ∙ e) in
      (suc rest.0, rest.1, rest.2, before p y ys rest.0 miss rest.3)
]
  where
    before : {X : Type 0} (p : X → Bool) (y : X) (ys : List X) (k : ℕ) → p y ≡ false → ((j : ℕ) (z : X) → j < k → slice_get ys j ≡ Some z → p z ≡ false) → (j : ℕ) (z : X)
        → j < suc k → slice_get (y ∷ ys) j ≡ Some z → p z ≡ false
    before p y ys k miss h zero z l a = ap p (sym (same_Some y z a)) ∙ miss
    before p y ys k miss h (suc j) z l a = h j z (omega arith) a

-- a wish is at its school's rank or after it
pub rank_upto : (ws : List Wish) (k : ℕ) (w : Wish) → slice_get ws k ≡ Some w → preference_rank ws w.school ≤ k
rank_upto [] k w e = absurd (none-some w e)
rank_upto (x ∷ xs) zero w e =
    let hit = (bytes_eq-Decides x.school w.school).1 (ap (λ (z : Wish). z.school) (same_Some x w e)) in
    omega (arith, ap (λ b. cond (not b) (1 + preference_rank xs w.school) 0) hit)
rank_upto (x ∷ xs) (suc k) w e =
    let rest = rank_upto xs k w e in
    elim (cases_Bool (bytes_eq x.school w.school)) [
      | inl hit ↦ omega (arith, ap (λ b. cond (not b) (1 + preference_rank xs w.school) 0) hit)
      | inr miss ↦ omega (arith, ap (λ b. cond (not b) (1 + preference_rank xs w.school) 0) miss, rest)
    ]

pub rank_within : (ws : List Wish) (o : Option Code) → assigned_rank ws o ≤ length ws
rank_within ws None = omega arith
rank_within ws (Some s) = prefix_len-le-length (λ (w : Wish). not (bytes_eq w.school s)) ws
