-- The beginning of a list of wishes: the ranks and the keys of its schools.
use Rattle.std.proofs.Common.{◌≡◌, ℕ, zero, suc, ◌+◌, ◌<◌, List, [], ◌∷◌, length, take, Some, cond, not, inl, inr, sym, ap, ◌∙◌, refl, arith}
use Rattle.std.specs.Prelude.{bytes_eq, option_map, find}
use Rattle.std.specs.List.{slice_get}
use Rattle.std.proofs.lemmas.Bool.{cases_Bool}
use Rattle.std.proofs.lemmas.Option.{none-some}
use Rattle.adm_match.specs.declared.problem.Wish.{Wish}
use Rattle.adm_match.specs.Market.{Code, preference_rank, key_at}

-- ranks and keys are those of the whole list
pub rank_take : (ws : List Wish) (n : ℕ) (s : Code) → preference_rank ws s < n → preference_rank (take n ws) s ≡ preference_rank ws s
rank_take [] zero s l = refl
rank_take [] (suc n) s l = refl
rank_take (w ∷ ws) zero s l = absurd (omega arith)
rank_take (w ∷ ws) (suc n) s l = elim (cases_Bool (bytes_eq w.school s)) [
  | inl hit ↦
      ap (λ b. cond (not b) (1 + preference_rank (take n ws) s) 0) hit ∙ sym (ap (λ b. cond (not b) (1 + preference_rank ws s) 0) hit)
  | inr miss ↦
      let here : preference_rank (w ∷ ws) s ≡ 1 + preference_rank ws s = ap (λ b. cond (not b) (1 + preference_rank ws s) 0) miss in
      let there : preference_rank (w ∷ take n ws) s ≡ 1 + preference_rank (take n ws) s = ap (λ b. cond (not b) (1 + preference_rank (take n ws) s) 0) miss in
      there ∙ (ap (λ x. 1 + x) (rank_take ws n s (omega (arith, here, l))) ∙ sym here)
]

pub key_take : (ws : List Wish) (n : ℕ) (s : Code) → preference_rank ws s < n → key_at (take n ws) s ≡ key_at ws s
key_take [] zero s l = refl
key_take [] (suc n) s l = refl
key_take (w ∷ ws) zero s l = absurd (omega arith)
key_take (w ∷ ws) (suc n) s l = elim (cases_Bool (bytes_eq w.school s)) [
  | inl hit ↦
      ap (λ b. option_map (λ (x : Wish). x.key) (cond b (Some w) (find (λ x. bytes_eq x.school s) (take n ws)))) hit
      ∙ sym (ap (λ b. option_map (λ (x : Wish). x.key) (cond b (Some w) (find (λ x. bytes_eq x.school s) ws))) hit)
  | inr miss ↦
      let here : preference_rank (w ∷ ws) s ≡ 1 + preference_rank ws s = ap (λ b. cond (not b) (1 + preference_rank ws s) 0) miss in
      ap (λ b. option_map (λ (x : Wish). x.key) (cond b (Some w) (find (λ x. bytes_eq x.school s) (take n ws)))) miss
      ∙ (key_take ws n s (omega (arith, here, l))
      ∙ sym (ap (λ b. option_map (λ (x : Wish). x.key) (cond b (Some w) (find (λ x. bytes_eq x.school s) ws))) miss))
]

-- what is on the beginning is before its end
pub rank_taken : (ws : List Wish) (n : ℕ) (s : Code) → preference_rank (take n ws) s < length (take n ws) → preference_rank ws s < n
rank_taken [] zero s l = absurd (omega arith)
rank_taken [] (suc n) s l = absurd (omega arith)
rank_taken (w ∷ ws) zero s l = absurd (omega arith)
rank_taken (w ∷ ws) (suc n) s l = elim (cases_Bool (bytes_eq w.school s)) [
  | inl hit ↦ omega (arith, ap (λ b. cond (not b) (1 + preference_rank ws s) 0) hit)
  | inr miss ↦
      let here : preference_rank (w ∷ ws) s ≡ 1 + preference_rank ws s = ap (λ b. cond (not b) (1 + preference_rank ws s) 0) miss in
      let there : preference_rank (w ∷ take n ws) s ≡ 1 + preference_rank (take n ws) s = ap (λ b. cond (not b) (1 + preference_rank (take n ws) s) 0) miss in
      omega (arith, here, rank_taken ws n s (omega (arith, there, l)))
]

pub at_take : (ws : List Wish) (n j : ℕ) (w : Wish) → slice_get (take n ws) j ≡ Some w → (slice_get ws j ≡ Some w) × (j < n)
at_take [] zero j w e = absurd (none-some w e)
at_take [] (suc n) j w e = absurd (none-some w e)
at_take (x ∷ xs) zero j w e = absurd (none-some w e)
at_take (x ∷ xs) (suc n) zero w e = (e, omega arith)
at_take (x ∷ xs) (suc n) (suc j) w e = let h = at_take xs n j w e in (h.0, omega (arith, h.1))
