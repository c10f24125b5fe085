-- Draws in the order of their numbers: which of new ones is the last.
use Rattle.std.proofs.Common.{◌≡◌, ◌⊎◌, ◌∙◌, ◌+◌, ◌≤◌, ◌-◌, ℕ, inl, inr, Bool, true, false, cond, List, [], ◌∷◌, ◌++◌, filter, length, drop, Some, None, Option, refl, sym, ap, subst, arith, length-append}
use Rattle.std.specs.Cmp.{nat_cmp_total}
use Rattle.std.specs.List.{AllByRecursion}
use Rattle.std.specs.Ordering.{nat_cmp}
use Rattle.std.specs.FinMap.{FinMap, get, values, nat_cmp-IsAntisymmetric}
use Rattle.std.proofs.lemmas.Bool.{and_parts}
use Rattle.std.proofs.lemmas.List.Elements.{filter-append}
use Rattle.std.proofs.lemmas.List.Sorted.{length_permutation}
use Rattle.sqlite_rules.specs.Lists.{Has}
use Rattle.std.proofs.lemmas.Option.{none-some}
use Rattle.std.proofs.lemmas.List.{nil_from_length}
use Rattle.adm_types.specs.Seasons.{SeasonFacts}
use Rattle.adm_types.specs.declared.draws.Draw.{Draw}
use Rattle.adm_types.specs.declared.draws.DrawRow.{DrawRow}
use Rattle.adm_register.specs.Difference.{AreNew}
use Rattle.adm_register.specs.Draws.{no_draws, count_draw, is_next, are_in_order}
use Rattle.adm_register.specs.declared.draws_so_far.DrawsSoFar.{DrawsSoFar}
use Rattle.adm_store.specs.Changes.{last_draw}
use Rattle.adm_rows.proofs.DrawNumbers.{next_numbered}
use Rattle.adm_store.proofs.AddedRows.{old_and_new}
use Rattle.adm_rows.proofs.Entries.{has_value, value_at}
use Rattle.adm_rows.proofs.RowLemmas.{recursion_had}

-- none has a greater number than there are draws
low_numbers : (season : SeasonFacts) (before : DrawsSoFar) (draws : List Draw) → are_in_order season before draws ≡ true → AllByRecursion (λ draw. draw.number ≤ before.draws + length draws) draws
low_numbers season before draws in_order = go before draws (before.draws + length draws) in_order (omega arith)
  where
    go : (before : DrawsSoFar) (draws : List Draw) (most : ℕ) → are_in_order season before draws ≡ true → before.draws + length draws ≤ most → AllByRecursion (λ draw. draw.number ≤ most) draws
    go before [] most in_order low = tt
    go before (draw ∷ draws) most in_order low =
        let parts = and_parts (is_next season before draw) (are_in_order season (count_draw before draw) draws) in_order in
        let own = (next_numbered season before draw parts.0).number in
        (omega (arith, own, low), go (count_draw before draw) draws most parts.1 (omega (arith, low)))

-- the last has as its number how many there are
last_number : (season : SeasonFacts) (before : DrawsSoFar) (draws : List Draw) (last : Draw) → are_in_order season before (draws ++ last ∷ []) ≡ true
    → last.number ≡ before.draws + length (draws ++ last ∷ [])
last_number season before [] last in_order = (next_numbered season before last (and_parts (is_next season before last) true in_order).0).number
last_number season before (draw ∷ draws) last in_order =
    let parts = and_parts (is_next season before draw) (are_in_order season (count_draw before draw) (draws ++ last ∷ [])) in_order in
    let rest = last_number season (count_draw before draw) draws last parts.1 in
    omega (arith, rest)

-- ---- the last of a list

pub last_of : {X : Type 0} (xs : List X) → (xs ≡ []) ⊎ ((ys : List X) × (y : X) × (xs ≡ ys ++ y ∷ []))
last_of [] = inl refl
last_of (x ∷ xs) = elim (last_of xs) [ inl none ↦ inr ([], x, ap (λ ys. x ∷ ys) none) | inr it ↦ inr (x ∷ it.0, it.1, ap (λ ys. x ∷ ys) it.2) ]

drop_front : {X : Type 0} (xs ys : List X) → drop (length xs) (xs ++ ys) ≡ ys
drop_front [] ys = refl
drop_front (x ∷ xs) ys = drop_front xs ys

pub last_is : (rows : List DrawRow) (row : DrawRow) → last_draw (rows ++ row ∷ []) ≡ row ∷ []
last_is rows row =
    let long : length (rows ++ row ∷ []) - 1 ≡ length rows = omega (arith, length-append rows (row ∷ [])) in
    ap (λ n. drop n (rows ++ row ∷ [])) long ∙ drop_front rows (row ∷ [])

-- ---- the draws of a register, and those of the one before

at_end : {X : Type 0} (xs : List X) (x : X) → Has (xs ++ x ∷ []) x
at_end [] x = inl refl
at_end (y ∷ xs) x = inr (at_end xs x)

-- where a register has more draws than the one before, the last of the new ones has as its number how many there are
module _ (season : SeasonFacts) (old new : FinMap nat_cmp Draw) (own_old : (k : ℕ) (d : Draw) → get old k ≡ Some d → d.number ≡ k) (own : (k : ℕ) (d : Draw) → get new k ≡ Some d → d.number ≡ k)
    (kept : (k : ℕ) (d : Draw) → get old k ≡ Some d → get new k ≡ Some d) (was : are_in_order season no_draws (values old) ≡ true) (are : are_in_order season no_draws (values new) ≡ true)
    (news : List Draw) (differ : AreNew (λ (d : Draw). d.number) old new news) where
  abbrev pub Counted : Type 0
  Counted = ((news ≡ []) × (length (values old) ≡ length (values new))) ⊎ ((ys : List Draw) × (last : Draw) × (news ≡ ys ++ last ∷ []) × (last.number ≡ length (values new)))

  more : length (values old) + length news ≡ length (values new)
  more = let all = length_permutation _ _ (old_and_new nat_cmp_total nat_cmp-IsAntisymmetric (λ (d : Draw). d.number) old new own kept news differ) in
      omega (arith, all, length-append (values old) news)

  none_new : length (values new) ≤ length (values old) → Counted
  none_new low = inl (nil_from_length news (omega (arith, more, low)), omega (arith, more, low))

  pub counted : Counted
  counted = elim (last_of (values new)) [
    | inl none ↦ let empty = ap length none in none_new (omega (arith, empty))
    | inr it ↦ ends it.0 it.1 it.2
  ]
    where
      ends : (front : List Draw) (last : Draw) → values new ≡ front ++ last ∷ [] → Counted
      ends front last is = go (differ.is_new last) refl
        where
          number : last.number ≡ length (values new)
          number =
              let at = last_number season no_draws front last (subst (λ draws. are_in_order season no_draws draws ≡ true) is are) in
              let long = ap length is in
              omega (arith, at, long)

          there : get new last.number ≡ Some last
          there = value_at nat_cmp_total nat_cmp-IsAntisymmetric (λ (d : Draw). d.number) new own last (subst (λ draws. Has draws last) (sym is) (at_end front last))

          -- it was there, and so no draw is new
          stayed : differ.is_new last ≡ false → (o : Option Draw) → get old last.number ≡ o → Counted
          stayed not_new None none = absurd (let wrong : false ≡ true = sym not_new ∙ (differ.decides last there).1 (λ e. none-some last (sym none ∙ e)) in cc)
          stayed not_new (Some draw) had =
              let low = recursion_had (λ (d : Draw). d.number ≤ no_draws.draws + length (values old)) (values old) draw (low_numbers season no_draws (values old) was)
              (has_value nat_cmp_total nat_cmp-IsAntisymmetric old last.number draw had) in
              let same = own_old last.number draw had in
              none_new (omega (arith, low, same, number))

          go : (b : Bool) → differ.is_new last ≡ b → Counted
          go true new_one =
              let kept_last : filter differ.is_new (last ∷ []) ≡ last ∷ [] = ap (λ b. cond b (last ∷ []) []) new_one in
              inr (
                filter differ.is_new front,
                last,
                differ.rows_are ∙ ap (filter differ.is_new) is ∙ filter-append differ.is_new front (last ∷ [])
                    ∙ ap (λ xs. filter differ.is_new front ++ xs) kept_last,
                number,
              )
          go false not_new = stayed not_new (get old last.number) refl
