-- Draws in the order of their numbers: the next one, and those that a change puts after others.
use Rattle.std.proofs.Common.{◌≡◌, ◌∙◌, ap, sym, refl, cond, true, false, ℕ, ◌+◌, ◌≤◌, ◌<◌, List, [], ◌∷◌, ◌++◌, Some, None, arith}
use Rattle.std.specs.Prelude.{map, ◌&&◌, not, is_some, Option, All}
use Rattle.std.specs.declared.cmp.Ordering.TheVariants.{Greater}
use Rattle.std.specs.Ordering.{nat_cmp, eq_by_cmp}
use Rattle.std.specs.Cmp.{nat_cmp_total, nat_cmp_is, unsigned_Decides}
use Rattle.std.specs.List.{AllByRecursion}
use Rattle.std.specs.Map.{keys_of, values_of}
use Rattle.std.specs.FinMap.{FinMap, get, insert, put, entries, values, contains_key, entries-insert, get-insert, nat_cmp-IsAntisymmetric}
use Rattle.std.proofs.lemmas.List.Elements.{All-nil, All-cons, All-head, All-tail}
use Rattle.std.proofs.lemmas.Bool.{and_parts}
use Rattle.std.proofs.lemmas.Option.{same_Some}
use Rattle.adm_lists.proofs.Orders.{same_key}
use Rattle.adm_lists.proofs.Each.{list_all-weaker}
use Rattle.adm_types.specs.Seasons.{SeasonFacts}
use Rattle.adm_types.specs.declared.rows.School.{School}
use Rattle.adm_types.specs.declared.rows.Child.{Child}
use Rattle.adm_types.specs.declared.draws.Draw.{Draw}
use Rattle.adm_types.specs.declared.draws.Outcome.{Outcome}
use Rattle.adm_types.specs.declared.draws.Lot.{Lot}
use Rattle.adm_register.specs.declared.draws_so_far.DrawsSoFar.{DrawsSoFar}
use Rattle.adm_types.specs.Limits.{code_cmp}
use Rattle.adm_register.specs.Change.{put_all}
use Rattle.adm_register.specs.WellFormed.{AllRows}
use Rattle.adm_register.specs.Draws.{no_draws, count_draw, count_draws, is_next, are_in_order, is_choice, is_known_outcome, is_known_lot, DrawFits}
use Rattle.adm_register.proofs.Puts.{Grows}
use Rattle.adm_register.proofs.SameRows.{entries_at_own_keys, rows_hold}

-- ---- one after another

more_draws : (before : DrawsSoFar) (draws : List Draw) → before.draws ≤ (count_draws before draws).draws
more_draws before [] = omega arith
more_draws before (draw ∷ draws) = let rest = more_draws (count_draw before draw) draws in omega (arith, rest)

pub with_draws-append : (before : DrawsSoFar) (xs ys : List Draw) → count_draws before (xs ++ ys) ≡ count_draws (count_draws before xs) ys
with_draws-append before [] ys = refl
with_draws-append before (draw ∷ xs) ys = with_draws-append (count_draw before draw) xs ys

pub are_in_order-append : (season : SeasonFacts) (before : DrawsSoFar) (xs ys : List Draw) → are_in_order season before xs ≡ true
    → are_in_order season (count_draws before xs) ys ≡ true → are_in_order season before (xs ++ ys) ≡ true
are_in_order-append season before [] ys first second = second
are_in_order-append season before (draw ∷ xs) ys first second =
    let both = and_parts (is_next season before draw) _ first in
    λ i. both.0 i && are_in_order-append season (count_draw before draw) xs ys both.1 second i

-- the next draw has the next number
pub next_number : (season : SeasonFacts) (before : DrawsSoFar) (draw : Draw) → is_next season before draw ≡ true → draw.number ≡ before.draws + 1
next_number season before draw next =
    let a = and_parts _ _ next in
    let b = and_parts _ _ a.0 in
    let d = and_parts _ _ b.0 in
    let e = and_parts _ _ d.0 in
    let f = and_parts _ _ e.0 in
    (unsigned_Decides draw.number (before.draws + 1)).0 f.0

numbers_up_to : (season : SeasonFacts) (before : DrawsSoFar) (draws : List Draw) → are_in_order season before draws ≡ true → All (λ (draw : Draw). draw.number ≤ (count_draws before draws).draws) draws
numbers_up_to season before [] in_order = All-nil (λ (draw : Draw). draw.number ≤ before.draws)
numbers_up_to season before (draw ∷ draws) in_order =
    let both = and_parts (is_next season before draw) _ in_order in
    let number = next_number season before draw both.0 in
    let more = more_draws (count_draw before draw) draws in
    All-cons (λ (d : Draw). d.number ≤ (count_draws (count_draw before draw) draws).draws) draw draws (omega (arith, number, more)) (numbers_up_to season (count_draw before draw) draws both.1)

numbers_from : (season : SeasonFacts) (before : DrawsSoFar) (draws : List Draw) (n : ℕ) → n ≤ before.draws → are_in_order season before draws ≡ true
    → AllByRecursion (λ (draw : Draw). n < draw.number) draws
numbers_from season before [] n least in_order = tt
numbers_from season before (draw ∷ draws) n least in_order =
    let both = and_parts (is_next season before draw) _ in_order in
    let number = next_number season before draw both.0 in
    (omega (arith, number, least), numbers_from season (count_draw before draw) draws n (omega (arith, least)) both.1)

-- ---- the draws of a register, and more of them

put_last : (number : ℕ) (draw : Draw) (es : List (ℕ × Draw)) → map (λ (d : Draw). d.number) (values_of es) ≡ keys_of es
    → All (λ (d : Draw). d.number < number) (values_of es) → put nat_cmp number draw es ≡ es ++ (number, draw) ∷ []
put_last number draw [] own below = refl
put_last number draw (e ∷ es) own below =
    let first : e.1.number ≡ e.0 = cc (own) in
    let others : map (λ (d : Draw). d.number) (values_of es) ≡ keys_of es = cc (own) in
    let less = All-head (λ (d : Draw). d.number < number) e.1 (values_of es) below in
    let past : Greater ≡ nat_cmp number e.0 = nat_cmp_is number e.0 Greater (omega (arith, less, first)) in
    rw (sym past) (ap (λ more. e ∷ more) (put_last number draw es others (All-tail (λ (d : Draw). d.number < number) e.1 (values_of es) below)))

values_of-append : (es : List (ℕ × Draw)) (number : ℕ) (draw : Draw) → values_of (es ++ (number, draw) ∷ []) ≡ values_of es ++ draw ∷ []
values_of-append [] number draw = refl
values_of-append (e ∷ es) number draw = ap (λ more. e.1 ∷ more) (values_of-append es number draw)

All-below : (n m : ℕ) (draws : List Draw) → n < m → All (λ (d : Draw). d.number ≤ n) draws → All (λ (d : Draw). d.number < m) draws
All-below n m [] less all = All-nil (λ (d : Draw). d.number < m)
All-below n m (draw ∷ draws) less all =
    let first = All-head (λ (d : Draw). d.number ≤ n) draw draws all in
    All-cons (λ (d : Draw). d.number < m) draw draws (omega (arith, first, less)) (All-below n m draws less (All-tail (λ (d : Draw). d.number ≤ n) draw draws all))

abbrev at_own_numbers : FinMap nat_cmp Draw → Type 0
at_own_numbers draws = AllRows (λ number (draw : Draw). draw.number ≡ number) draws

-- with the next draw at its number, the draws are those that were there, and it
put_next : (rows : FinMap nat_cmp Draw) (season : SeasonFacts) (draw : Draw) → at_own_numbers rows → are_in_order season no_draws (values rows) ≡ true
    → is_next season (count_draws no_draws (values rows)) draw ≡ true → values (insert rows draw.number draw) ≡ values rows ++ draw ∷ []
put_next rows season draw own in_order next =
    let so_far = count_draws no_draws (values rows) in
    let number = next_number season so_far draw next in
    let below = All-below so_far.draws draw.number (values rows) (omega (arith, number)) (numbers_up_to season no_draws (values rows) in_order) in
    ap values_of (entries-insert nat_cmp_total rows draw.number draw
    ∙ put_last draw.number draw (entries rows) (entries_at_own_keys nat_cmp_total nat_cmp-IsAntisymmetric (λ (d : Draw). d.number) rows own) below)
    ∙ values_of-append (entries rows) draw.number draw

append_assoc : (xs : List Draw) (draw : Draw) (ys : List Draw) → (xs ++ draw ∷ []) ++ ys ≡ xs ++ draw ∷ ys
append_assoc [] draw ys = refl
append_assoc (x ∷ xs) draw ys = ap (λ more. x ∷ more) (append_assoc xs draw ys)

pub own-put : (rows : FinMap nat_cmp Draw) (draw : Draw) → at_own_numbers rows → at_own_numbers (insert rows draw.number draw)
own-put rows draw own number other there =
    elim (eq_by_cmp nat_cmp number draw.number) as (λ b. eq_by_cmp nat_cmp number draw.number ≡ b → cond b (Some draw) (get rows number) ≡ Some other → other.number ≡ number) [
      | true ↦ λ tie here. ap (λ (d : Draw). d.number) (sym (same_Some draw other here)) ∙ sym (same_key nat_cmp-IsAntisymmetric number draw.number tie)
      | false ↦ λ tie here. own number other here
    ] refl (sym (get-insert nat_cmp_total rows draw.number draw number) ∙ there)

-- and so with all that come next
pub values_put : (rows : FinMap nat_cmp Draw) (season : SeasonFacts) (draws : List Draw) → at_own_numbers rows → are_in_order season no_draws (values rows) ≡ true
    → are_in_order season (count_draws no_draws (values rows)) draws ≡ true → values (put_all (λ (d : Draw). d.number) rows draws) ≡ values rows ++ draws
values_put rows season [] own in_order next = sym (append_nil (values rows))
  where
    append_nil : (xs : List Draw) → xs ++ [] ≡ xs
    append_nil [] = refl
    append_nil (x ∷ xs) = ap (λ more. x ∷ more) (append_nil xs)
values_put rows season (draw ∷ draws) own in_order next =
    let so_far = count_draws no_draws (values rows) in
    let both = and_parts (is_next season so_far draw) _ next in
    let here = put_next rows season draw own in_order both.0 in
    let reached : count_draws no_draws (values (insert rows draw.number draw)) ≡ count_draw so_far draw = ap (count_draws no_draws) here ∙ with_draws-append no_draws (values rows) (draw ∷ []) in
    let one : are_in_order season so_far (draw ∷ []) ≡ true = λ i. both.0 i && true in
    let ordered : are_in_order season no_draws (values (insert rows draw.number draw)) ≡ true = ap (are_in_order season no_draws) here
    ∙ are_in_order-append season no_draws (values rows) (draw ∷ []) in_order one in
    values_put (insert rows draw.number draw) season draws (own-put rows draw own) ordered (ap (λ before. are_in_order season before draws) reached ∙ both.1)
    ∙ ap (λ xs. xs ++ draws) here ∙ append_assoc (values rows) draw draws

-- none of them was there
pub new_draws : (rows : FinMap nat_cmp Draw) (season : SeasonFacts) (draws : List Draw) → at_own_numbers rows → are_in_order season no_draws (values rows) ≡ true
    → are_in_order season (count_draws no_draws (values rows)) draws ≡ true → AllByRecursion (λ (d : Draw). not (contains_key rows d.number) ≡ true) draws
new_draws rows season draws own in_order next = each draws (numbers_from season so_far draws so_far.draws (omega arith) next)
  where
    so_far : DrawsSoFar
    so_far = count_draws no_draws (values rows)

    low : AllRows (λ number (draw : Draw). draw.number ≤ so_far.draws) rows
    low = rows_hold nat_cmp_total nat_cmp-IsAntisymmetric (λ (d : Draw). d.number ≤ so_far.draws) rows (numbers_up_to season no_draws (values rows) in_order)

    absent : (number : ℕ) → so_far.draws < number → not (contains_key rows number) ≡ true
    absent number high =
        elim (get rows number) as (λ o. get rows number ≡ o → not (is_some o) ≡ true) [
          | Some draw ↦ λ there. let least = low number draw there in let here = own number draw there in absurd (omega (arith, high, least, here))
          | None ↦ λ there. refl
        ] refl

    each : (them : List Draw) → AllByRecursion (λ (d : Draw). so_far.draws < d.number) them → AllByRecursion (λ (d : Draw). not (contains_key rows d.number) ≡ true) them
    each [] high = tt
    each (draw ∷ them) high = (absent draw.number high.0, each them high.1)

-- ---- where rows that they name are still there

module _ (schools new_schools : FinMap code_cmp School) (children new_children : FinMap nat_cmp Child) (more_schools : Grows schools new_schools) (more_children : Grows children new_children) where
  is_choice-grows : (o : Option (List ℕ)) → is_choice schools o ≡ true → is_choice new_schools o ≡ true
  is_choice-grows None there = refl
  is_choice-grows (Some code) there = more_schools code there

  outcome-grows : (o : Outcome) → is_known_outcome schools children o ≡ true → is_known_outcome new_schools new_children o ≡ true
  outcome-grows o there = let both = and_parts _ _ there in λ i. more_children o.child both.0 i && is_choice-grows o.school both.1 i

  lot-grows : (l : Lot) → is_known_lot schools children l ≡ true → is_known_lot new_schools new_children l ≡ true
  lot-grows l there =
      let below = and_parts _ _ there in
      let both = and_parts _ _ below.0 in
      λ i. more_schools l.school both.0 i && more_children l.child both.1 i && below.1 i

  pub DrawFits-grows : (number : ℕ) (draw : Draw) → DrawFits schools children number draw → DrawFits new_schools new_children number draw
  DrawFits-grows number draw fits = record {
    own_number = fits.own_number;
    form = fits.form;
    day = fits.day;
    school = is_choice-grows draw.school fits.school;
    outcomes = list_all-weaker _ _ outcome-grows draw.outcomes fits.outcomes;
    lots = list_all-weaker _ _ lot-grows draw.lots fits.lots;
  }
