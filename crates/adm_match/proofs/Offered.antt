-- What rows give, in their order and in the order of the children.
use Rattle.std.proofs.Common.{◌≡◌, ◌==◌, ℕ, ◌<◌, ◌≤◌, List, [], ◌∷◌, length, get_or, map, filter, Option, None, Some, Bool, true, false, cond, ltb, inl, inr, refl, sym, ap, ◌∙◌, arith}
use Rattle.std.specs.Prelude.{option_map, unwrap_or, find}
use Rattle.std.specs.List.{slice_get}
use Rattle.std.specs.List.Sorted.{IsSortedByKey, IsStableByKey, IsPartitionPoint, ties}
use Rattle.std.specs.Ordering.{nat_cmp, is_lt}
use Rattle.std.proofs.lemmas.Bool.{cases_Bool, cases_lt, ltb-true, ltb-false}
use Rattle.std.proofs.lemmas.Bool.Decides.{nat_tests}
use Rattle.std.proofs.lemmas.Option.{get_or_from_slice_get, slice_get_within}
use Rattle.std.proofs.lemmas.List.Sorted.{IsNonDecreasingBy-from_sort}
use Rattle.adm_match.specs.declared.progress.Progress.{Progress}
use Rattle.adm_match.specs.Market.{Code}
use Rattle.adm_match.specs.Stability.{Allotment, school_of}
use Rattle.adm_match.specs.Turns.{given_by, found_in}
use Rattle.adm_match.proofs.GivenByRows.{find_is, find_none}

-- the first that passes is the first of all that pass
find_filter : {X : Type 0} (p : X → Bool) (xs : List X) → find p xs ≡ slice_get (filter p xs) 0
find_filter p [] = refl
find_filter p (x ∷ xs) = elim (cases_Bool (p x)) [
  | inl hit ↦ ap (λ b. cond b (Some x) (find p xs)) hit ∙ sym (ap (λ b. slice_get (cond b (x ∷ filter p xs) (filter p xs)) 0) hit)
  | inr miss ↦
      ap (λ b. cond b (Some x) (find p xs)) miss
      ∙ (find_filter p xs ∙ sym (ap (λ b. slice_get (cond b (x ∷ filter p xs) (filter p xs)) 0) miss))
]

-- rows that tie in the order of the children are those of one child
same_child : (child q : ℕ) → ties (λ (x y : ℕ). is_lt (nat_cmp x y)) child q ≡ (q == child)
same_child child q = grind (arith, nat_tests)

-- a stable sort by the children leaves what the rows give
pub found_sorted : (rows sorted : List Progress) → IsStableByKey (λ (row : Progress). row.child) nat_cmp rows sorted → (child : ℕ) → found_in sorted child ≡ found_in rows child
found_sorted rows sorted stable child =
    let row : Progress = record { child = child; school = None; rejections = 0 } in
    let test : Progress → Bool = λ r. r.child == child in
    let same : ties (λ (x y : Progress). is_lt (nat_cmp x.child y.child)) row ≡ test = λ i y. same_child child y.child i in
    let rest : filter test sorted ≡ filter test rows = (λ i. filter (sym same i) sorted) ∙ (stable row ∙ (λ i. filter (same i) rows)) in
    ap (λ (o : Option Progress). unwrap_or (option_map (λ (r : Progress). r.school) o) None)
    (find_filter test sorted ∙ (ap (λ (xs : List Progress). slice_get xs 0) rest ∙ sym (find_filter test rows)))

find_given : (rows : List Progress) (child : ℕ) → option_map (λ (row : ℕ × Option Code). row.1) (find (λ (row : ℕ × Option Code). row.0 == child) (map given_by rows))
    ≡ option_map (λ (row : Progress). row.school) (find (λ (row : Progress). row.child == child) rows)
find_given [] child = refl
find_given (row ∷ rows) child = elim (cases_Bool (row.child == child)) [
  | inl hit ↦
      ap (λ b. option_map (λ (r : ℕ × Option Code). r.1) (cond b (Some (given_by row)) (find (λ (r : ℕ × Option Code). r.0 == child) (map given_by rows)))) hit
      ∙ sym (ap (λ b. option_map (λ (r : Progress). r.school) (cond b (Some row) (find (λ (r : Progress). r.child == child) rows))) hit)
  | inr miss ↦
      ap (λ b. option_map (λ (r : ℕ × Option Code). r.1) (cond b (Some (given_by row)) (find (λ (r : ℕ × Option Code). r.0 == child) (map given_by rows)))) miss
      ∙ (find_given rows child
      ∙ sym (ap (λ b. option_map (λ (r : Progress). r.school) (cond b (Some row) (find (λ (r : Progress). r.child == child) rows))) miss))
]

-- what is offered is what the rows give
pub school_given : (rows : List Progress) (n child : ℕ) → school_of (record { given = map given_by rows; proposals = n }) child ≡ found_in rows child
school_given rows n child = ap (λ (o : Option (Option Code)). unwrap_or o None) (find_given rows child)

-- ---- a search by halving

module _ (rows : List Progress) (child at : ℕ) (sorted : IsSortedByKey (λ (row : Progress). row.child) nat_cmp rows)
    (point : IsPartitionPoint (λ (row : Progress). ltb row.child child ≡ true) (λ (row : Progress). ltb row.child child ≡ false) rows at) where
  -- a row before the point is of a smaller child
  before : (j : ℕ) (y : Progress) → j < at → slice_get rows j ≡ Some y → (y.child == child) ≡ false
  before j y less jy =
      let is : get_or rows j y ≡ y = get_or_from_slice_get rows j y y jy in
      let below = ltb-true y.child child (ap (λ (r : Progress). ltb r.child child) (sym is) ∙ point.0 j y (omega arith) less) in
      grind (arith, nat_tests, below)

  pub first_there : (row : Progress) → slice_get rows at ≡ Some row → (row.child == child) ≡ true → found_in rows child ≡ row.school
  first_there row here hit =
      ap (λ (o : Option Progress). unwrap_or (option_map (λ (r : Progress). r.school) o) None)
      (find_is (λ (r : Progress). r.child == child) rows at row here hit (λ j y less jy. before j y less jy))

  pub none_there : (row : Progress) → slice_get rows at ≡ Some row → (row.child == child) ≡ false → found_in rows child ≡ None
  none_there row here miss =
      ap (λ (o : Option Progress). unwrap_or (option_map (λ (r : Progress). r.school) o) None)
      (find_none (λ (r : Progress). r.child == child) rows (λ j y jy. elim (cases_lt j at) [
        | inl less ↦ before j y less jy
        | inr most ↦
            let within = slice_get_within rows j y jy in
            let mine : get_or rows at y ≡ row = get_or_from_slice_get rows at row y here in
            let is : get_or rows j y ≡ y = get_or_from_slice_get rows j y y jy in
            let rises = IsNonDecreasingBy-from_sort (λ (r : Progress). r.child) rows sorted at j y most within in
            let above = ltb-false row.child child (ap (λ (r : Progress). ltb r.child child) (sym mine) ∙ point.1 at y (omega arith) (omega (arith, most, within))) in
            let up : row.child ≤ y.child = omega (arith, rises, ap (λ (r : Progress). r.child) mine, ap (λ (r : Progress). r.child) is) in
            grind (arith, nat_tests, above, up, miss)
      ]))

  pub none_left : length rows ≤ at → found_in rows child ≡ None
  none_left all =
      ap (λ (o : Option Progress). unwrap_or (option_map (λ (r : Progress). r.school) o) None)
      (find_none (λ (r : Progress). r.child == child) rows (λ j y jy. before j y (omega (arith, all, slice_get_within rows j y jy)) jy))
