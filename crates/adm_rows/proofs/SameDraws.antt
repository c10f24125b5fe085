-- Draws of two registers whose rows are the same are the same.
use Rattle.std.proofs.Common.{◌≡◌, ◌∙◌, ℕ, inl, inr, true, List, [], ◌∷◌, ◌++◌, map, flat_map, Some, None, Option, refl, sym, ap, subst}
use Rattle.std.specs.Prelude.{◌⊎◌}
use Rattle.std.specs.List.{list_all}
use Rattle.std.specs.List.Sorted.{IsPermutation}
use Rattle.std.specs.Ordering.{nat_cmp, is_lt}
use Rattle.std.specs.declared.cmp.Ordering.{Ordering}
use Rattle.std.specs.declared.cmp.Ordering.TheVariants.{Less, Equal}
use Rattle.std.specs.Cmp.{IsTotalOrder, nat_cmp_total, on_total, then_total, tied_itself}
use Rattle.std.specs.Cmp.Lexicographic.{nat_list_cmp_total}
use Rattle.std.specs.FinMap.{FinMap, get, values, same_map, nat_cmp-IsAntisymmetric}
use Rattle.std.proofs.lemmas.Bool.{and_parts}
use Rattle.std.proofs.lemmas.List.Sorted.{IsPermutation-sym, Contains-permutation}
use Rattle.sqlite_rules.specs.Lists.{Has}
use Rattle.sqlite_rules.proofs.ListLemmas.{has_contained, contains_had, test_has}
use Rattle.std.proofs.lemmas.Option.{same_Some}
use Rattle.adm_lists.proofs.Orders.{less_of}
use Rattle.adm_schema.proofs.Lists.{has_source, has_mapped}
use Rattle.adm_types.specs.declared.draws.Draw.{Draw}
use Rattle.adm_types.specs.declared.draws.DrawRow.{DrawRow}
use Rattle.adm_types.specs.declared.draws.OfferRow.{OfferRow}
use Rattle.adm_types.specs.declared.draws.LotRow.{LotRow}
use Rattle.adm_types.specs.declared.draws.Outcome.{Outcome}
use Rattle.adm_types.specs.declared.draws.Lot.{Lot}
use Rattle.adm_draws.specs.Draws.{row_of, offer_row_of, lot_row_of, offer_rows_of, lot_rows_of, outcome_cmp, lot_cmp, rises, are_ordered, AreDrawRowsOf}
use Rattle.adm_rows.proofs.Entries.{has_value, value_at}

-- ---- lists in order with the same members

has_moved : {X : Type 0} (xs ys : List X) (x : X) → IsPermutation xs ys → Has xs x → Has ys x
has_moved xs ys x same h = has_contained ys x (Contains-permutation xs ys x same (contains_had xs x h))

module _ {X : Type 0} {R : X → X → Ordering} (total : IsTotalOrder R) where
  not_both : (x y : X) → R x y ≡ Less → R y x ≡ Less → ⊥
  not_both x y one two = let wrong : Less ≡ Equal = sym (total.trans x y x one two) ∙ tied_itself total x in absurd (cc)

  head_first : (x : X) (xs : List X) (y : X) → rises R (x ∷ xs) ≡ true → Has xs y → R x y ≡ Less
  head_first x xs y rise h = less_of (R x y) (test_has (λ z. is_lt (R x z)) xs y (and_parts (list_all (λ z. is_lt (R x z)) xs) (rises R xs) rise).0 h)

  tails_too : (x : X) (xs ys : List X) → rises R (x ∷ xs) ≡ true → ((z : X) → Has (x ∷ xs) z → Has (x ∷ ys) z) → (z : X) → Has xs z → Has ys z
  tails_too x xs ys rise there z h = elim (there z (inr h)) [
    | inl is ↦ absurd (not_both x x (subst (λ w. R x w ≡ Less) is (head_first x xs z rise h)) (subst (λ w. R x w ≡ Less) is (head_first x xs z rise h)))
    | inr later ↦ later
  ]

  pub rises_once : (xs ys : List X) → rises R xs ≡ true → rises R ys ≡ true → ((z : X) → Has xs z → Has ys z) → ((z : X) → Has ys z → Has xs z) → xs ≡ ys
  rises_once [] [] p q to from = refl
  rises_once [] (y ∷ ys) p q to from = absurd (from y (inl refl))
  rises_once (x ∷ xs) [] p q to from = absurd (to x (inl refl))
  rises_once (x ∷ xs) (y ∷ ys) p q to from =
      let heads : x ≡ y = elim (to x (inl refl)) [
        | inl is ↦ is
        | inr later ↦ elim (from y (inl refl)) [ inl is ↦ sym is | inr other ↦ absurd (not_both x y (head_first x xs y p other) (head_first y ys x q later)) ]
      ] in
      let q2 = subst (λ z. rises R (z ∷ ys) ≡ true) (sym heads) q in
      let to2 = subst (λ w. (z : X) → Has (x ∷ xs) z → Has (w ∷ ys) z) (sym heads) to in
      let from2 = subst (λ w. (z : X) → Has (w ∷ ys) z → Has (x ∷ xs) z) (sym heads) from in
      λ k. heads k ∷ rises_once xs ys (and_parts (list_all (λ z. is_lt (R x z)) xs) (rises R xs) p).1 (and_parts (list_all (λ z. is_lt (R y z)) ys) (rises R ys) q).1
      (tails_too x xs ys p to2) (tails_too x ys xs q2 from2) k

outcome_total : IsTotalOrder outcome_cmp
outcome_total = on_total (λ (o : Outcome). o.child) nat_cmp_total

lot_total : IsTotalOrder lot_cmp
lot_total = then_total (on_total (λ (l : Lot). l.school) nat_list_cmp_total) (on_total (λ (l : Lot). l.child) nat_cmp_total)

-- ---- the rows of one draw among those of all

has_front : {X : Type 0} (xs ys : List X) (x : X) → Has xs x → Has (xs ++ ys) x
has_front [] ys x h = absurd h
has_front (y ∷ xs) ys x (inl is) = inl is
has_front (y ∷ xs) ys x (inr h) = inr (has_front xs ys x h)

has_back : {X : Type 0} (xs ys : List X) (x : X) → Has ys x → Has (xs ++ ys) x
has_back [] ys x h = h
has_back (y ∷ xs) ys x h = inr (has_back xs ys x h)

has_either : {X : Type 0} (xs ys : List X) (x : X) → Has (xs ++ ys) x → Has xs x ⊎ Has ys x
has_either [] ys x h = inr h
has_either (y ∷ xs) ys x (inl is) = inl (inl is)
has_either (y ∷ xs) ys x (inr h) = elim (has_either xs ys x h) [ inl one ↦ inl (inr one) | inr two ↦ inr two ]

module _ {D Y : Type 0} (parts : D → List Y) where
  in_flat : (ds : List D) (d : D) (y : Y) → Has ds d → Has (parts d) y → Has (flat_map parts ds) y
  in_flat [] d y h own = absurd h
  in_flat (e ∷ ds) d y (inl is) own = has_front (parts e) (flat_map parts ds) y (subst (λ x. Has (parts x) y) is own)
  in_flat (e ∷ ds) d y (inr h) own = has_back (parts e) (flat_map parts ds) y (in_flat ds d y h own)

  from_flat : (ds : List D) (y : Y) → Has (flat_map parts ds) y → (d : D) × Has ds d × Has (parts d) y
  from_flat [] y h = absurd h
  from_flat (e ∷ ds) y h = elim (has_either (parts e) (flat_map parts ds) y h) [ inl own ↦ (e, inl refl, own) | inr more ↦ let it = from_flat ds y more in (it.0, inr it.1, it.2) ]

abbrev OwnNumbers : FinMap nat_cmp Draw → Type 0
OwnNumbers draws = (k : ℕ) (d : Draw) → get draws k ≡ Some d → d.number ≡ k

-- what one draw has of a list, the draw of its number in the other register has too
module _ {I Y : Type 0} (items : Draw → List I) (row : ℕ → I → Y) (number_of : Y → ℕ) (item_of : Y → I) (number_back : (n : ℕ) (i : I)
    → number_of (row n i) ≡ n) (item_back : (n : ℕ) (i : I) → item_of (row n i) ≡ i) where
  items_moved : (a b : FinMap nat_cmp Draw) → OwnNumbers a → OwnNumbers b
      → IsPermutation (flat_map (λ d. map (row d.number) (items d)) (values a)) (flat_map (λ d. map (row d.number) (items d)) (values b))
      → (k : ℕ) (d e : Draw) → get a k ≡ Some d → get b k ≡ Some e → (i : I) → Has (items d) i → Has (items e) i
  items_moved a b own other same k d e one two i h =
      let rows = λ (x : Draw). map (row x.number) (items x) in
      let here = in_flat rows (values a) d (row d.number i) (has_value nat_cmp_total nat_cmp-IsAntisymmetric a k d one) (has_mapped (row d.number) (items d) i h) in
      let there = from_flat rows (values b) (row d.number i) (has_moved _ _ _ same here) in
      let it = has_source (row there.0.number) (items there.0) (row d.number i) there.2 in
      let number : there.0.number ≡ k = sym (number_back there.0.number it.0) ∙ ap number_of (sym it.2) ∙ number_back d.number i ∙ own k d one in
      let found : get b k ≡ Some there.0 = ap (get b) (sym number) ∙ value_at nat_cmp_total nat_cmp-IsAntisymmetric (λ (x : Draw). x.number) b other there.0 there.1 in
      let draw : there.0 ≡ e = same_Some there.0 e (sym found ∙ two) in
      let item : it.0 ≡ i = sym (item_back there.0.number it.0) ∙ ap item_of (sym it.2) ∙ item_back d.number i in
      subst (Has (items e)) item (subst (λ (x : Draw). Has (items x) it.0) draw it.1)

-- ---- two registers

abbrev AreOrdered : FinMap nat_cmp Draw → Type 0
AreOrdered draws = (k : ℕ) (d : Draw) → get draws k ≡ Some d → are_ordered d ≡ true

module _ (a b : FinMap nat_cmp Draw) (own : OwnNumbers a) (other : OwnNumbers b) (ordered : AreOrdered a) (ordered_too : AreOrdered b)
    (rows : AreDrawRowsOf (map row_of (values a)) (flat_map offer_rows_of (values a)) (flat_map lot_rows_of (values a)) (values b)) where
  same_head : (k : ℕ) (d : Draw) → get a k ≡ Some d → (e : Draw) × (get b k ≡ Some e) × (row_of d ≡ row_of e)
  same_head k d one =
      let here = has_mapped row_of (values a) d (has_value nat_cmp_total nat_cmp-IsAntisymmetric a k d one) in
      let it = has_source row_of (values b) (row_of d) (has_moved _ _ _ rows.heads here) in
      let number : it.0.number ≡ k = ap (λ (r : DrawRow). r.draw) (sym it.2) ∙ own k d one in
      (it.0, ap (get b) (sym number) ∙ value_at nat_cmp_total nat_cmp-IsAntisymmetric (λ (x : Draw). x.number) b other it.0 it.1, it.2)

  same_parts : (k : ℕ) (d e : Draw) → get a k ≡ Some d → get b k ≡ Some e → row_of d ≡ row_of e → d ≡ e
  same_parts k d e one two head =
      let mine = and_parts (rises outcome_cmp d.outcomes) (rises lot_cmp d.lots) (ordered k d one) in
      let theirs = and_parts (rises outcome_cmp e.outcomes) (rises lot_cmp e.lots) (ordered_too k e two) in
      let offer_moved = items_moved (λ (x : Draw). x.outcomes) offer_row_of (λ (r : OfferRow). r.draw) (λ (r : OfferRow). r.outcome) (λ _ _. refl) (λ _ _. refl) in
      let lot_moved = items_moved (λ (x : Draw). x.lots) lot_row_of (λ (r : LotRow). r.draw) (λ (r : LotRow). r.lot) (λ _ _. refl) (λ _ _. refl) in
      let outcomes = rises_once outcome_total d.outcomes e.outcomes mine.0 theirs.0 (offer_moved a b own other rows.offers k d e one two)
      (offer_moved b a other own (IsPermutation-sym _ _ rows.offers) k e d two one) in
      let lots = rises_once lot_total d.lots e.lots mine.1 theirs.1 (lot_moved a b own other rows.lots k d e one two) (lot_moved b a other own (IsPermutation-sym _ _ rows.lots) k e d two one) in
      λ i. record { number = (head i).draw; round = (head i).round; school = (head i).school; day = (head i).day; outcomes = outcomes i; lots = lots i }

  had_too : (k : ℕ) (d : Draw) → get a k ≡ Some d → get b k ≡ Some d
  had_too k d one = let it = same_head k d one in it.1 ∙ ap Some (sym (same_parts k d it.0 one it.1 it.2))

swapped : (a b : FinMap nat_cmp Draw) → AreDrawRowsOf (map row_of (values a)) (flat_map offer_rows_of (values a)) (flat_map lot_rows_of (values a)) (values b)
    → AreDrawRowsOf (map row_of (values b)) (flat_map offer_rows_of (values b)) (flat_map lot_rows_of (values b)) (values a)
swapped a b rows = record { heads = IsPermutation-sym _ _ rows.heads; offers = IsPermutation-sym _ _ rows.offers; lots = IsPermutation-sym _ _ rows.lots }

-- draws at their own numbers, each in order, whose rows are the same, are the same
pub same_draws : (a b : FinMap nat_cmp Draw) → OwnNumbers a → OwnNumbers b → AreOrdered a → AreOrdered b
    → AreDrawRowsOf (map row_of (values a)) (flat_map offer_rows_of (values a)) (flat_map lot_rows_of (values a)) (values b) → a ≡ b
same_draws a b own other ordered ordered_too rows = same_map nat_cmp_total nat_cmp-IsAntisymmetric a b (λ k. go k (get a k) refl (get b k) refl)
  where
    go : (k : ℕ) (x : Option Draw) → get a k ≡ x → (y : Option Draw) → get b k ≡ y → get a k ≡ get b k
    go k (Some d) is y at = is ∙ sym (had_too a b own other ordered ordered_too rows k d is)
    go k None is (Some e) at = had_too b a other own ordered_too ordered (swapped a b rows) k e at ∙ sym at
    go k None is None at = is ∙ sym at
