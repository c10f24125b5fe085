-- The rows of draws in order are in order, and rows in order are those of such draws.
use Rattle.std.proofs.Common.{◌≡◌, ◌∙◌, ap, sym, refl, ℕ, true, List, [], ◌∷◌, ◌++◌}
use Rattle.std.specs.Prelude.{◌&&◌, map, IsTrue}
use Rattle.std.specs.declared.cmp.Ordering.{Ordering}
use Rattle.std.specs.declared.cmp.Ordering.TheVariants.{Less}
use Rattle.std.specs.Ordering.{nat_cmp, ordering_then, is_lt}
use Rattle.std.specs.List.{All, AllByRecursion, list_all, flat_map}
use Rattle.std.specs.List.Sorted.{IsStrictlySortedBy}
use Rattle.std.specs.Cmp.{first_so, second_so}
use Rattle.std.proofs.lemmas.Cmp.{tied_itself, nat_cmp_total}
use Rattle.std.proofs.lemmas.List.Elements.{recursion_from_All, All-from_recursion}
use Rattle.std.proofs.lemmas.Map.Keys.{sorted_head, sorted_tail}
use Rattle.std.proofs.lemmas.Bool.{and_from}
use Rattle.std.proofs.lemmas.List.Folds.{list_all-append, list_all-map}
use Rattle.adm_types.specs.declared.draws.Draw.{Draw}
use Rattle.adm_types.specs.declared.draws.DrawRow.{DrawRow}
use Rattle.adm_types.specs.declared.draws.OfferRow.{OfferRow}
use Rattle.adm_types.specs.declared.draws.LotRow.{LotRow}
use Rattle.adm_draws.specs.Draws.{rises, row_of, offer_row_of, offer_rows_of, lot_row_of, lot_rows_of, outcome_cmp, lot_cmp, are_ordered, AreByNumber}
use Rattle.adm_draws.proofs.Rising.{sorted_rises, rises_sorted}

-- ---- lists on end

-- two lists rise on end where the one is below the other
rises_append : {X : Type 0} (R : X → X → Ordering) (xs ys : List X) → rises R xs ≡ true → rises R ys ≡ true
    → AllByRecursion (λ x. list_all (λ y. is_lt (R x y)) ys ≡ true) xs → rises R (xs ++ ys) ≡ true
rises_append R [] ys up vp below = vp
rises_append R (x ∷ xs) ys up vp below =
    and_from _ _ (list_all-append (λ y. is_lt (R x y)) xs ys ∙ and_from _ _ (first_so _ _ up) below.0) (rises_append R xs ys (second_so _ _ up) vp below.1)

first_rises : {X : Type 0} (R : X → X → Ordering) (xs ys : List X) → rises R (xs ++ ys) ≡ true → rises R xs ≡ true
first_rises R [] ys up = refl
first_rises R (x ∷ xs) ys up =
    and_from _ _ (first_so _ _ (sym (list_all-append (λ y. is_lt (R x y)) xs ys) ∙ first_so _ _ up)) (first_rises R xs ys (second_so _ _ up))

second_rises : {X : Type 0} (R : X → X → Ordering) (xs ys : List X) → rises R (xs ++ ys) ≡ true → rises R ys ≡ true
second_rises R [] ys up = up
second_rises R (x ∷ xs) ys up = second_rises R xs ys (second_so _ _ up)

rises_map : {X Y : Type 0} (R : Y → Y → Ordering) (f : X → Y) (xs : List X) → rises R (map f xs) ≡ rises (λ x y. R (f x) (f y)) xs
rises_map R f [] = refl
rises_map R f (x ∷ xs) = λ i. list_all-map (λ y. is_lt (R (f x) y)) f xs i && rises_map R f xs i

rises_same : {X : Type 0} (R S : X → X → Ordering) (xs : List X) → ((x y : X) → R x y ≡ S x y) → rises R xs ≡ rises S xs
rises_same R S xs h = ap (λ (T : _ → _ → Ordering). rises T xs) (λ i x y. h x y i)

-- ---- rows of any kind, each with the number of its draw

module _ {I R : Type 0} (items : Draw → List I) (row : ℕ → I → R) (c : I → I → Ordering) (rc : R → R → Ordering)
    (within : (n : ℕ) (x y : I) → rc (row n x) (row n y) ≡ c x y) (across : (n m : ℕ) (x y : I) → nat_cmp n m ≡ Less → rc (row n x) (row m y) ≡ Less) where
  own_rise : (n : ℕ) (xs : List I) → rises rc (map (row n) xs) ≡ rises c xs
  own_rise n xs = rises_map rc (row n) xs ∙ rises_same (λ x y. rc (row n x) (row n y)) c xs (within n)

  below_own : (n m : ℕ) (x : I) (ys : List I) → nat_cmp n m ≡ Less → list_all (λ r. is_lt (rc (row n x) r)) (map (row m) ys) ≡ true
  below_own n m x [] less = refl
  below_own n m x (y ∷ ys) less = and_from _ _ (ap is_lt (across n m x y less)) (below_own n m x ys less)

  below_later : (n : ℕ) (x : I) (ds : List Draw) → AllByRecursion (λ m. nat_cmp n m ≡ Less) (map (λ draw. draw.number) ds)
      → list_all (λ r. is_lt (rc (row n x) r)) (flat_map (λ d. map (row d.number) (items d)) ds) ≡ true
  below_later n x [] all = refl
  below_later n x (d ∷ ds) all =
      list_all-append (λ r. is_lt (rc (row n x) r)) (map (row d.number) (items d)) (flat_map (λ d. map (row d.number) (items d)) ds)
      ∙ and_from _ _ (below_own n d.number x (items d) all.0) (below_later n x ds all.1)

  all_below : (n : ℕ) (xs : List I) (ds : List Draw) → AllByRecursion (λ m. nat_cmp n m ≡ Less) (map (λ draw. draw.number) ds)
      → AllByRecursion (λ x. list_all (λ y. is_lt (rc x y)) (flat_map (λ d. map (row d.number) (items d)) ds) ≡ true) (map (row n) xs)
  all_below n [] ds all = tt
  all_below n (x ∷ xs) ds all = (below_later n x ds all, all_below n xs ds all)

  pub rows_rise : (ds : List Draw) → IsStrictlySortedBy nat_cmp (map (λ draw. draw.number) ds) → AllByRecursion (λ d. rises c (items d) ≡ true) ds
      → rises rc (flat_map (λ d. map (row d.number) (items d)) ds) ≡ true
  rows_rise [] sorted each = refl
  rows_rise (d ∷ ds) sorted each =
      rises_append rc (map (row d.number) (items d)) (flat_map (λ d. map (row d.number) (items d)) ds) (own_rise d.number (items d) ∙ each.0)
      (rows_rise ds (sorted_tail nat_cmp d.number (map (λ draw. draw.number) ds) sorted) each.1)
      (all_below d.number (items d) ds (sorted_head nat_cmp d.number (map (λ draw. draw.number) ds) sorted))

  pub each_rises : (ds : List Draw) → rises rc (flat_map (λ d. map (row d.number) (items d)) ds) ≡ true → AllByRecursion (λ d. rises c (items d) ≡ true) ds
  each_rises [] up = tt
  each_rises (d ∷ ds) up = (
    sym (own_rise d.number (items d)) ∙ first_rises rc (map (row d.number) (items d)) (flat_map (λ d. map (row d.number) (items d)) ds) up,
    each_rises ds (second_rises rc (map (row d.number) (items d)) (flat_map (λ d. map (row d.number) (items d)) ds) up),
  )

-- ---- the rows of the three tables

-- rows of draws by their numbers; of offers by the draw, and then as outcomes; of lots by the draw, and then as lots
abbrev pub head_cmp : DrawRow → DrawRow → Ordering
head_cmp x y = nat_cmp x.draw y.draw

abbrev pub offer_row_cmp : OfferRow → OfferRow → Ordering
offer_row_cmp x y = ordering_then (nat_cmp x.draw y.draw) (outcome_cmp x.outcome y.outcome)

abbrev pub lot_row_cmp : LotRow → LotRow → Ordering
lot_row_cmp x y = ordering_then (nat_cmp x.draw y.draw) (lot_cmp x.lot y.lot)

tied : (n : ℕ) (o : Ordering) → ordering_then (nat_cmp n n) o ≡ o
tied n o = ap (λ first. ordering_then first o) (tied_itself nat_cmp_total n)

less : (n m : ℕ) (o : Ordering) → nat_cmp n m ≡ Less → ordering_then (nat_cmp n m) o ≡ Less
less n m o h = ap (λ first. ordering_then first o) h

both_ordered : (ds : List Draw) → All (λ draw. IsTrue (are_ordered draw)) ds → AllByRecursion (λ draw. are_ordered draw ≡ true) ds
both_ordered ds all = recursion_from_All (λ draw. are_ordered draw ≡ true) ds all

first_of_both : (ds : List Draw) → AllByRecursion (λ draw. are_ordered draw ≡ true) ds → AllByRecursion (λ d. rises outcome_cmp d.outcomes ≡ true) ds
first_of_both [] all = tt
first_of_both (d ∷ ds) all = (first_so _ _ all.0, first_of_both ds all.1)

second_of_both : (ds : List Draw) → AllByRecursion (λ draw. are_ordered draw ≡ true) ds → AllByRecursion (λ d. rises lot_cmp d.lots ≡ true) ds
second_of_both [] all = tt
second_of_both (d ∷ ds) all = (second_so _ _ all.0, second_of_both ds all.1)

pair : (ds : List Draw) → AllByRecursion (λ d. rises outcome_cmp d.outcomes ≡ true) ds → AllByRecursion (λ d. rises lot_cmp d.lots ≡ true) ds → AllByRecursion (λ draw. are_ordered draw ≡ true) ds
pair [] one other = tt
pair (d ∷ ds) one other = (and_from _ _ one.0 other.0, pair ds one.1 other.1)

heads_are : (ds : List Draw) → rises head_cmp (map row_of ds) ≡ rises nat_cmp (map (λ draw. draw.number) ds)
heads_are ds = rises_map head_cmp row_of ds ∙ sym (rises_map nat_cmp (λ draw. draw.number) ds)

pub heads_rise : (ds : List Draw) → AreByNumber ds → rises head_cmp (map row_of ds) ≡ true
heads_rise ds order = heads_are ds ∙ sorted_rises nat_cmp (map (λ draw. draw.number) ds) order.rising

pub offers_rise : (ds : List Draw) → AreByNumber ds → rises offer_row_cmp (flat_map offer_rows_of ds) ≡ true
offers_rise ds order =
    rows_rise (λ d. d.outcomes) offer_row_of outcome_cmp offer_row_cmp (λ n x y. tied n (outcome_cmp x y)) (λ n m x y h. less n m (outcome_cmp x y) h) ds order.rising
    (first_of_both ds (both_ordered ds order.each))

pub lots_rise : (ds : List Draw) → AreByNumber ds → rises lot_row_cmp (flat_map lot_rows_of ds) ≡ true
lots_rise ds order =
    rows_rise (λ d. d.lots) lot_row_of lot_cmp lot_row_cmp (λ n x y. tied n (lot_cmp x y)) (λ n m x y h. less n m (lot_cmp x y) h) ds order.rising
    (second_of_both ds (both_ordered ds order.each))

pub in_order_by_rows : (ds : List Draw) → rises head_cmp (map row_of ds) ≡ true → rises offer_row_cmp (flat_map offer_rows_of ds) ≡ true
    → rises lot_row_cmp (flat_map lot_rows_of ds) ≡ true → AreByNumber ds
in_order_by_rows ds heads offers lots = record {
  rising = rises_sorted nat_cmp (map (λ draw. draw.number) ds) (sym (heads_are ds) ∙ heads);
  each = All-from_recursion (λ draw. are_ordered draw ≡ true) ds (pair ds
      (each_rises (λ d. d.outcomes) offer_row_of outcome_cmp offer_row_cmp (λ n x y. tied n (outcome_cmp x y)) (λ n m x y h. less n m (outcome_cmp x y) h) ds offers)
      (each_rises (λ d. d.lots) lot_row_of lot_cmp lot_row_cmp (λ n x y. tied n (lot_cmp x y)) (λ n m x y h. less n m (lot_cmp x y) h) ds lots));
}
