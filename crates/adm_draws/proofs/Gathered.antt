-- Draws that are gathered from rows in order are those, and the only ones, that have the rows.
use Rattle.std.proofs.Common.{◌≡◌, ◌∙◌, ap, sym, refl, ℕ, suc, ◌+◌, cond, Bool, true, false, List, [], ◌∷◌, ◌++◌, take, drop, Some, arith, append_assoc, append-nil, eq-eqb}
use Rattle.std.proofs.lemmas.List.{take-append-drop}
use Rattle.std.proofs.lemmas.Bool.{eqb-true}
use Rattle.std.specs.Prelude.{nat_eq, map}
use Rattle.std.specs.declared.cmp.Ordering.TheVariants.{Less, Equal}
use Rattle.std.specs.Ordering.{nat_cmp}
use Rattle.std.specs.List.{AllByRecursion, flat_map, prefix_len}
use Rattle.std.specs.List.Sorted.{IsStrictlySortedBy}
use Rattle.std.proofs.lemmas.Bool.Decides.{eqb_tells}
use Rattle.std.proofs.lemmas.Cmp.{tied_itself, nat_cmp_total}
use mathlib.Core.Logic.{inl, inr}
use Rattle.std.proofs.lemmas.Map.Keys.{sorted_head, sorted_tail}
use Rattle.adm_types.specs.declared.draws.Draw.{Draw}
use Rattle.adm_types.specs.declared.draws.DrawRow.{DrawRow}
use Rattle.adm_types.specs.declared.draws.OfferRow.{OfferRow}
use Rattle.adm_types.specs.declared.draws.LotRow.{LotRow}
use Rattle.adm_draws.specs.Draws.{row_of, offer_row_of, offer_rows_of, lot_row_of, lot_rows_of}
use Rattle.adm_draws.specs.Grouped.{front, later, is_offer_of, is_lot_of, draw_of, draws_after}

-- ---- the rows in front

module _ {X : Type 0} (p : X → Bool) where
  one_more : (x : X) (xs : List X) → p x ≡ true → prefix_len p (x ∷ xs) ≡ suc (prefix_len p xs)
  one_more x xs h =
      let e : 1 + prefix_len p xs ≡ suc (prefix_len p xs) = omega arith in
      ap (λ b. cond b (1 + prefix_len p xs) 0) h ∙ e

  none_more : (x : X) (xs : List X) → p x ≡ false → prefix_len p (x ∷ xs) ≡ 0
  none_more x xs h = ap (λ b. cond b (1 + prefix_len p xs) 0) h

  pub front_yes : (x : X) (xs : List X) → p x ≡ true → front p (x ∷ xs) ≡ x ∷ front p xs
  front_yes x xs h = ap (λ n. take n (x ∷ xs)) (one_more x xs h)

  pub later_yes : (x : X) (xs : List X) → p x ≡ true → later p (x ∷ xs) ≡ later p xs
  later_yes x xs h = ap (λ n. drop n (x ∷ xs)) (one_more x xs h)

  pub front_no : (x : X) (xs : List X) → p x ≡ false → front p (x ∷ xs) ≡ []
  front_no x xs h = ap (λ n. take n (x ∷ xs)) (none_more x xs h)

  pub later_no : (x : X) (xs : List X) → p x ≡ false → later p (x ∷ xs) ≡ x ∷ xs
  later_no x xs h = ap (λ n. drop n (x ∷ xs)) (none_more x xs h)

other_number : (n m : ℕ) → nat_cmp n m ≡ Less → nat_eq m n ≡ false
other_number n m less =
    elim (eqb_tells m n) [
      | inl same ↦ absurd (differ (sym less ∙ (ap (nat_cmp n) same.1 ∙ tied_itself nat_cmp_total n)))
      | inr other ↦ other.0
    ]
  where
    differ : Less ≡ Equal → ⊥
    differ e = cc

-- ---- rows of any kind, each with the number of its draw

module _ {I R : Type 0} (items : Draw → List I) (row : ℕ → I → R) (number : R → ℕ) (item : R → I)
    (numbered : (n : ℕ) (x : I) → number (row n x) ≡ n) (itself : (n : ℕ) (x : I) → item (row n x) ≡ x) (whole : (r : R) → row (number r) (item r) ≡ r) where
  abbrev is_of : ℕ → R → Bool
  is_of n r = nat_eq (number r) n

  abbrev rows_of : List Draw → List R
  rows_of ds = flat_map (λ d. map (row d.number) (items d)) ds

  none_in_front : (n m : ℕ) (xs : List I) (rest : List R) → nat_cmp n m ≡ Less → front (is_of n) rest ≡ [] → front (is_of n) (map (row m) xs ++ rest) ≡ []
  none_in_front n m [] rest less none = none
  none_in_front n m (x ∷ xs) rest less none = front_no (is_of n) (row m x) (map (row m) xs ++ rest) (ap (λ k. nat_eq k n) (numbered m x) ∙ other_number n m less)

  -- no row of later draws is of this number
  none_later : (n : ℕ) (ds : List Draw) → AllByRecursion (λ m. nat_cmp n m ≡ Less) (map (λ draw. draw.number) ds) → front (is_of n) (rows_of ds) ≡ []
  none_later n [] all = refl
  none_later n (d ∷ ds) all = none_in_front n d.number (items d) (rows_of ds) all.0 (none_later n ds all.1)

  own_front : (n : ℕ) (xs : List I) (rest : List R) → front (is_of n) rest ≡ [] → front (is_of n) (map (row n) xs ++ rest) ≡ map (row n) xs
  own_front n [] rest none = none
  own_front n (x ∷ xs) rest none =
      front_yes (is_of n) (row n x) (map (row n) xs ++ rest) (ap (λ k. nat_eq k n) (numbered n x) ∙ eq-eqb n n refl)
      ∙ ap (λ (rs : List R). row n x ∷ rs) (own_front n xs rest none)

  -- where the front is all of one part, what is behind it is the other
  behind : (n : ℕ) (rs xs ys : List R) → rs ≡ xs ++ ys → front (is_of n) rs ≡ xs → later (is_of n) rs ≡ ys
  behind n rs xs ys e f =
      same_rest xs (later (is_of n) rs) ys (ap (λ (zs : List R). zs ++ later (is_of n) rs) (sym f) ∙ take-append-drop (prefix_len (is_of n) rs) rs ∙ e)
    where
      same_rest : (xs ys zs : List R) → xs ++ ys ≡ xs ++ zs → ys ≡ zs
      same_rest [] ys zs e = e
      same_rest (x ∷ xs) ys zs e =
          let f : xs ++ ys ≡ xs ++ zs = cc in
          same_rest xs ys zs f

  -- the rows of the first draw are in front, and those of the others after them
  pub first_front : (d : Draw) (ds : List Draw) → IsStrictlySortedBy nat_cmp (map (λ draw. draw.number) (d ∷ ds)) → front (is_of d.number) (rows_of (d ∷ ds)) ≡ map (row d.number) (items d)
  first_front d ds sorted =
      own_front d.number (items d) (rows_of ds) (none_later d.number ds (sorted_head nat_cmp d.number (map (λ draw. draw.number) ds) sorted))

  pub first_later : (d : Draw) (ds : List Draw) → IsStrictlySortedBy nat_cmp (map (λ draw. draw.number) (d ∷ ds)) → later (is_of d.number) (rows_of (d ∷ ds)) ≡ rows_of ds
  first_later d ds sorted = behind d.number (rows_of (d ∷ ds)) (map (row d.number) (items d)) (rows_of ds) refl (first_front d ds sorted)

  pub items_again : (n : ℕ) (xs : List I) → map item (map (row n) xs) ≡ xs
  items_again n [] = refl
  items_again n (x ∷ xs) = λ i. itself n x i ∷ items_again n xs i

  -- the rows in front are those of a draw that has what is in them
  pub rows_again : (n : ℕ) (rs : List R) → map (row n) (map item (front (is_of n) rs)) ≡ front (is_of n) rs
  rows_again n [] = refl
  rows_again n (r ∷ rs) = go (nat_eq (number r) n) refl (rows_again n rs)
    where
      go : (b : Bool) → nat_eq (number r) n ≡ b → map (row n) (map item (front (is_of n) rs)) ≡ front (is_of n) rs → map (row n) (map item (front (is_of n) (r ∷ rs))) ≡ front (is_of n) (r ∷ rs)
      go true h rest =
          let f = front_yes (is_of n) r rs h in
          let first : row n (item r) ≡ r = ap (λ k. row k (item r)) (sym (eqb-true (number r) n h)) ∙ whole r in
          ap (λ xs. map (row n) (map item xs)) f ∙ (λ i. first i ∷ rest i) ∙ sym f
      go false h rest =
          let f = front_no (is_of n) r rs h in
          ap (λ xs. map (row n) (map item xs)) f ∙ sym f

  pub all_rows : (n : ℕ) (rs : List R) (ds : List Draw) → later (is_of n) rs ≡ rows_of ds → rs ≡ map (row n) (map item (front (is_of n) rs)) ++ rows_of ds
  all_rows n rs ds e = sym (take-append-drop (prefix_len (is_of n) rs) rs) ∙ (λ i. sym (rows_again n rs) i ++ e i)

-- ---- the draws

pub complete : (done ds : List Draw) → IsStrictlySortedBy nat_cmp (map (λ draw. draw.number) ds)
    → draws_after done (map row_of ds) (flat_map offer_rows_of ds) (flat_map lot_rows_of ds) ≡ Some (done ++ ds)
complete done [] sorted = ap Some (sym (append-nil done))
complete done (d ∷ ds) sorted =
    let front_offers = first_front (λ e. e.outcomes) offer_row_of (λ r. r.draw) (λ r. r.outcome) (λ n x. refl) (λ n x. refl) (λ r. refl) d ds sorted in
    let later_offers = first_later (λ e. e.outcomes) offer_row_of (λ r. r.draw) (λ r. r.outcome) (λ n x. refl) (λ n x. refl) (λ r. refl) d ds sorted in
    let front_lots = first_front (λ e. e.lots) lot_row_of (λ r. r.draw) (λ r. r.lot) (λ n x. refl) (λ n x. refl) (λ r. refl) d ds sorted in
    let later_lots = first_later (λ e. e.lots) lot_row_of (λ r. r.draw) (λ r. r.lot) (λ n x. refl) (λ n x. refl) (λ r. refl) d ds sorted in
    let outcomes : map (λ (r : OfferRow). r.outcome) (offer_rows_of d) ≡ d.outcomes = items_again (λ e. e.outcomes) offer_row_of (λ r. r.draw) (λ r. r.outcome)
    (λ n x. refl) (λ n x. refl) (λ r. refl) d.number d.outcomes in
    let lots : map (λ (r : LotRow). r.lot) (lot_rows_of d) ≡ d.lots = items_again (λ e. e.lots) lot_row_of (λ r. r.draw) (λ r. r.lot) (λ n x. refl) (λ n x. refl) (λ r. refl) d.number d.lots in
    let itself : draw_of (row_of d) (offer_rows_of d) (lot_rows_of d) ≡ d = λ i. record { number = d.number; round = d.round; school = d.school; day = d.day; outcomes = outcomes i; lots = lots i } in
    (λ i. draws_after (done ++ draw_of (row_of d) (front_offers i) (front_lots i) ∷ []) (map row_of ds) (later_offers i) (later_lots i))
    ∙ ap (λ (x : Draw). draws_after (done ++ x ∷ []) (map row_of ds) (flat_map offer_rows_of ds) (flat_map lot_rows_of ds)) itself
    ∙ complete (done ++ d ∷ []) ds (sorted_tail nat_cmp d.number (map (λ draw. draw.number) ds) sorted)
    ∙ ap Some (append_assoc done (d ∷ []) ds)

-- the draws that were gathered have just these rows
pub record Gathers (done : List Draw) (heads : List DrawRow) (offers : List OfferRow) (lots : List LotRow) (draws : List Draw) : Type 0 where
  pub more : List Draw
  pub all : draws ≡ done ++ more
  pub own_heads : heads ≡ map row_of more
  pub own_offers : offers ≡ flat_map offer_rows_of more
  pub own_lots : lots ≡ flat_map lot_rows_of more

pub sound : (done : List Draw) (heads : List DrawRow) (offers : List OfferRow) (lots : List LotRow) (draws : List Draw) → draws_after done heads offers lots ≡ Some draws
    → Gathers done heads offers lots draws
sound done [] [] [] draws h =
    let e : draws ≡ done = cc in
    record { more = []; all = e ∙ sym (append-nil done); own_heads = refl; own_offers = refl; own_lots = refl }
sound done [] [] (l ∷ lots) draws h = absurd (cc)
sound done [] (o ∷ offers) lots draws h = absurd (cc)
sound done (head ∷ heads) offers lots draws h =
    let draw = draw_of head (front (is_offer_of head.draw) offers) (front (is_lot_of head.draw) lots) in
    let rest = sound (done ++ draw ∷ []) heads (later (is_offer_of head.draw) offers) (later (is_lot_of head.draw) lots) draws h in
    record {
      more = draw ∷ rest.more;
      all = rest.all ∙ append_assoc done (draw ∷ []) rest.more;
      own_heads = λ i. head ∷ rest.own_heads i;
      own_offers = all_rows (λ e. e.outcomes) offer_row_of (λ r. r.draw) (λ r. r.outcome) (λ n x. refl) (λ n x. refl) (λ r. refl) head.draw offers rest.more rest.own_offers;
      own_lots = all_rows (λ e. e.lots) lot_row_of (λ r. r.draw) (λ r. r.lot) (λ n x. refl) (λ n x. refl) (λ r. refl) head.draw lots rest.more rest.own_lots;
    }
