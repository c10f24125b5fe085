-- How the private functions put rows in order and gather draws from them. Only they cite this.
use Rattle.std.specs.Prelude.{ℕ, Bool, true, false, ◌&&◌, nat_eq, List, [], ◌∷◌, ◌++◌, map, take, drop, Option, Some, None, if◌then◌else◌}
use Rattle.std.specs.declared.cmp.Ordering.{Ordering}
use Rattle.std.specs.Ordering.{is_lt}
use Rattle.std.specs.List.{prefix_len}
use Rattle.adm_types.specs.declared.draws.Draw.{Draw}
use Rattle.adm_types.specs.declared.draws.DrawRow.{DrawRow}
use Rattle.adm_types.specs.declared.draws.OfferRow.{OfferRow}
use Rattle.adm_types.specs.declared.draws.LotRow.{LotRow}
use Rattle.adm_types.specs.declared.draws.Lot.{Lot}
use Rattle.adm_draws.specs.declared.keys.DrawnLot.{DrawnLot}

-- the lot without its child
abbrev pub drawn_lot : Lot → DrawnLot
drawn_lot lot = record { school = lot.school; lot = lot.lot }

-- the first of the others, where there is one, comes after the row
abbrev pub comes_first : {X : Type 0} → (X → X → Ordering) → X → List X → Bool
comes_first cmp x [] = true
comes_first cmp x (y ∷ ys) = is_lt (cmp x y)

-- the row is of the draw of this number
abbrev pub is_offer_of : ℕ → OfferRow → Bool
is_offer_of number row = nat_eq row.draw number

abbrev pub is_lot_of : ℕ → LotRow → Bool
is_lot_of number row = nat_eq row.draw number

-- the rows in front that pass a test, and those behind them
abbrev pub front : {X : Type 0} → (X → Bool) → List X → List X
front test rows = take (prefix_len test rows) rows

abbrev pub later : {X : Type 0} → (X → Bool) → List X → List X
later test rows = drop (prefix_len test rows) rows

-- the draw that has these rows
abbrev pub draw_of : DrawRow → List OfferRow → List LotRow → Draw
draw_of head offers lots = record {
  number = head.draw;
  round = head.round;
  school = head.school;
  day = head.day;
  outcomes = map (λ row. row.outcome) offers;
  lots = map (λ row. row.lot) lots;
}

abbrev pub is_empty : {X : Type 0} → List X → Bool
is_empty [] = true
is_empty (x ∷ xs) = false

-- the draws so far and those of these rows; none where rows remain
abbrev pub draws_after : List Draw → List DrawRow → List OfferRow → List LotRow → Option (List Draw)
draws_after done [] offers lots = if is_empty offers && is_empty lots then Some done else None
draws_after done (head ∷ heads) offers lots =
    draws_after (done ++ draw_of head (front (is_offer_of head.draw) offers) (front (is_lot_of head.draw) lots) ∷ []) heads
    (later (is_offer_of head.draw) offers) (later (is_lot_of head.draw) lots)
