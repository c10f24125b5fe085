-- Draws as rows of three tables, their order, and which draws may be in a register. This profile's own rules.
use Rattle.std.specs.Prelude.{ℕ, Bool, true, false, not, ◌&&◌, ◌||◌, nat_eq, List, [], ◌∷◌, map, All, IsTrue, IsPermutation, Option, Some, None, is_some}
use Rattle.std.specs.declared.cmp.Ordering.{Ordering}
use Rattle.std.specs.Ordering.{nat_cmp, ordering_then, is_lt}
use Rattle.std.specs.Cmp.Lexicographic.{slice_cmp}
use Rattle.std.specs.List.{flat_map, list_all}
use Rattle.std.specs.List.Sorted.{IsStrictlySortedBy}
use Rattle.adm_types.specs.Code.{has}
use Rattle.adm_types.specs.Lots.{repeats_lot}
use Rattle.adm_types.specs.declared.draws.Draw.{Draw}
use Rattle.adm_types.specs.declared.draws.DrawRow.{DrawRow}
use Rattle.adm_types.specs.declared.draws.OfferRow.{OfferRow}
use Rattle.adm_types.specs.declared.draws.LotRow.{LotRow}
use Rattle.adm_types.specs.declared.draws.Outcome.{Outcome}
use Rattle.adm_types.specs.declared.draws.Lot.{Lot}

-- ---- the rows of a draw

-- the draw without its outcomes and lots
abbrev pub row_of : Draw → DrawRow
row_of d = record { draw = d.number; round = d.round; school = d.school; day = d.day }

-- an outcome with the number of its draw
abbrev pub offer_row_of : ℕ → Outcome → OfferRow
offer_row_of number outcome = record { draw = number; outcome = outcome }

-- a lot with the number of its draw
abbrev pub lot_row_of : ℕ → Lot → LotRow
lot_row_of number lot = record { draw = number; lot = lot }

-- the outcomes of a draw, in their order, each with the draw's number
abbrev pub offer_rows_of : Draw → List OfferRow
offer_rows_of d = map (offer_row_of d.number) d.outcomes

-- the lots of a draw, in their order, each with the draw's number
abbrev pub lot_rows_of : Draw → List LotRow
lot_rows_of d = map (lot_row_of d.number) d.lots

-- these are the rows of the draws, in any order
pub record AreDrawRowsOf (draw_rows : List DrawRow) (offer_rows : List OfferRow) (lot_rows : List LotRow) (draws : List Draw) : Type 0 where
  pub heads : IsPermutation draw_rows (map row_of draws)
  pub offers : IsPermutation offer_rows (flat_map offer_rows_of draws)
  pub lots : IsPermutation lot_rows (flat_map lot_rows_of draws)

-- ---- their order

-- outcomes by the child's number
abbrev pub outcome_cmp : Outcome → Outcome → Ordering
outcome_cmp x y = nat_cmp x.child y.child

-- lots by the bytes of the school's code, and then by the child's number
abbrev pub lot_cmp : Lot → Lot → Ordering
lot_cmp x y = ordering_then (slice_cmp nat_cmp x.school y.school) (nat_cmp x.child y.child)

-- each comes before all that follow it
abbrev pub rises : {X : Type 0} → (X → X → Ordering) → List X → Bool
rises cmp [] = true
rises cmp (x ∷ xs) = list_all (λ y. is_lt (cmp x y)) xs && rises cmp xs

-- each outcome and each lot once, and in order
abbrev pub are_ordered : Draw → Bool
are_ordered d = rises outcome_cmp d.outcomes && rises lot_cmp d.lots

-- draws by their numbers, each number once, and each draw ordered
pub record AreByNumber (draws : List Draw) : Type 0 where
  pub rising : IsStrictlySortedBy nat_cmp (map (λ draw. draw.number) draws)
  pub each : All (λ draw. IsTrue (are_ordered draw)) draws

-- ---- which draws may be in a register

-- who was moved has a school
abbrev pub fresh_has_school : Outcome → Bool
fresh_has_school outcome = is_some outcome.school || not outcome.fresh

-- the child was allotted this school, where it was not before
abbrev pub is_offered_at : List ℕ → Outcome → Bool
is_offered_at school outcome = outcome.fresh && has outcome.school school

-- a round, which is numbered from 1, has no school; a fill has one, and one outcome, at that school
abbrev pub is_round_or_fill : ℕ → Option (List ℕ) → List Outcome → Bool
is_round_or_fill round None outcomes = not (nat_eq round 0)
is_round_or_fill round (Some school) [] = false
is_round_or_fill round (Some school) (outcome ∷ []) = nat_eq round 0 && is_offered_at school outcome
is_round_or_fill round (Some school) (first ∷ second ∷ outcomes) = false

-- in order, no lot twice at a school, and the draw of a round or of a fill
abbrev pub is_draw : Draw → Bool
is_draw d = are_ordered d && not (repeats_lot d.lots) && list_all fresh_has_school d.outcomes && is_round_or_fill d.round d.school d.outcomes
