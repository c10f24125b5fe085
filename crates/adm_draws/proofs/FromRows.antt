-- What is gathered from the rows of three tables, each put in order.
use Rattle.std.proofs.Common.{◌≡◌, ◌∙◌, ap, sym, subst, true, List, [], map, Some, None}
use Rattle.std.specs.Prelude.{IsPermutation}
use Rattle.std.specs.List.{flat_map}
use Rattle.adm_types.specs.declared.draws.Draw.{Draw}
use Rattle.adm_types.specs.declared.draws.DrawRow.{DrawRow}
use Rattle.adm_types.specs.declared.draws.OfferRow.{OfferRow}
use Rattle.adm_types.specs.declared.draws.LotRow.{LotRow}
use Rattle.adm_draws.specs.Draws.{rises, row_of, offer_rows_of, lot_rows_of, AreDrawRowsOf, AreByNumber}
use Rattle.adm_draws.specs.Grouped.{draws_after}
use Rattle.adm_draws.proofs.RowOrder.{head_cmp, offer_row_cmp, lot_row_cmp, heads_rise, offers_rise, lots_rise, in_order_by_rows}
use Rattle.adm_draws.proofs.Gathered.{complete, sound}

module _ (draw_rows heads : List DrawRow) (offer_rows offers : List OfferRow) (lot_rows lots : List LotRow) where
  pub are_rows : (draws : List Draw) → draws_after [] heads offers lots ≡ Some draws → IsPermutation draw_rows heads → IsPermutation offer_rows offers → IsPermutation lot_rows lots
      → AreDrawRowsOf draw_rows offer_rows lot_rows draws
  are_rows draws made one two three =
      let found = sound [] heads offers lots draws made in
      let all : draws ≡ found.more = found.all in
      record {
        heads = subst (IsPermutation draw_rows) (found.own_heads ∙ ap (map row_of) (sym all)) one;
        offers = subst (IsPermutation offer_rows) (found.own_offers ∙ ap (flat_map offer_rows_of) (sym all)) two;
        lots = subst (IsPermutation lot_rows) (found.own_lots ∙ ap (flat_map lot_rows_of) (sym all)) three;
      }

  pub are_in_order : (draws : List Draw) → draws_after [] heads offers lots ≡ Some draws → rises head_cmp heads ≡ true → rises offer_row_cmp offers ≡ true → rises lot_row_cmp lots ≡ true
      → AreByNumber draws
  are_in_order draws made one two three =
      let found = sound [] heads offers lots draws made in
      let all : draws ≡ found.more = found.all in
      in_order_by_rows draws
      (ap (rises head_cmp) (sym (found.own_heads ∙ ap (map row_of) (sym all))) ∙ one)
      (ap (rises offer_row_cmp) (sym (found.own_offers ∙ ap (flat_map offer_rows_of) (sym all))) ∙ two)
      (ap (rises lot_row_cmp) (sym (found.own_lots ∙ ap (flat_map lot_rows_of) (sym all))) ∙ three)

  -- draws in order that have the rows are what is gathered from them
  pub gathered_from : (list : List Draw) → AreDrawRowsOf draw_rows offer_rows lot_rows list → AreByNumber list
      → ((rows : List DrawRow) → IsPermutation draw_rows rows → rises head_cmp rows ≡ true → rows ≡ heads)
      → ((rows : List OfferRow) → IsPermutation offer_rows rows → rises offer_row_cmp rows ≡ true → rows ≡ offers)
      → ((rows : List LotRow) → IsPermutation lot_rows rows → rises lot_row_cmp rows ≡ true → rows ≡ lots)
      → draws_after [] heads offers lots ≡ Some list
  gathered_from list rows order one two three =
      let e = one (map row_of list) rows.heads (heads_rise list order) in
      let f = two (flat_map offer_rows_of list) rows.offers (offers_rise list order) in
      let g = three (flat_map lot_rows_of list) rows.lots (lots_rise list order) in
      (λ i. draws_after [] (sym e i) (sym f i) (sym g i)) ∙ complete [] list order.rising

pub one_answer : (made : _) (x y : List Draw) → made ≡ Some x → made ≡ Some y → x ≡ y
one_answer made x y h k = cc

pub no_answer : (made : _) (x : List Draw) → made ≡ Some x → made ≡ None → ⊥
no_answer made x h k = cc
