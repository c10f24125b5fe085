use Rattle.std.proofs.Common.{◌≡◌, ◌∙◌, sym, [], map}
use Rattle.std.specs.List.{flat_map}
use Rattle.std.proofs.lemmas.Result.{IfOk-weaker}
use Rattle.std.proofs.lemmas.Option.{IfSome_then}
use Rattle.adm_lists.proofs.Options.{if_none_weaker}
use Rattle.adm_draws.specs.Draws.{row_of, offer_rows_of, lot_rows_of}
use Rattle.adm_draws.specs.Grouped.{draws_after}
use Rattle.adm_draws.proofs.RowOrder.{heads_rise, offers_rise, lots_rise}
use Rattle.adm_draws.proofs.FromRows.{are_rows, are_in_order, gathered_from, one_answer, no_answer}
use Rattle.adm_draws.proofs.gathering.draws_of.Goals as goal

pub returns-in_default-clause-none : goal.returns-in_default-clause-none
returns-in_default-clause-none c = λ list rows order. c.in_default.ensures.none (map row_of list) rows.heads (heads_rise list order)

pub returns-in_default-in_order-clause-none : goal.returns-in_default-in_order-clause-none
returns-in_default-in_order-clause-none c = λ list rows order. c.in_default-in_order.ensures.none (flat_map offer_rows_of list) rows.offers (offers_rise list order)

pub returns-in_default-in_order-2-clause-none : goal.returns-in_default-in_order-2-clause-none
returns-in_default-in_order-2-clause-none c = λ list rows order. c.in_default-in_order-2.ensures.none (flat_map lot_rows_of list) rows.lots (lots_rise list order)

pub returns-clause-made : goal.returns-clause-made
returns-clause-made c =
    let heads = c.in-Some.heads.items in
    let offers = c.in-Some-in_order.offers.items in
    let lots = c.in-Some-in_order-2.lots.items in
    let same : draws_after [] heads offers lots ≡ draws_after [] c.deref.result.now c.deref-2.result.now c.deref-3.result.now =
    λ i. draws_after [] (sym c.deref.ensures.value i) (sym c.deref-2.ensures.value i) (sym c.deref-3.ensures.value i) in
    IfOk-weaker c.gathered.result _ _ (λ made reported. IfSome_then made reported (λ draws is. (
      are_rows c.args.draw_rows.items heads c.args.offer_rows.items offers c.args.lot_rows.items lots draws.items (same ∙ is)
          c.in-Some.ensures.made.0 c.in-Some-in_order.ensures.made.0 c.in-Some-in_order-2.ensures.made.0,
      are_in_order c.args.draw_rows.items heads c.args.offer_rows.items offers c.args.lot_rows.items lots draws.items (same ∙ is)
          c.in-Some.ensures.made.1 c.in-Some-in_order.ensures.made.1 c.in-Some-in_order-2.ensures.made.1,
    )))
    c.gathered.ensures.made

pub returns-clause-only : goal.returns-clause-only
returns-clause-only c =
    let heads = c.in-Some.heads.items in
    let offers = c.in-Some-in_order.offers.items in
    let lots = c.in-Some-in_order-2.lots.items in
    let same : draws_after [] heads offers lots ≡ draws_after [] c.deref.result.now c.deref-2.result.now c.deref-3.result.now =
    λ i. draws_after [] (sym c.deref.ensures.value i) (sym c.deref-2.ensures.value i) (sym c.deref-3.ensures.value i) in
    IfOk-weaker c.gathered.result _ _ (λ made reported. IfSome_then made reported (λ draws is list rows order.
    one_answer (draws_after [] heads offers lots) list draws.items
    (gathered_from c.args.draw_rows.items heads c.args.offer_rows.items offers c.args.lot_rows.items lots list rows order
    c.in-Some.ensures.only c.in-Some-in_order.ensures.only c.in-Some-in_order-2.ensures.only)
    (same ∙ is)))
    c.gathered.ensures.made

pub returns-clause-none : goal.returns-clause-none
returns-clause-none c =
    let heads = c.in-Some.heads.items in
    let offers = c.in-Some-in_order.offers.items in
    let lots = c.in-Some-in_order-2.lots.items in
    let same : draws_after [] heads offers lots ≡ draws_after [] c.deref.result.now c.deref-2.result.now c.deref-3.result.now =
    λ i. draws_after [] (sym c.deref.ensures.value i) (sym c.deref-2.ensures.value i) (sym c.deref-3.ensures.value i) in
    IfOk-weaker c.gathered.result _ _ (λ made reported. if_none_weaker _ _ made reported (λ is list rows order.
    no_answer (draws_after [] heads offers lots) list
    (gathered_from c.args.draw_rows.items heads c.args.offer_rows.items offers c.args.lot_rows.items lots list rows order
    c.in-Some.ensures.only c.in-Some-in_order.ensures.only c.in-Some-in_order-2.ensures.only)
    (same ∙ is)))
    c.gathered.ensures.none
