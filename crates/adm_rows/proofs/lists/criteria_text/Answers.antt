use Rattle.std.proofs.Common.{refl}
use Rattle.adm_types.specs.Criteria.{criterion_text}
use Rattle.adm_rows.proofs.ListLemmas.{appended, not_first}
use Rattle.adm_rows.proofs.lists.criteria_text.Goals as goal

pub items-preserved : goal.items-preserved
items-preserved c = record {
  text = appended criterion_text c.args.criteria.now c.items.item-index c.item-item.result _ _ _ _ c.items-test.true c.item-item.is c.items.invariant.text
      c.items.invariant.first refl c.in_ok-append_criterion.ensures;
  first = not_first criterion_text c.args.criteria.now c.items.item-index c.item-item.result c.items-test.true c.item-item.is;
}
