use Rattle.std.proofs.Common.{rules}
use Rattle.std.specs.Fmt.{decimal}
use Rattle.adm_rows.proofs.ListLemmas.{appended, not_first}
use Rattle.adm_rows.proofs.lists.days_text.Goals as goal

pub items-preserved : goal.items-preserved
items-preserved c = record {
  text = appended decimal c.args.days.now c.items.day-index c.day-item.result _ _ _ _ c.items-test.true c.day-item.is c.items.invariant.text c.items.invariant.first
      (search rules) c.in_ok-append.ensures;
  first = not_first decimal c.args.days.now c.items.day-index c.day-item.result c.items-test.true c.day-item.is;
}
