use Rattle.adm_letters.specs.Lists.{list_row}
use Rattle.adm_letters.proofs.Joined.{next_line}
use Rattle.adm_letters.proofs.lists.put_rows.Goals as goal

pub loop-entry-preserved : goal.loop-entry-preserved
loop-entry-preserved c =
    next_line list_row c.args.waiting.now c.loop-entry.entry-index c.entry-item.result _ _ _ c.loop-entry-test.true c.entry-item.is c.loop-entry.invariant c.in_ok-put_row.ensures
