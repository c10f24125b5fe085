use Rattle.std.proofs.Common.{[]}
use Rattle.adm_rows.specs.Present.{present_removed_by}
use Rattle.adm_store.proofs.LoopLemmas.{parts_more}
use Rattle.adm_store.proofs.difference.moved.Goals as goal

pub children-preserved : goal.children-preserved
children-preserved c =
    parts_more (present_removed_by c.args.old.now.children) [] c.args.children.now c.children.row-index c.row-item.result _ _ c.children-test.true c.row-item.is
    c.children.invariant (rw (c.present_in.ensures, c.as_ref-child.ensures) at c.in_ok-add_moved.ensures)
