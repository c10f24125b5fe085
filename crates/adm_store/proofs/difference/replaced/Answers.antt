use Rattle.std.proofs.Common.{[]}
use Rattle.adm_store.specs.Schools.{replaced_by}
use Rattle.adm_store.proofs.LoopLemmas.{parts_more}
use Rattle.adm_store.proofs.difference.replaced.Goals as goal

pub schools-preserved : goal.schools-preserved
schools-preserved c =
    parts_more (replaced_by c.args.old.now.schools) [] c.args.schools.now c.schools.row-index c.row-item.result _ _ c.schools-test.true c.row-item.is c.schools.invariant
    (rw c.as_ref.ensures at c.in_ok-add_replaced.ensures)
