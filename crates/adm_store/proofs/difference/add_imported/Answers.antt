use Rattle.adm_types.specs.Children.{present_of_import}
use Rattle.adm_store.proofs.LoopLemmas.{parts_more}
use Rattle.adm_store.proofs.difference.add_imported.Goals as goal

pub imported-preserved : goal.imported-preserved
imported-preserved c =
    parts_more present_of_import _ c.args.imported.now c.imported.row-index c.row-item.result _ _ c.imported-test.true c.row-item.is c.imported.invariant
    (rw c.as_ref.ensures at c.in_ok-add_present.ensures)
