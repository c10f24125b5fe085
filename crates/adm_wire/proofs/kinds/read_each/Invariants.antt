use Rattle.std.proofs.Common.{◌≡◌, drop}
use Rattle.serde_json.specs.View.{items_view}
use Rattle.adm_lists.proofs.Options.{with_front}
use Rattle.adm_wire.specs.Kinds.{each}
use Rattle.adm_wire.proofs.kinds.read_each.Given as goal

abbrev pub invariant-loop-item : goal.invariant-loop-item
invariant-loop-item g l =
    with_front l.list.items (each g.T.JsonKind.kind (items_view (drop l.item-index l.items))) ≡ each g.T.JsonKind.kind (items_view l.items)
