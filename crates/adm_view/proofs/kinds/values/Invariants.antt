use Rattle.std.proofs.Common.{◌≡◌, take, map}
use Rattle.serde_json.specs.View.{view}
use Rattle.adm_view.proofs.kinds.values.Given as goal

-- those so far are those of as many items
abbrev pub invariant-loop-item : goal.invariant-loop-item
invariant-loop-item g l = map view l.made.items ≡ map g.T.Kind.form (take l.item-index l.items)
