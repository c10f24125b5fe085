use Rattle.std.proofs.Common.{◌≡◌, take, map}
use Rattle.serde_json.specs.View.{view}
use Rattle.adm_view.specs.Children.{child_data}
use Rattle.adm_view.proofs.children.each_child.Given as goal

-- those so far are those of as many children
abbrev pub invariant-loop-index : goal.invariant-loop-index
invariant-loop-index l = map view l.made.items ≡ map (child_data l.register) (take l.index l.children)
