use Rattle.std.proofs.Common.{◌≡◌, take}
use Rattle.std.specs.List.{flat_map}
use Rattle.adm_rows.specs.Present.{present_added_by}
use Rattle.adm_store.proofs.difference.arrived.Given as goal

-- the rows so far
abbrev pub invariant-children : goal.invariant-children
invariant-children l = l.rows.items ≡ flat_map (present_added_by l.old.children) (take l.row-index l.children)
