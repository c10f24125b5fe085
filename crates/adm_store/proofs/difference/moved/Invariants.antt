use Rattle.std.proofs.Common.{◌≡◌, take}
use Rattle.adm_rows.specs.Present.{present_removed_of}
use Rattle.adm_store.proofs.difference.moved.Given as goal

-- the rows so far
abbrev pub invariant-children : goal.invariant-children
invariant-children l = l.moved.items ≡ present_removed_of l.old.children (take l.row-index l.children)
