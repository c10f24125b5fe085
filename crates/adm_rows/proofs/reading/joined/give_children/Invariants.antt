use Rattle.std.proofs.Common.{◌≡◌, take, map, false}
use Rattle.adm_types.specs.Children.{bare_child}
use Rattle.adm_rows.specs.Joins.{left_rows}
use Rattle.adm_rows.proofs.JoinGiven.{IsGiven}
use Rattle.adm_rows.proofs.reading.joined.give_children.Given as goal

-- the children are the same but for their schools, and those before the place have been given theirs
abbrev pub invariant-loop-child : goal.invariant-loop-child
invariant-loop-child l = record {
  same : map bare_child l.children ≡ map bare_child l.fn.children;
  given : IsGiven false (λ child. child.no) (λ child. child.present) (left_rows l.fn.left) (take l.child-index l.children) (left_rows l.left);
}
