use Rattle.std.proofs.Common.{◌∙◌, ◌<◌, false, length, refl, arith}
use Rattle.std.proofs.Math.Seq.{map-set_same}
use Rattle.adm_types.specs.Children.{bare_child}
use Rattle.adm_rows.specs.Joins.{left_rows}
use Rattle.adm_rows.proofs.JoinGiven.{give_next}
use Rattle.adm_rows.proofs.reading.joined.give_children.Goals as goal

pub loop-child-preserved : goal.loop-child-preserved
loop-child-preserved c =
    let taken = c.remove-child.ensures in
    let within : c.loop-child.child-index < length c.loop-child.children = omega arith in
    record {
      same = map-set_same bare_child c.loop-child.children c.loop-child.child-index _ c.child-item.result refl ∙ c.loop-child.invariant.same;
      given = give_next false (λ child. child.no) (λ child. child.present)
          (left_rows c.args.left.now) c.loop-child.children c.loop-child.child-index _ c.loop-child.left.entries c.remove-child.new.self.entries within
          c.loop-child.invariant.given taken.value taken.entries taken.updates.1;
    }
