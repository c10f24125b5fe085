use Rattle.std.proofs.Common.{◌∙◌, ◌<◌, true, length, refl, arith}
use Rattle.std.proofs.Math.Seq.{map-set_same}
use Rattle.adm_types.specs.Children.{bare_import}
use Rattle.adm_rows.specs.Joins.{left_rows, import_no}
use Rattle.adm_rows.proofs.JoinGiven.{give_next}
use Rattle.adm_rows.proofs.reading.joined.give_imported.Goals as goal

pub loop-row-preserved : goal.loop-row-preserved
loop-row-preserved c =
    let taken = c.remove-row.ensures in
    let within : c.loop-row.row-index < length c.loop-row.imported = omega arith in
    record {
      same = map-set_same bare_import c.loop-row.imported c.loop-row.row-index _ c.row-item.result refl ∙ c.loop-row.invariant.same;
      given = give_next true import_no (λ row. row.child.present) (left_rows c.args.left.now) c.loop-row.imported c.loop-row.row-index _ c.loop-row.left.entries c.remove-row.new.self.entries within
          c.loop-row.invariant.given taken.value taken.entries taken.updates.1;
    }
