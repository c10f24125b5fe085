use Rattle.std.proofs.Common.{◌∙◌, ◌+◌, sym, subst, take}
use Rattle.std.specs.List.Sorted.{IsPermutation}
use Rattle.std.specs.Prelude.{map}
use Rattle.adm_rows.specs.Joins.{present_left_at}
use Rattle.adm_rows.proofs.JoinGiven.{put_row, put_twice}
use Rattle.adm_rows.proofs.reading.joined.by_child.Goals as goal

pub loop-row-preserved : goal.loop-row-preserved
loop-row-preserved c =
    let none = sym c.in-Ok-None.field-0-is ∙ c.in-Ok-None.ensures.old in
    subst (λ es. IsPermutation (take (c.loop-row.row-index + 1) c.args.rows.now) (map present_left_at es)) (sym c.in-Ok-None.ensures.entries)
    (put_row c.args.rows.now c.loop-row.row-index c.row-item.result c.loop-row.left.entries c.loop-row-test.true c.row-item.is c.loop-row.invariant none)

pub returns-in-Ok-Some-clause-bad : goal.returns-in-Ok-Some-clause-bad
returns-in-Ok-Some-clause-bad c is once =
    let some = sym c.in-Ok-Some.field-0-is ∙ c.in-Ok-Some.ensures.old in
    put_twice c.args.rows.now c.loop-row.row-index c.row-item.result c.loop-row.left.entries c.in-Ok-Some.field-0-0 c.loop-row-test.true c.row-item.is c.loop-row.invariant some once
