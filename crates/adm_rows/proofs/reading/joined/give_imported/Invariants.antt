use Rattle.std.proofs.Common.{◌≡◌, take, map, true}
use Rattle.adm_types.specs.Children.{bare_import}
use Rattle.adm_rows.specs.Joins.{left_rows, import_no}
use Rattle.adm_rows.proofs.JoinGiven.{IsGiven}
use Rattle.adm_rows.proofs.reading.joined.give_imported.Given as goal

-- the rows are the same but for their schools, and those before the place have been given theirs
abbrev pub invariant-loop-row : goal.invariant-loop-row
invariant-loop-row l = record {
  same : map bare_import l.imported ≡ map bare_import l.fn.imported;
  given : IsGiven true import_no (λ row. row.child.present) (left_rows l.fn.left) (take l.row-index l.imported) (left_rows l.left);
}
