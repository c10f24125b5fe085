use Rattle.std.proofs.Common.{◌≡◌, map, take}
use Rattle.adm_rows.specs.Present.{present_columns}
use Rattle.adm_rows.proofs.reading.present.all_in.Given as goal

-- the present schools of the rows so far
abbrev pub invariant-rows : goal.invariant-rows
invariant-rows l = map present_columns l.all.items ≡ take l.row-index l.rows
