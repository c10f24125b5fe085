use Rattle.std.proofs.Common.{◌≡◌, ◌++◌, take}
use Rattle.std.specs.List.{flat_map}
use Rattle.adm_types.specs.Children.{present_of_import}
use Rattle.adm_store.proofs.difference.add_imported.Given as goal

-- the rows so far
abbrev pub invariant-imported : goal.invariant-imported
invariant-imported l = l.rows.items ≡ l.fn.rows.items ++ flat_map present_of_import (take l.row-index l.imported)
