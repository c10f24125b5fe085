use Rattle.std.proofs.Common.{◌≡◌, map, take, Some}
use Rattle.adm_rows.proofs.lists.all_some.Given as goal

-- each item so far is there
abbrev pub invariant-items : goal.invariant-items
invariant-items g l = map Some l.all.items ≡ take l.item-index l.items
