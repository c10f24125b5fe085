use Rattle.std.proofs.Common.{◌≡◌, take, map}
use Rattle.adm_types.specs.declared.rows.Row.{Row as ImportRow}
use Rattle.adm_commands.proofs.commands.import.children_of.Given as goal

-- those so far are of the first rows
abbrev pub invariant-loop-row : goal.invariant-loop-row
invariant-loop-row l = l.children.items ≡ map (λ (r : ImportRow). r.child) (take l.row-index l.rows)
