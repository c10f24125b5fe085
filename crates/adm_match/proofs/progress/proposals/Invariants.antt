use Rattle.std.proofs.Common.{◌≡◌, ◌≤◌, ◌*◌, ◌^◌, take}
use Rattle.std.specs.List.{sum_by}
use Rattle.adm_match.specs.Turns.{reached}
use Rattle.adm_match.proofs.progress.proposals.Given as goal

abbrev pub invariant-loop-row : goal.invariant-loop-row
invariant-loop-row l = (l.total ≡ sum_by reached (take l.row-index l.rows)) × (l.total ≤ l.row-index * 2 ^ 64)
