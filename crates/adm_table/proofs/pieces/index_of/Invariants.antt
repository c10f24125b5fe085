use Rattle.std.proofs.Common.{◌≡◌, ◌-◌, ◌<◌, ◌≤◌, length, take, drop}
use Rattle.std.specs.List.{AllByRecursion}
use Rattle.std.specs.Map.{keys_of}
use Rattle.std.specs.declared.cmp.Ordering.TheVariants.{Less}
use Rattle.adm_table.specs.Pieces.{rows_of_pieces}
use Rattle.adm_table.proofs.pieces.index_of.Given as goal

-- the rows before the index are below the key, and those from the end on above it
abbrev pub invariant-loop-end : goal.invariant-loop-end
invariant-loop-end g l = record {
  ordered : l.index ≤ l.end;
  within : l.end ≤ length l.pieces;
  apart : 0 < length l.pieces → l.index < l.end;
  below : AllByRecursion (λ other. g.K.Ord.cmp other l.key ≡ Less) (keys_of (rows_of_pieces (take l.index l.pieces)));
  above : AllByRecursion (λ other. g.K.Ord.cmp l.key other ≡ Less) (keys_of (rows_of_pieces (drop l.end l.pieces)));
}

abbrev pub decreases-loop-end : goal.decreases-loop-end
decreases-loop-end g l = l.end - l.index
