use Rattle.std.proofs.Common.{◌≡◌, take, map}
use Rattle.std.specs.List.{enumerate_from}
use Rattle.adm_round.proofs.Walks.{row_of_place}
use Rattle.adm_round.proofs.round_index.index_rows.Given as goal

abbrev pub invariant-loop-index : goal.invariant-loop-index
invariant-loop-index l = l.rows.items ≡ map row_of_place (enumerate_from 0 (take l.index l.sites))
