use Rattle.std.proofs.Common.{◌≡◌, drop}
use Rattle.adm_lists.proofs.Options.{with_front}
use Rattle.adm_types.specs.Joined.{all_some}
use Rattle.adm_csv.proofs.kinds.each_flag.Given as goal

abbrev pub invariant-loop-piece : goal.invariant-loop-piece
invariant-loop-piece l = with_front l.flags.items (all_some (drop l.piece-index l.pieces)) ≡ all_some l.pieces
