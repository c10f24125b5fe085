use Rattle.std.proofs.Common.{◌-◌, length, drop, map}
use Rattle.adm_round.specs.Round.{pair_of}
use Rattle.adm_round.specs.Lookups.{pair_cmp, HasFirst}
use Rattle.adm_round.proofs.round_index.lots_by_pair.Given as goal

abbrev pub invariant-loop-back : goal.invariant-loop-back
invariant-loop-back l = HasFirst pair_cmp (drop (length l.lots - l.back) (map (λ lot. (pair_of lot, lot.lot)) l.lots)) l.values
