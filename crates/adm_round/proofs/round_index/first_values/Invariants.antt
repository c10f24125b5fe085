use Rattle.std.proofs.Common.{◌-◌, length, drop}
use Rattle.adm_round.specs.Lookups.{HasFirst}
use Rattle.adm_round.proofs.round_index.first_values.Given as goal

abbrev pub invariant-loop-back : goal.invariant-loop-back
invariant-loop-back g l = HasFirst g.K.Ord.cmp (drop (length l.rows - l.back) l.rows) l.values
