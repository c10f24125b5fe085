use Rattle.std.proofs.Common.{length}
use Rattle.adm_types.proofs.limits.+is_without_repeat.Given as goal

abbrev pub decreases-is_without_repeat : goal.decreases-is_without_repeat
decreases-is_without_repeat l = length l.codes.now
