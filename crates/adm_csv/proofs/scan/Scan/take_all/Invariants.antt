use Rattle.std.proofs.Common.{◌++◌, take}
use Rattle.adm_csv.specs.Ended.{IsScanOf}
use Rattle.adm_csv.proofs.scan.Scan.take_all.Given as goal

abbrev pub invariant-loop-byte : goal.invariant-loop-byte
invariant-loop-byte l = IsScanOf (l.initial.self.text.items ++ take l.byte-index l.bytes) l.self
