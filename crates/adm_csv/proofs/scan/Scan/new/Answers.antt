use Rattle.std.proofs.Common.{refl, arith}
use Rattle.csv.specs.Reading.{strip_bom}
use Rattle.adm_csv.proofs.scan.Scan.new.Goals as goal

pub returns : goal.returns
unfolding strip_bom
returns c = (c.new.ensures.items, refl, refl, omega arith)
